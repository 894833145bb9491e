-- Steps that lead to further hypotheses.
use Rattle.std.specs.Prelude.{ℕ, ◌≡◌, ◌+◌, List, [], ◌∷◌, ◌++◌, ◌⊎◌, length, Some, slice_get, refl}
use Rattle.std.specs.List.{Contains}
use Rattle.std.proofs.Common.{ap, sym, subst, ◌∙◌, arith, inl, inr}
use Rattle.std.proofs.lemmas.List.{length-append}
use Rattle.fof_terms.specs.Sorts.{Sorted}
use Rattle.fof_terms.specs.declared.form.Form.{Form, Or}
use Rattle.fof_terms.proofs.Scoped.{sorted_of_not}
use Rattle.clause_form.specs.ClauseView.{form_of_lit}
use Rattle.clause_form.specs.declared.clause.Lit.{Lit}
use Rattle.clause_proofs.specs.Refuting.{IsDenial}
use Rattle.derive_kit.proofs.Built.{cut_shows}
use Rattle.kernel.specs.Statements.{Statements}
use Rattle.kernel.specs.Proves.{Proves}
use Rattle.kernel.specs.declared.proof.Proof.{Proof, ImpE, ImpI, NotI}
use Rattle.kernel.proofs.Building.{by_not_i}
use Rattle.sat_step.specs.Decisions.{opposite}
use Rattle.chain_proofs.specs.Facts.{Holds, all_false, denied_form, not_all_false}
use Rattle.chain_proofs.specs.Stretches.{IsStretchProof, Lead, LeadTo}
use Rattle.chain_proofs.specs.code.Parts.{IsRefutedBy}
use Rattle.chain_proofs.specs.code.Steps.{wrapped}
use Rattle.chain_proofs.specs.code.Walks.{IsAdvanced, LacksOnly}
use Rattle.chain_proofs.specs.declared.fact.Fact.{Fact}
use Rattle.chain_proofs.specs.declared.stretching.Step.{Step}
use Rattle.chain_proofs.specs.declared.stretching.Stretch.{Stretch}
use Rattle.chain_proofs.proofs.Literals.{opposite_twice}
use Rattle.chain_proofs.proofs.Parting.{all_known, begun, denied_sorted, grown, one_behind}

lead_more : (t : Statements) (h : List Form) (steps : List Step) (g : List Form) (s : Step) → Lead t h steps g → Proves t [] g s.part s.fact → Lead t h (steps ++ s ∷ []) (s.fact ∷ g)
lead_more t h [] g s e w = (subst (λ (x : List Form). Proves t [] x s.part s.fact) e w, ap (λ (x : List Form). s.fact ∷ x) e)
lead_more t h (r ∷ steps) g s e w = (e.0, lead_more t (r.fact ∷ h) steps g s e.1 w)

lead_wrapped : (t : Statements) (h : List Form) (steps : List Step) (g : List Form) (p : Proof) → Lead t h steps g → Proves t [] g p (Or []) → Proves t [] h (wrapped steps p) (Or [])
lead_wrapped t h [] g p e w = subst (λ (x : List Form). Proves t [] x p (Or [])) e w
lead_wrapped t h (s ∷ steps) g p e w = cut_shows s.part (wrapped steps p) s.fact t [] h (Or []) e.0 (lead_wrapped t (s.fact ∷ h) steps g p e.1 w)

-- one step less around the part
pub wrapped_more : (steps : List Step) (s : Step) (p : Proof) → wrapped (steps ++ s ∷ []) p ≡ wrapped steps (ImpE (ImpI s.fact p) s.part)
wrapped_more [] s p = refl
wrapped_more (r ∷ steps) s p = ap (λ (q : Proof). ImpE (ImpI r.fact q) r.part) (wrapped_more steps s p)

-- no step
pub no_step : (t : Statements) (first : List Lit) → LeadTo t first [] first
no_step t first = record { hypotheses = all_false first ∷ []; lead = refl; context = begun first }

-- one step more, or none where the literal was known
pub advanced : (base count : ℕ) (f : Fact) (l : Lit) (old new : List Lit) (steps more : List Step) (refuted part : Proof) (fact : Form) → count ≡ length old + 1 → IsRefutedBy old base count f refuted → IsDenial l refuted part → fact ≡ denied_form l
    → ((new ≡ old ++ l ∷ []) × (more ≡ steps ++ record { fact = fact; part = part } ∷ [])) ⊎ ((new ≡ old) × Contains old l × (more ≡ steps)) → IsAdvanced base f l old steps new more
advanced base count f l old new steps more refuted part fact count_is shows denies fact_is how = record {
  lits = elim how [ inl two ↦ inl two.0 | inr three ↦ inr (three.0, three.1) ];
  leads = λ t first base_is sorted holds there lacks before. elim how [
    | inl two ↦
        let whole : Sorted t.vocabulary [] (all_false f.lits) = sorted_of_not t.vocabulary [] 2147483647 (all_false f.lits) holds.sorted in
        let own : Sorted t.vocabulary [] (denied_form (opposite l)) = denied_sorted t f.lits whole (opposite l) there in
        let long : length (old ++ opposite l ∷ []) ≡ count = length-append old (opposite l ∷ []) ∙ sym count_is in
        let falsehood = shows t first (old ++ opposite l ∷ []) (denied_form (opposite l) ∷ before.hypotheses) base_is long (grown first old before.hypotheses (opposite l) before.context) sorted holds (one_behind old (opposite l) f lacks) in
        let twice : denied_form (opposite l) ≡ form_of_lit l = ap form_of_lit (opposite_twice l) in
        let denied : Proves t [] before.hypotheses part (denied_form l) =
        denies t [] before.hypotheses (subst (Sorted t.vocabulary []) twice own) (subst (λ (a : Form). Proves t [] (a ∷ before.hypotheses) refuted (Or [])) twice falsehood) in
        let step : Step = record { fact = fact; part = part } in
        let stepped : Proves t [] before.hypotheses part fact = subst (Proves t [] before.hypotheses part) (sym fact_is) denied in
        subst (λ (ls : List Lit). LeadTo t first more ls) (sym two.0)
        (subst (λ (ss : List Step). LeadTo t first ss (old ++ l ∷ [])) (sym two.1)
        (record {
          hypotheses = denied_form l ∷ before.hypotheses;
          lead = subst (λ (a : Form). Lead t (all_false first ∷ []) (steps ++ step ∷ []) (a ∷ before.hypotheses)) fact_is (lead_more t (all_false first ∷ []) steps before.hypotheses step before.lead stepped);
          context = grown first old before.hypotheses l before.context;
        }))
    | inr three ↦ subst (λ (ls : List Lit). LeadTo t first more ls) (sym three.0) (subst (λ (ss : List Step). LeadTo t first ss old) (sym three.2) before)
  ];
}

-- the proof of a stretch
pub finished : (s : Stretch) (last : Fact) (base count : ℕ) (denied : Form) (refuted part : Proof) → base ≡ length s.lits → count ≡ length s.known.lits → denied ≡ all_false s.lits → IsRefutedBy s.known.lits base count last refuted → part ≡ wrapped s.steps refuted
    → IsStretchProof s last (NotI denied part)
finished s last base count denied refuted part base_is count_is denied_is shows part_is t sorted led holds all =
    let falsehood = shows t s.lits s.known.lits led.hypotheses (sym base_is) (sym count_is) led.context sorted holds (all_known s.known.lits last all) in
    let whole = lead_wrapped t (all_false s.lits ∷ []) s.steps led.hypotheses refuted led.lead falsehood in
    subst (λ (a : Form). Proves t [] [] (NotI a part) (not_all_false s.lits)) (sym denied_is)
    (by_not_i t [] [] (all_false s.lits) part sorted (subst (λ (p : Proof). Proves t [] (all_false s.lits ∷ []) p (Or [])) (sym part_is) whole))
