-- A parent whose clause the line covers, as code looks for it; and which rule an inference is.
use Rattle.std.specs.Prelude.{ℕ, ◌<◌, ◌≤◌, ◌≡◌, List, [], ◌∷◌, length, Some, None, Option, get_or, slice_get, refl}
use Rattle.std.proofs.Common.{ap, sym, subst, ◌∙◌, arith, zero, suc, inl, inr}
use Rattle.std.proofs.lemmas.Option.{slice_get_within, slice_get-get_or}
use Rattle.fof_terms.specs.declared.form.Form.{Form}
use Rattle.fof_terms.specs.Vocabulary.{Vocabulary}
use Rattle.clause_form.specs.declared.path.Parent.{Parent}
use Rattle.clause_form.specs.declared.clause.Clause.{Clause}
use Rattle.clause_form.specs.ClauseView.{clause_of}
use Rattle.clause_form.specs.Covers.{lit_image, scope_of, AreSorted, Covers, CoversBy, IsCovered}
use Rattle.fof_terms.specs.declared.term.Term.{Term}
use Rattle.clause_proofs.specs.declared.opening.Opened.{Opened}
use Rattle.clause_proofs.specs.Bodies.{IsOpening}
use Rattle.inference_proofs.proofs.Kept.{image_from}
use Rattle.clause_rules.specs.EqFactorRule.{IsEqFactorStep}
use Rattle.clause_rules.specs.ParamodulationRule.{IsParamodulationStep}
use Rattle.clause_rules.specs.ResolutionRule.{IsResolutionStep}
use Rattle.clause_rules.specs.Settled.{IsFit, Settles}
use Rattle.clause_rules.specs.Steps.{AreCovered, AreReady, IsClauseAt, IsReady, images_of_parents, instances, scope_of_both}
use Rattle.rule_steps.proofs.ClauseSorts.{clause_sorted}
use Rattle.clause_proofs.proofs.ReadyParents.{of_theory, parent_ready}
use Rattle.clause_proofs.specs.Refuting.{theory_of}
use Rattle.clause_proofs.specs.Shown.{ShowsLine}
use Rattle.kernel.specs.declared.proof.Proof.{Proof}
use Rattle.rule_proofs.proofs.Joints.{parent_clause}
use Rattle.superpose.specs.Drafts.{Draft, IsMadeBy}
use Rattle.superpose.specs.Inferences.{IsDraftOfOne, IsDraftOfTwo}
use Rattle.inference_proofs.specs.code.Covering.{IsByParent}
use Rattle.inference_proofs.specs.Inferred.{IsInferred, IsInferredFromOne, IsInferredFromTwo, IsRuleStep, CoversParent}
use Rattle.inference_proofs.proofs.AsSteps.{resolution_is_step, superposition_is_step, other_way, factoring_covers, equation_covers, equations_factor}

-- the parent at a place, whose clause is known
clause_there : (parents : List Parent) (a : ℕ) (c : Clause) → IsClauseAt parents a c → (p : Parent) × (slice_get parents a ≡ Some p) × (clause_of p.form ≡ Some c)
clause_there [] a c e = cc
clause_there (p ∷ parents) zero c e = (p, refl, cc)
clause_there (p ∷ parents) (suc a) c e = clause_there parents a c e

-- the clause that a ready formula is
pub clause_fit : (v : Vocabulary) (a : Form) (c : Clause) → IsReady v a → clause_of a ≡ Some c → IsFit v c
clause_fit v a c ready is =
    let both = clause_sorted v a c ready.fits is in
    record { sorted = both.0; few = omega (arith, both.1, ready.few_binders) }

at_sorted : (v : Vocabulary) (parents : List Parent) (a : ℕ) (c : Clause) → AreReady v parents → IsClauseAt parents a c → AreSorted v (scope_of c) c.lits
at_sorted v parents a c ready at =
    let p = clause_there parents a c at in
    (clause_fit v p.0.form c (parent_ready v parents a p.0 ready p.1) p.2).sorted

module _ (v : Vocabulary) (parents : List Parent) (line : Form) where
  two_step : AreReady v parents → (i : IsInferredFromTwo v parents line) → (f : Draft) → IsDraftOfTwo i.first i.second f → IsMadeBy v (scope_of_both i.first i.second) f i.conclusion i.images → IsRuleStep v parents line
  two_step ready i f (inl r) made =
      inl (
        i.a,
        i.b,
        r.i,
        r.j,
        i.first,
        i.second,
        i.conclusion,
        [],
        i.images,
        record { line_clause = i.line_clause; left_clause = i.first_clause; right_clause = i.second_clause; resolves = resolution_is_step v i.first i.second i.conclusion f i.images made r.i r.j r.at },
      )
  two_step ready i f (inr p) made =
      inr (inl (
        i.b,
        i.a,
        p.j,
        p.place,
        p.i,
        p.flipped,
        i.second,
        i.first,
        i.conclusion,
        [],
        other_way v i.first i.second i.conclusion i.images [],
        record {
          line_clause = i.line_clause;
          into_clause = i.second_clause;
          from_clause = i.first_clause;
          paramodulates = superposition_is_step v i.first i.second i.conclusion f i.images made p.i p.flipped p.j p.place p.at
              (at_sorted v parents i.a i.first ready i.first_clause) (at_sorted v parents i.b i.second ready i.second_clause);
        },
      ))

  one_step : (i : IsInferredFromOne v parents line) → (f : Draft) → IsDraftOfOne i.premise f → IsMadeBy v (scope_of i.premise) f i.conclusion i.images → IsRuleStep v parents line
  one_step i f (inl p) made =
      inr (inr (inr (record { a = i.a; clause = i.premise; line_lits = i.conclusion; parent_clause = i.parent_clause; line_clause = i.line_clause; covers = ([], i.images, factoring_covers v i.premise i.conclusion f i.images made p.i p.j p.at) })))
  one_step i f (inr (inl p)) made =
      inr (inr (inr (record { a = i.a; clause = i.premise; line_lits = i.conclusion; parent_clause = i.parent_clause; line_clause = i.line_clause; covers = ([], i.images, equation_covers v i.premise i.conclusion f i.images made p.i p.at) })))
  one_step i f (inr (inr p)) made =
      inr (inr (inl (
        i.a,
        p.i,
        p.first_flipped,
        p.j,
        p.second_flipped,
        i.premise,
        i.conclusion,
        [],
        i.images,
        record { line_clause = i.line_clause; parent_clause = i.parent_clause; factors = equations_factor v i.premise i.conclusion f i.images made p.i p.first_flipped p.j p.second_flipped p.at },
      )))

  pub inferred_is_step : AreReady v parents → IsInferred v parents line → IsRuleStep v parents line
  inferred_is_step ready (inl i) = two_step ready i i.infers.0 i.infers.1 i.infers.2
  inferred_is_step ready (inr i) = one_step i i.infers.0 i.infers.1 i.infers.2

  pub line_is_clause : IsRuleStep v parents line → (e : Clause) × (clause_of line ≡ Some e)
  line_is_clause (inl (a, b, i, j, left, right, e, more, s, at)) = (e, at.line_clause)
  line_is_clause (inr (inl (a, b, i, place, j, flipped, into, from, e, more, s, at))) = (e, at.line_clause)
  line_is_clause (inr (inr (inl (a, i, first_flipped, j, second_flipped, c, e, more, s, at)))) = (e, at.line_clause)
  line_is_clause (inr (inr (inr h))) = (h.line_lits, h.line_clause)

-- the clause of the parent at this place is covered
abbrev pub CoversAt : Vocabulary → List Parent → Clause → ℕ → Type 0
CoversAt w parents e a = (c : Clause) × IsClauseAt parents a c × Covers w c e

-- parents as code looks through them
module _ (w : Vocabulary) (parents : List Parent) (line : Form) (e : Clause) where
  pub not_here : (a : ℕ) (r : Parent) (o : Option Proof) → o ≡ None → r ≡ get_or parents a r → IsByParent w r line e o → CoversAt w parents e a → ⊥
  not_here a r o is ri h found = (subst (IsByParent w r line e) is h) found.0 (parent_clause parents a found.0 r found.1 ri) found.2

  pub not_anywhere : (n : ℕ) → length parents ≤ n → ((j : ℕ) → j < n → CoversAt w parents e j → ⊥) → clause_of line ≡ Some e → CoversParent w parents line → ⊥
  not_anywhere n all none is p =
      let both : Some p.line_lits ≡ Some e = sym p.line_clause ∙ is in
      let same : p.line_lits ≡ e = cc in
      let there = clause_there parents p.a p.clause p.parent_clause in
      let within = slice_get_within parents p.a there.0 there.1 in
      none p.a (omega arith) (p.clause, p.parent_clause, subst (Covers w p.clause) same p.covers)

  pub from_parent : (a : ℕ) (r : Parent) (p : Proof) (o : Option Proof) → o ≡ Some p → a < length parents → r ≡ get_or parents a r → IsByParent w r line e o → ShowsLine w parents line p
  from_parent a r p o is lt ri h formulas all =
      let there : slice_get parents a ≡ Some r = slice_get-get_or parents a r lt ∙ ap Some (sym ri) in
      (subst (IsByParent w r line e) is h) formulas (of_theory (theory_of w formulas) parents a r all there)

-- clauses as code opens them
pub opened_fit : (v : Vocabulary) (a : Form) (o : Option Opened) (x : Opened) → o ≡ Some x → IsReady v a → IsOpening a o → IsFit v x.clause
opened_fit v a o x is ready opening = clause_fit v a x.clause ready (subst (IsOpening a) is opening).0

pub settled_covers : (v : Vocabulary) (line c : Clause) (o : Option (List Term)) (x : List Term) → o ≡ Some x → Settles v line (scope_of c) (CoversBy v (scope_of c) c.lits line) o
    → AreCovered line.lits (instances (images_of_parents line x) c.lits)
settled_covers v line c o x is settles i k at =
    let shown = subst (Settles v line (scope_of c) (CoversBy v (scope_of c) c.lits line)) is settles in
    let from = image_from (lit_image (images_of_parents line x)) c.lits k i at in
    subst (IsCovered line.lits) from.2 (shown.1.covered i from.0 from.1)

-- one of the rules gives it
pub none_gives : (v : Vocabulary) (parents : List Parent) (line : Form) → IsRuleStep v parents line
    → (IsResolutionStep v parents line → ⊥) → (IsParamodulationStep v parents line → ⊥) → (IsEqFactorStep v parents line → ⊥) → (CoversParent v parents line → ⊥) → ⊥
none_gives v parents line i a b c d = elim i [
  | inl h ↦ a h
  | inr rest ↦ elim rest [
    | inl h ↦ b h
    | inr more ↦ elim more [
      | inl h ↦ c h
      | inr h ↦ d h
    ]
  ]
]
