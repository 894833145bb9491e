-- A derivation that is found is one of a sound refutation.
use Rattle.std.specs.Prelude.{ℕ, zero, suc, ◌≡◌, ◌<◌, ◌≤◌, ◌+◌, ◌^◌, ◌||◌, nat_lt, List, [], ◌∷◌, length, take, replicate, Some, slice_get}
use Rattle.std.specs.List.{list_any}
use Rattle.std.proofs.Common.{ap, sym, subst, ◌∙◌, arith, inl, inr}
use Rattle.std.proofs.lemmas.Bool.{or_parts, ltb-false}
use Rattle.std.proofs.lemmas.List.{length-map, length-take}
use Rattle.std.proofs.lemmas.Option.{slice_get_within}
use Rattle.inference_proofs.proofs.Kept.{has_split}
use Rattle.clause_form.specs.declared.clause.Clause.{Clause}
use Rattle.clause_form.specs.Paths.{forms_of}
use Rattle.clause_form.specs.Sizes.{clause_count_of}
use Rattle.fof_terms.specs.Vocabulary.{Vocabulary}
use Rattle.sort_check.specs.declared.line.GivenEntry.{GivenEntry}
use Rattle.saturation.specs.declared.member.Member.{Member}
use Rattle.saturation.specs.declared.member.Origin.{Origin}
use Rattle.saturation.specs.declared.member.Origin.TheVariants.{Input, Inferred}
use Rattle.saturation.specs.Members.{clauses_of}
use Rattle.saturation.specs.Origins.{Makes}
use Rattle.step_clauses.specs.Inputs.{search_input, step_forms}
use Rattle.step_clauses.specs.Wide.{is_heavy, is_large}
use Rattle.given_parts.specs.declared.part.Part.{Part}
use Rattle.given_parts.specs.Owners.{owners_from}
use Rattle.given_parts.specs.Parts.{part_of, parts_of}
use Rattle.refutation_lines.specs.Lines.{lines_of}
use Rattle.refutation_lines.specs.Plans.{Refutation, owners_in, plan_of}
use Rattle.refutation_lines.specs.declared.derivation.Derivation.{Derivation}
use Rattle.refutation_lines.proofs.PlanFacts.{owners_count}
use Rattle.problem_proofs.specs.Found.{IsFound, refutation_by}
use Rattle.problem_proofs.specs.Posed.{clauses_of_given, falsehood, parents_of, with_functions}
use Rattle.problem_proofs.proofs.PosedFacts.{clauses_are}
use Rattle.derivation_order.specs.Links.{AreLinked}
use Rattle.derivation_order.proofs.Linked.{linked_lines}
use Rattle.derivation_order.proofs.Marked.{IsSound, Reaches}

-- ---- owners

repeated : (n k i o : ℕ) → slice_get (replicate n k) i ≡ Some o → o ≡ k
repeated zero k i o e = cc
repeated (suc n) k zero o e = cc
repeated (suc n) k (suc i) o e = repeated n k i o e

pub owner_below : (k : ℕ) (parts : List Part) (i o : ℕ) → slice_get (owners_from k parts) i ≡ Some o → o < k + length parts
owner_below k [] i o e = cc
owner_below k (p ∷ parts) i o e =
    elim (has_split (replicate (clause_count_of p.norm) k) (owners_from (k + 1) parts) o i e) [
      | inl here ↦ let same = repeated (clause_count_of p.norm) k here.0 o here.1 in omega arith
      | inr later ↦ let lt = owner_below (k + 1) parts later.0 o later.1 in omega arith
    ]

-- ---- origins

module _ (v : Vocabulary) (given : List GivenEntry) (limit : ℕ) (d : Derivation) (f : IsFound v given limit d) where
  abbrev r : Refutation
  r = refutation_by v given f.members f.last

  within_first : (n : ℕ) (members : List Member) (a : ℕ) (c : Clause) → slice_get (clauses_of (take n members)) a ≡ Some c → (a < n) × (a < length members)
  within_first n members a c e =
      let lt = slice_get_within (clauses_of (take n members)) a c e in
      let long = length-map (take n members) (λ (m : Member). m.clause) in
      let short = length-take n members in
      (omega arith, omega arith)

  made_before : (n : ℕ) (e : Clause) (o : Origin) → Makes (with_functions v given) (clauses_of_given v given) (clauses_of (take n f.members)) e o → Reaches r n o
  made_before n e (Input i) makes = slice_get_within (clauses_of_given v given) i e makes
  made_before n e (Inferred a b images) makes =
      elim makes [
        | inl two ↦ (
          (within_first n f.members a two.first two.first_at).0,
          (within_first n f.members b two.second two.second_at).0,
        )
        | inr one ↦
            let lt : a < n = (within_first n f.members a one.premise one.premise_at).0 in
            let same = one.twice in
            (lt, omega arith)
      ]

  made_last : (e : Clause) (o : Origin) → Makes (with_functions v given) (clauses_of_given v given) (clauses_of f.members) e o → Reaches r (length f.members) o
  made_last e (Input i) makes = slice_get_within (clauses_of_given v given) i e makes
  made_last e (Inferred a b images) makes =
      let long = length-map f.members (λ (m : Member). m.clause) in
      elim makes [
        | inl two ↦
            let la = slice_get_within (clauses_of f.members) a two.first two.first_at in
            let lb = slice_get_within (clauses_of f.members) b two.second two.second_at in
            (omega arith, omega arith)
        | inr one ↦
            let la = slice_get_within (clauses_of f.members) a one.premise one.premise_at in
            let same = one.twice in
            (omega arith, omega arith)
      ]

  -- ---- how many clauses

  few_inputs : length (clauses_of_given v given) ≤ 10000
  few_inputs =
      let next = length v.symbols in
      let forms = forms_of (parents_of given) in
      let wide = or_parts (list_any is_large (step_forms forms falsehood)) (nat_lt 10000 (length (search_input next forms falsehood)) || list_any is_heavy (search_input next forms falsehood)) f.narrow in
      let more = or_parts (nat_lt 10000 (length (search_input next forms falsehood))) (list_any is_heavy (search_input next forms falsehood)) wide.1 in
      ltb-false 10000 (length (search_input next forms falsehood)) more.0

  few_members : length f.members ≤ limit
  few_members = let within = f.refuted.within in let long = length-map f.members (λ (m : Member). m.clause) in omega arith

  owned_count : length (owners_in r) ≡ length (clauses_of_given v given)
  owned_count = owners_count 0 (length v.symbols) given ∙ ap length (sym (clauses_are v given))

  pub is_sound : length given < 2 ^ 64 → limit < 2 ^ 32 → IsSound r f.derivation.needed
  is_sound few small =
      let inputs = few_inputs in
      let members = few_members in
      record {
        are = f.derivation.are;
        few_given = few;
        few_clauses = omega arith;
        owned = owned_count;
        owners = λ i o e. let lt = owner_below 0 (parts_of given) i o e in let long = length-map given (λ (g : GivenEntry). part_of g.form) in omega arith;
        members = λ j m at. made_before j m.clause m.origin (f.made j m at);
        last = made_last f.last.clause f.last.origin f.last_made;
      }

  pub lines_are : d.lines ≡ lines_of r (plan_of r f.derivation.needed)
  lines_are = ap (λ (e : Derivation). e.lines) f.derivation.is

  pub found_linked : length given < 2 ^ 64 → limit < 2 ^ 32 → AreLinked given d.lines
  found_linked few small = subst (AreLinked given) (sym lines_are) (linked_lines r f.derivation.needed (is_sound few small))
