-- Each line of a derivation that is found is closed and well-sorted.
use Rattle.std.specs.Prelude.{ℕ, zero, suc, ◌≡◌, ◌+◌, Bool, true, false, if◌then◌else◌, List, [], ◌∷◌, ◌++◌, get_or, Some, slice_get, refl}
use Rattle.std.specs.List.{All as Each, AllByRecursion}
use Rattle.std.proofs.Common.{ap, sym, subst, arith}
use Rattle.std.proofs.lemmas.List.Elements.{All-from_recursion, recursion_from_All}
use Rattle.fof_terms.specs.declared.signature.Symbol.{Symbol}
use Rattle.fof_terms.specs.SortLaws.{Grows}
use Rattle.fof_terms.specs.Sorts.{is_sorted}
use Rattle.fof_terms.specs.Vocabulary.{Vocabulary}
use Rattle.fof_terms.proofs.SortLawsFacts.{grown_fits}
use Rattle.fof_terms.proofs.SortsFacts.{is_sorted-Or}
use Rattle.clause_form.specs.declared.clause.Clause.{Clause}
use Rattle.clause_form.specs.Clauses.{skolemized}
use Rattle.clause_form.specs.Norm.{norm_of}
use Rattle.clause_rules.specs.Steps.{IsReady}
use Rattle.saturation.specs.declared.member.Member.{Member}
use Rattle.saturation.specs.declared.member.Origin.{Origin}
use Rattle.saturation.specs.declared.member.Origin.TheVariants.{Input, Inferred}
use Rattle.sort_check.specs.declared.line.GivenEntry.{GivenEntry}
use Rattle.printed_clauses.specs.Prefixes.{prefix_of}
use Rattle.printed_steps.specs.Printed.{printed}
use Rattle.printed_steps.proofs.Sorting.{printed_fits}
use Rattle.derivation_items.specs.declared.line.ProofLine.{ProofLine}
use Rattle.step_search.proofs.ClauseSuits.{each_of_both}
use Rattle.given_parts.specs.Chosen.{chosen_from}
use Rattle.given_parts.specs.Functions.{functions_from, used_existentials}
use Rattle.given_parts.specs.Parts.{part_of, parts_of}
use Rattle.given_parts.specs.declared.part.Part.{Part}
use Rattle.refutation_lines.specs.Lines.{given_lines, inferred_lines, input_lines, last_line, lines_of, lines_of_member, skolem_line, skolem_lines}
use Rattle.refutation_lines.specs.Names.{has_some}
use Rattle.refutation_lines.specs.Plans.{Refutation, plan_of}
use Rattle.refutation_lines.specs.declared.derivation.Derivation.{Derivation}
use Rattle.refutation_lines.specs.declared.plan.Plan.{Plan}
use Rattle.problem_proofs.specs.Found.{IsFound, refutation_by, vocabulary_of}
use Rattle.problem_proofs.specs.Posed.{clauses_of_given}
use Rattle.derivation_sentences.proofs.Linked.{in_front}
use Rattle.derivation_sentences.proofs.Owned.{one_of_all}
use Rattle.derivation_sentences.proofs.Members.{input_good, keeps_predicates, member_good, number, searched, IsGood}
use Rattle.derivation_sentences.proofs.Skolems.{skolem_line_fits}

-- what marked elements give
each_chosen : {X Y : Type 0} (P : Y → Type 0) (give : ℕ → X → List Y) (k : ℕ) (marks : List Bool) (xs : List X) → ((i : ℕ) (x : X) → slice_get marks i ≡ Some true → slice_get xs i ≡ Some x → AllByRecursion P (give (k + i) x)) → AllByRecursion P (chosen_from k give marks xs)
each_chosen P give k [] xs each = tt
each_chosen P give k (b ∷ marks) [] each = tt
each_chosen P give k (b ∷ marks) (x ∷ xs) each =
    each_of_both P (if b then give k x else []) (chosen_from (k + 1) give marks xs) (here b refl)
    (each_chosen P give (k + 1) marks xs (λ i y marked at. let number_is : k + suc i ≡ k + 1 + i = omega arith in subst (λ (n : ℕ). AllByRecursion P (give n y)) number_is (each (suc i) y marked at)))
  where
    here : (c : Bool) → b ≡ c → AllByRecursion P (if c then give k x else [])
    here true is = let number_is : k + 0 ≡ k = omega arith in subst (λ (n : ℕ). AllByRecursion P (give n x)) number_is (each 0 x (ap Some is) refl)
    here false is = tt

-- a part is one of a given formula
part_of_given : (given : List GivenEntry) (q : ℕ) (p : Part) → slice_get (parts_of given) q ≡ Some p → (g : GivenEntry) × (slice_get given q ≡ Some g) × (p ≡ part_of g.form)
part_of_given [] q p at = absurd (cc)
part_of_given (g ∷ given) zero p at = (g, refl, cc)
part_of_given (g ∷ given) (suc q) p at = part_of_given given q p at

module _ (v : Vocabulary) (given : List GivenEntry) (limit : ℕ) (d : Derivation) (ready : Each (λ (g : GivenEntry). IsReady v g.form) given) (found : IsFound v given limit d) where
  abbrev refuted : Refutation
  refuted = refutation_by v given found.members found.last

  abbrev plan : Plan
  plan = plan_of refuted found.derivation.needed

  abbrev Fits : ProofLine → Type 0
  Fits l = is_sorted (vocabulary_of v d) [] l.form ≡ true

  ready_each : AllByRecursion (λ (g : GivenEntry). IsReady v g.form) given
  ready_each = recursion_from_All (λ (g : GivenEntry). IsReady v g.form) given ready

  grows : Grows v (vocabulary_of v d)
  grows = record { more_sorts = omega arith; same_symbols = λ k s at. in_front v.symbols d.functions k s at }

  functions_are : d.functions ≡ functions_from (prefix_of found.underscores) 1 (used_existentials plan.used (parts_of given))
  functions_are = ap (λ (e : Derivation). e.functions) found.derivation.is

  given_fits : (i : ℕ) (g : GivenEntry) → slice_get plan.used i ≡ Some true → slice_get given i ≡ Some g → AllByRecursion Fits (given_lines (0 + i) g)
  given_fits i g marked at = (grown_fits v (vocabulary_of v d) grows g.form [] (one_of_all (λ (h : GivenEntry). IsReady v h.form) given i g ready_each at).fits, tt)

  skolem_fits : (i : ℕ) (p : Part) → slice_get plan.used i ≡ Some true → slice_get (parts_of given) i ≡ Some p → Fits (skolem_line plan.numbers.firsts (0 + i) p)
  skolem_fits i p marked at =
      let one = part_of_given given i p at in
      let fits = skolem_line_fits v given plan.used (prefix_of found.underscores) i one.0 (one_of_all (λ (h : GivenEntry). IsReady v h.form) given i one.0 ready_each one.1) marked one.1 in
      let over : is_sorted (vocabulary_of v d) [] (skolemized (norm_of true one.0.form) (get_or plan.numbers.firsts i 0)) ≡ true =
      subst (λ (fs : List Symbol). is_sorted (record v { symbols = v.symbols ++ fs }) [] (skolemized (norm_of true one.0.form) (get_or plan.numbers.firsts i 0)) ≡ true) (sym functions_are) fits
      in
      let number_is : i ≡ 0 + i = omega arith in
      subst (λ (n : ℕ). is_sorted (vocabulary_of v d) [] (skolemized p.norm (get_or plan.numbers.firsts n 0)) ≡ true) number_is
      (subst (λ (x : Part). is_sorted (vocabulary_of v d) [] (skolemized x.norm (get_or plan.numbers.firsts i 0)) ≡ true) (sym one.2) over)

  skolems_fit : (i : ℕ) (p : Part) → slice_get plan.used i ≡ Some true → slice_get (parts_of given) i ≡ Some p → AllByRecursion Fits (skolem_lines plan.numbers.firsts (0 + i) p)
  skolems_fit i p marked at = by (has_some p.existentials)
    where
      by : (b : Bool) → AllByRecursion Fits (if b then skolem_line plan.numbers.firsts (0 + i) p ∷ [] else [])
      by true = (skolem_fits i p marked at, tt)
      by false = tt

  good_fits : (c : Clause) → IsGood v given limit d ready found c → is_sorted (vocabulary_of v d) [] (printed (number v given limit d ready found) c) ≡ true
  good_fits c good = printed_fits (searched v given limit d ready found) (vocabulary_of v d) (number v given limit d ready found) c good.sorted good.functions (keeps_predicates v given limit d ready found c good.sorted) good.exist

  inputs_fit : (i : ℕ) (c : Clause) → slice_get plan.printed i ≡ Some true → slice_get (clauses_of_given v given) i ≡ Some c → AllByRecursion Fits (input_lines plan (0 + i) c)
  inputs_fit i c marked at = (good_fits c (input_good v given limit d ready found i c at marked), tt)

  members_fit : (i : ℕ) (m : Member) → slice_get plan.needed i ≡ Some true → slice_get found.members i ≡ Some m → AllByRecursion Fits (inferred_lines plan (0 + i) m)
  members_fit i m marked at = by m.origin
    where
      by : (o : Origin) → AllByRecursion Fits (lines_of_member plan (0 + i) m.clause o)
      by (Input n) = tt
      by (Inferred a b images) = (good_fits m.clause (member_good v given limit d ready found i m at marked), tt)

  all_fit : AllByRecursion Fits (lines_of refuted plan)
  all_fit =
      let first = each_chosen Fits given_lines 0 plan.used given given_fits in
      let second = each_chosen Fits (skolem_lines plan.numbers.firsts) 0 plan.used (parts_of given) skolems_fit in
      let third = each_chosen Fits (input_lines plan) 0 plan.printed (clauses_of_given v given) inputs_fit in
      let fourth = each_chosen Fits (inferred_lines plan) 0 plan.needed found.members members_fit in
      let front = chosen_from 0 given_lines plan.used given in
      let skolems = chosen_from 0 (skolem_lines plan.numbers.firsts) plan.used (parts_of given) in
      let inputs = chosen_from 0 (input_lines plan) plan.printed (clauses_of_given v given) in
      let members = chosen_from 0 (inferred_lines plan) plan.needed found.members in
      each_of_both Fits (front ++ skolems ++ inputs ++ members) (last_line plan found.last.origin ∷ [])
      (each_of_both Fits (front ++ skolems ++ inputs) members (each_of_both Fits (front ++ skolems) inputs (each_of_both Fits front skolems first second) third) fourth)
      (is_sorted-Or (vocabulary_of v d) [] [], tt)

  pub lines_fit : Each (λ (l : ProofLine). is_sorted (vocabulary_of v d) [] l.form ≡ true) d.lines
  lines_fit =
      let lines_are : d.lines ≡ lines_of refuted plan = ap (λ (e : Derivation). e.lines) found.derivation.is in
      subst (Each Fits) (sym lines_are) (All-from_recursion Fits (lines_of refuted plan) all_fit)
