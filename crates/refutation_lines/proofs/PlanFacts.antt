-- Plans of refutations.
use Rattle.std.specs.Prelude.{ℕ, ◌≡◌, ◌<◌, ◌+◌, ◌^◌, Bool, true, List, [], ◌∷◌, ◌++◌, length, map, get_or, replicate, refl, Option, Some, None, slice_get}
use Rattle.std.specs.Option.{option_map}
use Rattle.std.specs.List.{All as Each}
use Rattle.std.proofs.Common.{ap, sym, subst, ◌∙◌, arith}
use Rattle.std.proofs.lemmas.List.{length-append, length-replicate, length-map}
use Rattle.std.proofs.lemmas.List.Elements.{All-get_or}
use Rattle.std.proofs.lemmas.List.FromFn.{length-map-range_with_len}
use Rattle.std.proofs.lemmas.Option.{slice_get-map, slice_get_within, get_or_from_slice_get}
use Rattle.fof_terms.specs.declared.signature.Symbol.{Symbol}
use Rattle.fof_terms.specs.Sorts.{binder_depth}
use Rattle.clause_form.specs.Clauses.{clauses_of}
use Rattle.clause_form.specs.declared.clause.Clause.{Clause}
use Rattle.clause_form.specs.Norm.{norm_of}
use Rattle.clause_form.specs.Sizes.{clause_count_of}
use Rattle.clause_form.proofs.ClauseCount.{clauses_counted}
use Rattle.clause_form.proofs.NormSorts.{norm_depth}
use Rattle.sort_check.specs.declared.line.GivenEntry.{GivenEntry}
use Rattle.step_clauses.specs.Inputs.{clauses_from, next_behind}
use Rattle.derivation_items.specs.declared.line.ProofLine.{ProofLine}
use Rattle.derivation_items.specs.Words.{Text}
use Rattle.search_proofs.specs.Needed.{AreNeeded}
use Rattle.given_parts.specs.declared.part.Part.{Part}
use Rattle.given_parts.specs.declared.numbers.FunctionNumbers.{FunctionNumbers}
use Rattle.given_parts.specs.Chosen.{chosen}
use Rattle.given_parts.specs.Functions.{functions_from, used_existentials}
use Rattle.given_parts.specs.Numbers.{firsts_from, numbers_from}
use Rattle.given_parts.specs.Owners.{owners_from}
use Rattle.given_parts.specs.Parts.{part_of, parts_of, ex_count_of, ex_counts}
use Rattle.given_parts.proofs.PartFacts.{firsts_fit}
use Rattle.refutation_lines.specs.declared.plan.Plan.{Plan}
use Rattle.refutation_lines.specs.Derivations.{IsDerivationOf}
use Rattle.refutation_lines.specs.Lines.{lines_of, given_lines, skolem_lines, input_lines, inferred_lines, last_line}
use Rattle.refutation_lines.specs.Needs.{prints_input, uses_part, printed_inputs, used_parts}
use Rattle.refutation_lines.specs.Places.{ranks_from, places_from}
use Rattle.refutation_lines.specs.Plans.{Refutation, owners_in, printed_in, used_in, ranks_in, places_in, plan_of}
use Rattle.refutation_lines.specs.code.Printable.{IsRoomy, AreRoomy}

-- There is an owner for each clause of given formulas.
owners_cons : (n k : ℕ) (owners : List ℕ) (first rest : List Clause) → length first ≡ n → length owners ≡ length rest → length (replicate n k ++ owners) ≡ length (first ++ rest)
owners_cons n k owners first rest e f = omega (arith, length-append (replicate n k) owners, length-replicate n k, length-append first rest)

pub owners_count : (k next : ℕ) (given : List GivenEntry) → length (owners_from k (parts_of given)) ≡ length (clauses_from next (map (λ (g : GivenEntry). g.form) given))
owners_count k next [] = refl
owners_count k next (g ∷ given) = owners_cons (clause_count_of (norm_of true g.form)) k (owners_from (k + 1) (parts_of given)) (clauses_of g.form next) (clauses_from (next_behind next g.form) (map (λ (h : GivenEntry). h.form) given)) (clauses_counted g.form next) (owners_count (k + 1) (next_behind next g.form) given)

-- A value in an option.
some_none : (p : Part) → Some p ≡ None → ⊥
some_none p e = cc

value_same : (p q : Part) → Some p ≡ Some q → p ≡ q
value_same p q e = cc

-- Parts have room for their functions.
part_at : (given : List GivenEntry) (k : ℕ) (p : Part) → slice_get (parts_of given) k ≡ Some p → (g : GivenEntry) × (slice_get given k ≡ Some g) × (p ≡ part_of g.form)
part_at given k p at = found (slice_get given k) refl
  where
    found : (o : Option GivenEntry) → slice_get given k ≡ o → (g : GivenEntry) × (slice_get given k ≡ Some g) × (p ≡ part_of g.form)
    found None e = let none : Some p ≡ None = sym at ∙ slice_get-map (λ (g : GivenEntry). part_of g.form) given k ∙ ap (option_map (λ (g : GivenEntry). part_of g.form)) e in absurd (some_none p none)
    found (Some g) e = let both : Some p ≡ Some (part_of g.form) = sym at ∙ slice_get-map (λ (h : GivenEntry). part_of h.form) given k ∙ ap (option_map (λ (h : GivenEntry). part_of h.form)) e in (g, e, value_same p (part_of g.form) both)

depth_at : (given : List GivenEntry) (k : ℕ) (g : GivenEntry) → Each (λ (h : GivenEntry). binder_depth h.form < 2 ^ 32) given → slice_get given k ≡ Some g → binder_depth g.form < 2 ^ 32
depth_at given k g each at =
    subst (λ (h : GivenEntry). binder_depth h.form < 2 ^ 32) (get_or_from_slice_get given k g g at)
    (All-get_or (λ (h : GivenEntry). binder_depth h.form < 2 ^ 32) given k g (slice_get_within given k g at) each)

pub are_roomy : (given : List GivenEntry) (first : ℕ) (used : List Bool) → Each (λ (g : GivenEntry). binder_depth g.form < 2 ^ 32) given → first + ex_counts (parts_of given) < 2 ^ 32 → AreRoomy (firsts_from first used (parts_of given)) (parts_of given)
are_roomy given first used depth room k p at =
    let own = part_at given k p at in
    let fit = firsts_fit first used (parts_of given) k p at in
    let depth_here : binder_depth own.0.form < 2 ^ 32 = depth_at given k own.0 depth own.1 in
    let number = get_or (firsts_from first used (parts_of given)) k 0 in
    let fits : number + ex_count_of p < 2 ^ 32 = omega (arith, fit, room) in
    let shallow : binder_depth (norm_of true own.0.form) < 2 ^ 32 = omega (arith, norm_depth own.0.form true, depth_here) in
    subst (IsRoomy number) (sym own.2)
    (record {
      numbers = subst (λ (q : Part). number + ex_count_of q < 2 ^ 32) own.2 fits;
      depth = shallow;
    })

-- How long the lists of a plan are.
module _ (r : Refutation) (needed : List Bool) (p : Plan) (is : p ≡ plan_of r needed) where
  pub parts_count : length p.parts ≡ length r.given
  parts_count = ap (λ (q : Plan). length q.parts) is ∙ length-map r.given (λ (g : GivenEntry). part_of g.form)

  pub used_count : length p.used ≡ length r.given
  used_count = ap (λ (q : Plan). length q.used) is ∙ length-map-range_with_len (uses_part (owners_in r) (printed_in r needed) r.last.origin) 0 (length r.given)

  pub used_parts_count : length p.used ≡ length p.parts
  used_parts_count = used_count ∙ sym parts_count

  pub printed_count : length p.printed ≡ length r.inputs
  printed_count = ap (λ (q : Plan). length q.printed) is ∙ length-map-range_with_len (prints_input needed r.members) 0 (length r.inputs)

  pub needed_count : length needed ≡ length r.members → length p.needed ≡ length r.members
  needed_count same = ap (λ (q : Plan). length q.needed) is ∙ same

  pub plan_roomy : Each (λ (g : GivenEntry). binder_depth g.form < 2 ^ 32) r.given → r.first + ex_counts (parts_of r.given) < 2 ^ 32 → AreRoomy p.numbers.firsts p.parts
  plan_roomy depth room = subst (λ (q : Plan). AreRoomy q.numbers.firsts q.parts) (sym is) (are_roomy r.given r.first (used_in r needed) depth room)

  pub derivation_is : (prefix : Text) (functions : List Symbol) (lines : List ProofLine) → AreNeeded r.members r.last needed → functions ≡ functions_from prefix 1 (used_existentials p.used p.parts) → lines ≡ lines_of r p → IsDerivationOf r prefix (record { functions = functions; lines = lines })
  derivation_is prefix functions lines are fs ls =
      let functions_are : functions ≡ functions_from prefix 1 (used_existentials (plan_of r needed).used (plan_of r needed).parts) = fs ∙ ap (λ (q : Plan). functions_from prefix 1 (used_existentials q.used q.parts)) is in
      let lines_are : lines ≡ lines_of r (plan_of r needed) = ls ∙ ap (lines_of r) is in
      record {
        needed = needed;
        are = are;
        is = ap (λ (xs : List Symbol). record { functions = xs; lines = lines }) functions_are ∙ ap (λ (xs : List ProofLine). record { functions = functions_from prefix 1 (used_existentials (plan_of r needed).used (plan_of r needed).parts); lines = xs }) lines_are;
      }

-- Numbers by their two lists.
pub numbers_are : (n : FunctionNumbers) (firsts all : List ℕ) → n.firsts ≡ firsts → n.all ≡ all → n ≡ record { firsts = firsts; all = all }
numbers_are n firsts all e f =
    let given : n ≡ record { firsts = n.firsts; all = n.all } = refl in
    given ∙ ap (λ (x : List ℕ). record { firsts = x; all = n.all }) e ∙ ap (λ (x : List ℕ). record { firsts = firsts; all = x }) f

-- A plan by what its parts were made from.
module _ (r : Refutation) (needed wanted : List Bool) (parts listed : List Part) (owners owned : List ℕ) (printed marks : List Bool) (used used_now : List Bool) (ranks counts : List ℕ) (behind : ℕ) (places : List ℕ) (numbers : FunctionNumbers) where
  pub plan_is : wanted ≡ needed → parts ≡ parts_of r.given → listed ≡ parts → owners ≡ owners_from 0 listed → owned ≡ owners → printed ≡ printed_inputs wanted r.members (length r.inputs) → marks ≡ printed
      → used ≡ used_parts owned marks r.last.origin (length r.given) → used_now ≡ used → ranks ≡ ranks_from 0 marks → counts ≡ ranks → behind ≡ get_or counts (length r.inputs) 0 → places ≡ places_from counts behind wanted r.members
      → numbers.firsts ≡ firsts_from r.first used_now listed → numbers.all ≡ numbers_from r.first used_now listed
      → record { parts = parts; owners = owners; needed = needed; printed = printed; used = used; ranks = ranks; places = places; first = r.first; numbers = numbers } ≡ plan_of r needed
  plan_is e_wanted e_parts e_listed e_owners e_owned e_printed e_marks e_used e_now e_ranks e_counts e_behind e_places e_firsts e_all =
      let are_owners : owners ≡ owners_in r = e_owners ∙ ap (owners_from 0) (e_listed ∙ e_parts) in
      let are_printed : printed ≡ printed_in r needed = e_printed ∙ ap (λ (bs : List Bool). printed_inputs bs r.members (length r.inputs)) e_wanted in
      let are_used : used ≡ used_in r needed =
      e_used ∙ ap (λ (os : List ℕ). used_parts os marks r.last.origin (length r.given)) (e_owned ∙ are_owners) ∙ ap (λ (bs : List Bool). used_parts (owners_in r) bs r.last.origin (length r.given)) (e_marks ∙ are_printed) in
      let are_ranks : ranks ≡ ranks_in r needed = e_ranks ∙ ap (ranks_from 0) (e_marks ∙ are_printed) in
      let are_counts : counts ≡ ranks_in r needed = e_counts ∙ are_ranks in
      let is_behind : behind ≡ get_or (ranks_in r needed) (length r.inputs) 0 = e_behind ∙ ap (λ (ns : List ℕ). get_or ns (length r.inputs) 0) are_counts in
      let are_places : places ≡ places_in r needed =
      e_places ∙ ap (λ (ns : List ℕ). places_from ns behind wanted r.members) are_counts ∙ ap (λ (k : ℕ). places_from (ranks_in r needed) k wanted r.members) is_behind
      ∙ ap (λ (bs : List Bool). places_from (ranks_in r needed) (get_or (ranks_in r needed) (length r.inputs) 0) bs r.members) e_wanted in
      let are_firsts : numbers.firsts ≡ firsts_from r.first (used_in r needed) (parts_of r.given) =
      e_firsts ∙ ap (λ (bs : List Bool). firsts_from r.first bs listed) (e_now ∙ are_used) ∙ ap (firsts_from r.first (used_in r needed)) (e_listed ∙ e_parts) in
      let are_all : numbers.all ≡ numbers_from r.first (used_in r needed) (parts_of r.given) =
      e_all ∙ ap (λ (bs : List Bool). numbers_from r.first bs listed) (e_now ∙ are_used) ∙ ap (numbers_from r.first (used_in r needed)) (e_listed ∙ e_parts) in
      let own : FunctionNumbers = record { firsts = firsts_from r.first (used_in r needed) (parts_of r.given); all = numbers_from r.first (used_in r needed) (parts_of r.given) } in
      let are_numbers : numbers ≡ own = numbers_are numbers (firsts_from r.first (used_in r needed) (parts_of r.given)) (numbers_from r.first (used_in r needed) (parts_of r.given)) are_firsts are_all in
      ap (λ (x : List Part). record { parts = x; owners = owners; needed = needed; printed = printed; used = used; ranks = ranks; places = places; first = r.first; numbers = numbers }) e_parts
      ∙ ap (λ (x : List ℕ). record { parts = parts_of r.given; owners = x; needed = needed; printed = printed; used = used; ranks = ranks; places = places; first = r.first; numbers = numbers }) are_owners
      ∙ ap (λ (x : List Bool). record { parts = parts_of r.given; owners = owners_in r; needed = needed; printed = x; used = used; ranks = ranks; places = places; first = r.first; numbers = numbers }) are_printed
      ∙ ap (λ (x : List Bool). record { parts = parts_of r.given; owners = owners_in r; needed = needed; printed = printed_in r needed; used = x; ranks = ranks; places = places; first = r.first; numbers = numbers }) are_used
      ∙ ap (λ (x : List ℕ). record { parts = parts_of r.given; owners = owners_in r; needed = needed; printed = printed_in r needed; used = used_in r needed; ranks = x; places = places; first = r.first; numbers = numbers }) are_ranks
      ∙ ap (λ (x : List ℕ). record { parts = parts_of r.given; owners = owners_in r; needed = needed; printed = printed_in r needed; used = used_in r needed; ranks = ranks_in r needed; places = x; first = r.first; numbers = numbers }) are_places
      ∙ ap (λ (x : FunctionNumbers). record { parts = parts_of r.given; owners = owners_in r; needed = needed; printed = printed_in r needed; used = used_in r needed; ranks = ranks_in r needed; places = places_in r needed; first = r.first; numbers = x }) are_numbers

-- Lines, one list behind the other.
pub all_lines : (r : Refutation) (p : Plan) (used printed needed : List Bool) (parts : List Part) (firsts : List ℕ) (l0 l1 l2 l3 l4 l5 : List ProofLine) (line : ProofLine) → used ≡ p.used → firsts ≡ p.numbers.firsts → parts ≡ p.parts → printed ≡ p.printed → needed ≡ p.needed → l0 ≡ []
    → l1 ≡ l0 ++ chosen given_lines used r.given → l2 ≡ l1 ++ chosen (skolem_lines firsts) used parts → l3 ≡ l2 ++ chosen (input_lines p) printed r.inputs → l4 ≡ l3 ++ chosen (inferred_lines p) needed r.members → line ≡ last_line p r.last.origin → l5 ≡ l4 ++ line ∷ []
    → l5 ≡ lines_of r p
all_lines r p used printed needed parts firsts l0 l1 l2 l3 l4 l5 line eu ef ea ep en e0 e1 e2 e3 e4 el e5 =
    let first : l1 ≡ chosen given_lines p.used r.given = e1 ∙ ap (λ (bs : List Bool). l0 ++ chosen given_lines bs r.given) eu ∙ ap (λ (l : List ProofLine). l ++ chosen given_lines p.used r.given) e0 in
    let second : l2 ≡ l1 ++ chosen (skolem_lines p.numbers.firsts) p.used p.parts =
    e2 ∙ ap (λ (ns : List ℕ). l1 ++ chosen (skolem_lines ns) used parts) ef ∙ ap (λ (bs : List Bool). l1 ++ chosen (skolem_lines p.numbers.firsts) bs parts) eu ∙ ap (λ (ps : List Part). l1 ++ chosen (skolem_lines p.numbers.firsts) p.used ps) ea in
    let third : l3 ≡ l2 ++ chosen (input_lines p) p.printed r.inputs = e3 ∙ ap (λ (bs : List Bool). l2 ++ chosen (input_lines p) bs r.inputs) ep in
    let fourth : l4 ≡ l3 ++ chosen (inferred_lines p) p.needed r.members = e4 ∙ ap (λ (bs : List Bool). l3 ++ chosen (inferred_lines p) bs r.members) en in
    e5
    ∙ ap (λ (x : ProofLine). l4 ++ x ∷ []) el
    ∙ ap (λ (l : List ProofLine). l ++ last_line p r.last.origin ∷ []) (fourth ∙ ap (λ (l : List ProofLine). l ++ chosen (inferred_lines p) p.needed r.members) (third ∙ ap (λ (l : List ProofLine). l ++ chosen (input_lines p) p.printed r.inputs) (second ∙ ap (λ (l : List ProofLine). l ++ chosen (skolem_lines p.numbers.firsts) p.used p.parts) first)))
