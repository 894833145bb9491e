-- The lines of a refutation's derivation are linked.
use Rattle.std.specs.Prelude.{ℕ, ◌≡◌, ◌<◌, ◌≤◌, ◌+◌, ◌^◌, Bool, true, false, if◌then◌else◌, List, [], ◌∷◌, ◌++◌, length, map, get_or, take, Option, Some, slice_get, codes, refl}
use Rattle.std.proofs.Common.{ap, sym, subst, ◌∙◌, arith, inl, inr}
use Rattle.std.proofs.lemmas.Bool.{cases_Bool}
use Rattle.std.proofs.lemmas.List.{length-map}
use Rattle.std.proofs.lemmas.List.FromFn.{length-map-range_with_len}
use Rattle.std.proofs.lemmas.Option.{slice_get_within, slice_get-map}
use Rattle.std.specs.Option.{option_map}
use Rattle.inference_proofs.proofs.Kept.{Has, image_from}
use Rattle.clause_form.specs.declared.clause.Clause.{Clause}
use Rattle.fof_terms.specs.declared.form.Form.{Or}
use Rattle.sort_check.specs.declared.line.GivenEntry.{GivenEntry}
use Rattle.saturation.specs.declared.member.Member.{Member}
use Rattle.saturation.specs.declared.member.Origin.{Origin}
use Rattle.saturation.specs.declared.member.Origin.TheVariants.{Input, Inferred}
use Rattle.search_proofs.specs.Needed.{IsMarked, Names}
use Rattle.derivation_items.specs.Words.{Text}
use Rattle.derivation_items.specs.declared.line.LineSource.{LineSource}
use Rattle.derivation_items.specs.declared.line.ProofLine.{ProofLine}
use Rattle.given_parts.specs.declared.part.Part.{Part}
use Rattle.given_parts.specs.Chosen.{chosen_from}
use Rattle.given_parts.specs.Parts.{part_of, parts_of}
use Rattle.refutation_lines.specs.Lines.{given_lines, skolem_line, skolem_lines, input_lines, inferred_lines, lines_of_member, clause_line, source_of, source_of_input, last_line, lines_of}
use Rattle.refutation_lines.specs.Names.{given_name, skolem_name, clause_name, has_some, has_functions, opened_name}
use Rattle.refutation_lines.specs.Needs.{prints_input}
use Rattle.refutation_lines.specs.Places.{in_order, is_inferred}
use Rattle.refutation_lines.specs.Plans.{Refutation, owners_in, places_in, plan_of, printed_in, ranks_in, used_in}
use Rattle.derivation_order.specs.Links.{AreLinked, AreLinkedBehind, AreNamesIn, IsFrom, IsLinked, IsNameIn}
use Rattle.derivation_order.proofs.Behind.{each_append, each_chosen, each_if}
use Rattle.derivation_order.proofs.Chosen.{at_taken, has_given, something_at, taken_at}
use Rattle.derivation_order.proofs.Marked.{IsSound, Reaches, given_is, has_member, input_is, input_printed, last_used, member_is, owner_used, skolem_is}
use Rattle.derivation_order.proofs.Naming.{named_has, named_left, named_right, names_in_order, such, unnamed}
use Rattle.derivation_order.proofs.Ranks.{place_input, place_less, place_within, rank_less, rank_within}
use Rattle.derivation_order.proofs.Words.{clause_own, given_own, last_own, other_letter, same_number, skolem_own}

module _ (r : Refutation) (needed : List Bool) (s : IsSound r needed) where
  abbrev first : ℕ
  first = get_or (ranks_in r needed) (length r.inputs) 0

  -- ---- what stands before

  abbrev GivenSo : ℕ → GivenEntry → ProofLine → Type 0
  GivenSo k g l = l.name ≡ given_name k

  abbrev SkolemSo : ℕ → Part → ProofLine → Type 0
  SkolemSo k q l = l.name ≡ skolem_name k

  abbrev InputSo : ℕ → Clause → ProofLine → Type 0
  InputSo i c l = l.name ≡ clause_name (get_or (ranks_in r needed) i 0)

  abbrev MemberSo : ℕ → Member → ProofLine → Type 0
  MemberSo j m l = (l.name ≡ clause_name (get_or (places_in r needed) j 0)) × (is_inferred m.origin ≡ true)

  abbrev given_of : List Bool → List GivenEntry → List ProofLine
  given_of marks given = chosen_from 0 given_lines marks given

  abbrev skolem_of : List Bool → List Part → List ProofLine
  skolem_of marks parts = chosen_from 0 (skolem_lines (plan_of r needed).numbers.firsts) marks parts

  abbrev input_of : List Bool → List Clause → List ProofLine
  input_of marks inputs = chosen_from 0 (input_lines (plan_of r needed)) marks inputs

  abbrev member_of : List Bool → List Member → List ProofLine
  member_of marks members = chosen_from 0 (inferred_lines (plan_of r needed)) marks members

  among_given : (marks : List Bool) (given : List GivenEntry) (word : Text) → ((g : GivenEntry) (k : ℕ) → slice_get given k ≡ Some g → given_name k ≡ word → ⊥) → IsNameIn (given_of marks given) word → ⊥
  among_given marks given word apart h =
      let one = such given_lines GivenSo given_is marks given h.1 (h.0, h.2) in
      apart one.from one.at one.there (sym one.is ∙ h.3)

  among_skolem : (marks : List Bool) (parts : List Part) (word : Text) → ((q : Part) (k : ℕ) → slice_get parts k ≡ Some q → skolem_name k ≡ word → ⊥) → IsNameIn (skolem_of marks parts) word → ⊥
  among_skolem marks parts word apart h =
      let one = such (skolem_lines (plan_of r needed).numbers.firsts) SkolemSo (skolem_is (plan_of r needed).numbers.firsts) marks parts h.1 (h.0, h.2) in
      apart one.from one.at one.there (sym one.is ∙ h.3)

  among_inputs : (marks : List Bool) (inputs : List Clause) (word : Text) → ((c : Clause) (i : ℕ) → slice_get marks i ≡ Some true → slice_get inputs i ≡ Some c → clause_name (get_or (ranks_in r needed) i 0) ≡ word → ⊥)
      → IsNameIn (input_of marks inputs) word → ⊥
  among_inputs marks inputs word apart h =
      let one = such (input_lines (plan_of r needed)) InputSo (input_is (plan_of r needed)) marks inputs h.1 (h.0, h.2) in
      apart one.from one.at one.marked one.there (sym one.is ∙ h.3)

  among_members : (marks : List Bool) (members : List Member) (word : Text)
      → ((m : Member) (j : ℕ) → slice_get marks j ≡ Some true → slice_get members j ≡ Some m → is_inferred m.origin ≡ true → clause_name (get_or (places_in r needed) j 0) ≡ word → ⊥) → IsNameIn (member_of marks members) word → ⊥
  among_members marks members word apart h =
      let one = such (inferred_lines (plan_of r needed)) MemberSo (member_is (plan_of r needed)) marks members h.1 (h.0, h.2) in
      apart one.from one.at one.marked one.there one.is.1 (sym one.is.0 ∙ h.3)

  -- ---- given formulas

  copies : (k : ℕ) (g : GivenEntry) → slice_get r.given k ≡ Some g → IsFrom r.given (given_of (take k (used_in r needed)) (take k r.given)) g.form (LineSource.Given g.name)
  copies k g at = (g, record { at = k; there = at; same = refl }, refl)

  pub linked_given : AreLinkedBehind r.given [] (given_of (used_in r needed) r.given)
  linked_given = each_chosen (IsLinked r.given) given_lines [] (used_in r needed) r.given (λ k g marked at. (
    record {
      new = among_given (take k (used_in r needed)) (take k r.given) (given_name k) (λ x j there e.
          let before = taken_at k r.given j x there in
          let fits = slice_get_within r.given k g at in
          let few = s.few_given in
          let lt = before.0 in
          let same : j ≡ k = same_number 102 j k (omega arith) (omega arith) e in
          omega arith);
      own = given_own k;
      from = copies k g at;
    },
    tt,
  ))

  -- ---- those with functions

  given_line : (k : ℕ) (g : GivenEntry) → slice_get (used_in r needed) k ≡ Some true → slice_get r.given k ≡ Some g → IsNameIn (given_of (used_in r needed) r.given) (given_name k)
  given_line k g marked at =
      let same : k ≡ 0 + k = omega arith in
      named_has (given_of (used_in r needed) r.given) (record { name = given_name k; form = g.form; source = LineSource.Given g.name })
      (has_given given_lines 0 (used_in r needed) r.given k g (record { name = given_name k; form = g.form; source = LineSource.Given g.name }) marked at
      (subst (λ (n : ℕ). Has (given_lines n g) (record { name = given_name k; form = g.form; source = LineSource.Given g.name })) same (0, refl)))

  not_given : (a : ℕ) (rest : Text) → (102 ≡ a → ⊥) → (marks : List Bool) (given : List GivenEntry) → IsNameIn (given_of marks given) (a ∷ rest) → ⊥
  not_given a rest apart marks given = among_given marks given (a ∷ rest) (λ g k there e. apart cc)

  not_skolem : (a : ℕ) (rest : Text) → (115 ≡ a → ⊥) → (marks : List Bool) (parts : List Part) → IsNameIn (skolem_of marks parts) (a ∷ rest) → ⊥
  not_skolem a rest apart marks parts = among_skolem marks parts (a ∷ rest) (λ q k there e. apart cc)

  pub linked_skolem : AreLinkedBehind r.given (given_of (used_in r needed) r.given) (skolem_of (used_in r needed) (parts_of r.given))
  linked_skolem = each_chosen (IsLinked r.given) (skolem_lines (plan_of r needed).numbers.firsts) before (used_in r needed) (parts_of r.given) (λ k q marked at.
      each_if (IsLinked r.given) (before ++ skolem_of (take k (used_in r needed)) (take k (parts_of r.given))) (has_some q.existentials) (skolem_line (plan_of r needed).numbers.firsts k q ∷ []) (λ on. (
        record {
          new = unnamed before (skolem_of (take k (used_in r needed)) (take k (parts_of r.given))) (skolem_name k)
              (not_given 115 _ (λ e. omega arith) (used_in r needed) r.given)
              (among_skolem (take k (used_in r needed)) (take k (parts_of r.given)) (skolem_name k) (λ x j there e.
              let own = taken_at k (parts_of r.given) j x there in
              let fits = slice_get_within (parts_of r.given) k q at in
              let long = length-map r.given (λ (g : GivenEntry). part_of g.form) in
              let few = s.few_given in
              let lt = own.0 in
              let same : j ≡ k = same_number 115 j k (omega arith) (omega arith) e in
              omega arith));
          own = skolem_own k;
          from =
              let g = image_from (λ (x : GivenEntry). part_of x.form) r.given q k at in
              named_left before (skolem_of (take k (used_in r needed)) (take k (parts_of r.given))) (given_name k) (given_line k g.0 marked g.1);
        },
        tt,
      )))
    where
      before : List ProofLine
      before = given_of (used_in r needed) r.given

  -- ---- clauses of them

  abbrev opened : List ProofLine
  opened = given_of (used_in r needed) r.given ++ skolem_of (used_in r needed) (parts_of r.given)

  skolem_there : (k : ℕ) (q : Part) → slice_get (used_in r needed) k ≡ Some true → slice_get (parts_of r.given) k ≡ Some q → has_some q.existentials ≡ true → IsNameIn (skolem_of (used_in r needed) (parts_of r.given)) (skolem_name k)
  skolem_there k q marked at on =
      let firsts = (plan_of r needed).numbers.firsts in
      let same : k ≡ 0 + k = omega arith in
      let own : Has (skolem_lines firsts k q) (skolem_line firsts k q) = subst (λ (b : Bool). Has (if b then skolem_line firsts k q ∷ [] else []) (skolem_line firsts k q)) (sym on) (0, refl) in
      named_has (skolem_of (used_in r needed) (parts_of r.given)) (skolem_line firsts k q)
      (has_given (skolem_lines firsts) 0 (used_in r needed) (parts_of r.given) k q (skolem_line firsts k q) marked at (subst (λ (n : ℕ). Has (skolem_lines firsts n q) (skolem_line firsts k q)) same own))

  name_by : (k : ℕ) (q : Part) (b : Bool) → slice_get (parts_of r.given) k ≡ Some q → has_some q.existentials ≡ b → opened_name (parts_of r.given) k ≡ (if b then skolem_name k else given_name k)
  name_by k q b at is = ap (λ (o : Option Part). if has_functions o then skolem_name k else given_name k) at ∙ ap (λ (x : Bool). if x then skolem_name k else given_name k) is

  -- the line of which the clauses of a used part are
  opened_there : (k : ℕ) → k < length r.given → slice_get (used_in r needed) k ≡ Some true → IsNameIn opened (opened_name (parts_of r.given) k)
  opened_there k lt marked =
      let g = something_at r.given k lt in
      let q = part_of g.0.form in
      let at : slice_get (parts_of r.given) k ≡ Some q = slice_get-map (λ (x : GivenEntry). part_of x.form) r.given k ∙ ap (option_map (λ (x : GivenEntry). part_of x.form)) g.1 in
      elim (cases_Bool (has_some q.existentials)) [
        | inl on ↦
            subst (IsNameIn opened) (sym (name_by k q true at on))
            (named_right (given_of (used_in r needed) r.given) (skolem_of (used_in r needed) (parts_of r.given)) (skolem_name k) (skolem_there k q marked at on))
        | inr off ↦
            subst (IsNameIn opened) (sym (name_by k q false at off))
            (named_left (given_of (used_in r needed) r.given) (skolem_of (used_in r needed) (parts_of r.given)) (given_name k) (given_line k g.0 marked g.1))
      ]

  printed_long : length (printed_in r needed) ≡ length r.inputs
  printed_long = length-map-range_with_len (prints_input needed r.members) 0 (length r.inputs)

  rank_fits : (i : ℕ) → i ≤ length r.inputs → get_or (ranks_in r needed) i 0 < 2 ^ 64
  rank_fits i le =
      let long = printed_long in
      let most = (rank_within 0 (printed_in r needed) i (omega arith)).1 in
      let few = s.few_clauses in
      omega arith

  not_opened : (a : ℕ) (rest : Text) → (102 ≡ a → ⊥) → (115 ≡ a → ⊥) → IsNameIn opened (a ∷ rest) → ⊥
  not_opened a rest f g =
      unnamed (given_of (used_in r needed) r.given) (skolem_of (used_in r needed) (parts_of r.given)) (a ∷ rest) (not_given a rest f (used_in r needed) r.given) (not_skolem a rest g (used_in r needed) (parts_of r.given))

  pub linked_inputs : AreLinkedBehind r.given opened (input_of (printed_in r needed) r.inputs)
  linked_inputs = each_chosen (IsLinked r.given) (input_lines (plan_of r needed)) opened (printed_in r needed) r.inputs (λ i c marked at.
      let fits = slice_get_within r.inputs i c at in
      let used = owner_used r needed s i fits marked in (
        record {
          new = unnamed opened (input_of (take i (printed_in r needed)) (take i r.inputs)) (clause_name (get_or (ranks_in r needed) i 0))
              (not_opened 99 _ (λ e. omega arith) (λ e. omega arith))
              (among_inputs (take i (printed_in r needed)) (take i r.inputs) (clause_name (get_or (ranks_in r needed) i 0)) (λ x j marks there e.
              let own = taken_at i (printed_in r needed) j true marks in
              let lt = own.0 in
              let long = printed_long in
              let less = rank_less 0 (printed_in r needed) j i own.1 lt (omega arith) in
              let same = same_number 99 (get_or (ranks_in r needed) j 0) (get_or (ranks_in r needed) i 0) (rank_fits j (omega arith)) (rank_fits i (omega arith)) e in
              omega arith));
          own = clause_own (get_or (ranks_in r needed) i 0);
          from = named_left opened (input_of (take i (printed_in r needed)) (take i r.inputs)) (opened_name (parts_of r.given) (get_or (owners_in r) i 0)) (opened_there (get_or (owners_in r) i 0) used.0 used.1);
        },
        tt,
      ))

  -- ---- what is inferred

  abbrev inputs_lines : List ProofLine
  inputs_lines = input_of (printed_in r needed) r.inputs

  printed_there : (n : ℕ) → n < length r.inputs → slice_get (printed_in r needed) n ≡ Some true → IsNameIn inputs_lines (clause_name (get_or (ranks_in r needed) n 0))
  printed_there n lt marked =
      let c = something_at r.inputs n lt in
      let line = clause_line (plan_of r needed) (get_or (ranks_in r needed) n 0) c.0 (source_of_input (plan_of r needed) n) in
      let same : n ≡ 0 + n = omega arith in
      named_has inputs_lines line
      (has_given (input_lines (plan_of r needed)) 0 (printed_in r needed) r.inputs n c.0 line marked c.1 (subst (λ (k : ℕ). Has (input_lines (plan_of r needed) k c.0) line) same (0, refl)))

  needed_long : length needed ≡ length r.members
  needed_long = s.are.count

  abbrev place : ℕ → ℕ
  place j = get_or (places_in r needed) j 0

  place_fits : (j : ℕ) (m : Member) → slice_get r.members j ≡ Some m → is_inferred m.origin ≡ true → place j < 2 ^ 64
  place_fits j m at inferred =
      let long = needed_long in
      let fits = slice_get_within r.members j m at in
      let printed = printed_long in
      let start = (rank_within 0 (printed_in r needed) (length r.inputs) (omega arith)).1 in
      let most = (place_within (ranks_in r needed) first needed r.members j m (omega arith) at inferred).1 in
      let few = s.few_clauses in
      omega arith

  -- the needed members that are inferred, before that number
  abbrev HasInferred : List ProofLine → ℕ → Type 0
  HasInferred lines j = (x : ℕ) (m : Member) → x < j → IsMarked needed x → slice_get r.members x ≡ Some m → is_inferred m.origin ≡ true → IsNameIn lines (clause_name (place x))

  inferred_before : (j : ℕ) → HasInferred (member_of (take j needed) (take j r.members)) j
  inferred_before j x m lt marked at inferred =
      let own = has_member (plan_of r needed) x m inferred in
      let same : x ≡ 0 + x = omega arith in
      let there = named_has (member_of (take j needed) (take j r.members)) own.0
      (has_given (inferred_lines (plan_of r needed)) 0 (take j needed) (take j r.members) x m own.0 (at_taken j needed x true lt marked) (at_taken j r.members x m lt at)
      (subst (λ (k : ℕ). Has (inferred_lines (plan_of r needed) k m) own.0) same own.1)) in
      subst (IsNameIn (member_of (take j needed) (take j r.members))) own.2 there

  inferred_all : HasInferred (member_of needed r.members) (length r.members)
  inferred_all x m lt marked at inferred =
      let own = has_member (plan_of r needed) x m inferred in
      let same : x ≡ 0 + x = omega arith in
      let there = named_has (member_of needed r.members) own.0
      (has_given (inferred_lines (plan_of r needed)) 0 needed r.members x m own.0 marked at (subst (λ (k : ℕ). Has (inferred_lines (plan_of r needed) k m) own.0) same own.1)) in
      subst (IsNameIn (member_of needed r.members)) own.2 there

  -- the line of a needed member, behind the inputs, and that its place is no large number
  abbrev IsThere : List ProofLine → ℕ → Type 0
  IsThere lines x = IsNameIn ((opened ++ inputs_lines) ++ lines) (clause_name (place x)) × (place x < 2 ^ 64)

  member_there : (lines : List ProofLine) (j x : ℕ) → HasInferred lines j → x < j → j ≤ length r.members → IsMarked needed x → IsThere lines x
  member_there lines j x has lt le marked = let m = something_at r.members x (omega arith) in by m.0 m.1 m.0.origin refl
    where
      by : (m : Member) → slice_get r.members x ≡ Some m → (o : Origin) → m.origin ≡ o → IsThere lines x
      by m at (Input n) e =
          let long = needed_long in
          let reach : n < length r.inputs = subst (Reaches r x) e (s.members x m at) in
          let printed = input_printed r needed s x n m marked at e reach in
          let same : place x ≡ get_or (ranks_in r needed) n 0 = place_input (ranks_in r needed) first needed r.members x n m (omega arith) at e in (
            subst (λ (k : ℕ). IsNameIn ((opened ++ inputs_lines) ++ lines) (clause_name k)) (sym same)
                (named_left (opened ++ inputs_lines) lines (clause_name (get_or (ranks_in r needed) n 0)) (named_right opened inputs_lines (clause_name (get_or (ranks_in r needed) n 0)) (printed_there n reach printed))),
            subst (λ (k : ℕ). k < 2 ^ 64) (sym same) (rank_fits n (omega arith)),
          )
      by m at (Inferred a b images) e =
          let inferred : is_inferred m.origin ≡ true = ap is_inferred e in
          (named_right (opened ++ inputs_lines) lines (clause_name (place x)) (has x m lt marked at inferred), place_fits x m at inferred)

  -- so a line that comes from members before it names lines
  from_members : (lines : List ProofLine) (j a b : ℕ) → HasInferred lines j → j ≤ length r.members → a < j → b < j → IsMarked needed a → IsMarked needed b → AreNamesIn ((opened ++ inputs_lines) ++ lines) (map clause_name (in_order (place a) (place b)))
  from_members lines j a b has le la lb ma mb =
      let first_there = member_there lines j a has la le ma in
      let second_there = member_there lines j b has lb le mb in
      names_in_order ((opened ++ inputs_lines) ++ lines) (place a) (place b) first_there.1 second_there.1 first_there.0 second_there.0

  not_inputs : (word : Text) → ((i : ℕ) → i < length r.inputs → clause_name (get_or (ranks_in r needed) i 0) ≡ word → ⊥) → IsNameIn inputs_lines word → ⊥
  not_inputs word apart = among_inputs (printed_in r needed) r.inputs word (λ c i marked at e. apart i (slice_get_within r.inputs i c at) e)

  member_new : (j : ℕ) (m : Member) → slice_get r.members j ≡ Some m → is_inferred m.origin ≡ true → IsNameIn ((opened ++ inputs_lines) ++ member_of (take j needed) (take j r.members)) (clause_name (place j)) → ⊥
  member_new j m at inferred =
      unnamed (opened ++ inputs_lines) (member_of (take j needed) (take j r.members)) (clause_name (place j))
      (unnamed opened inputs_lines (clause_name (place j)) (not_opened 99 _ (λ e. omega arith) (λ e. omega arith)) (among_inputs (printed_in r needed) r.inputs (clause_name (place j)) (λ c i marked there e.
      let long = needed_long in
      let printed = printed_long in
      let lt = slice_get_within r.inputs i c there in
      let fits = slice_get_within r.members j m at in
      let less = rank_less 0 (printed_in r needed) i (length r.inputs) marked lt (omega arith) in
      let least = (place_within (ranks_in r needed) first needed r.members j m (omega arith) at inferred).0 in
      let same = same_number 99 (get_or (ranks_in r needed) i 0) (place j) (rank_fits i (omega arith)) (place_fits j m at inferred) e in
      omega arith)))
      (among_members (take j needed) (take j r.members) (clause_name (place j)) (λ x i marked there own e.
      let long = needed_long in
      let fits = slice_get_within r.members j m at in
      let mark = taken_at j needed i true marked in
      let member = taken_at j r.members i x there in
      let lt = mark.0 in
      let less = place_less (ranks_in r needed) first needed r.members i j x m mark.1 member.1 own lt (omega arith) at inferred in
      let same = same_number 99 (place i) (place j) (place_fits i x member.1 own) (place_fits j m at inferred) e in
      omega arith))

  linked_member : (j : ℕ) (m : Member) → IsMarked needed j → slice_get r.members j ≡ Some m → (o : Origin) → m.origin ≡ o → AreLinkedBehind r.given ((opened ++ inputs_lines) ++ member_of (take j needed) (take j r.members)) (lines_of_member (plan_of r needed) j m.clause o)
  linked_member j m marked at (Input n) e = tt
  linked_member j m marked at (Inferred a b images) e =
      let fits = slice_get_within r.members j m at in
      let reach : (a < j) × (b < j) = subst (Reaches r j) e (s.members j m at) in
      let names_a : Names m.origin a = subst (λ (o : Origin). Names o a) (sym e) (inl refl) in
      let names_b : Names m.origin b = subst (λ (o : Origin). Names o b) (sym e) (inr refl) in (
        record {
          new = member_new j m at (ap is_inferred e);
          own = clause_own (place j);
          from = from_members (member_of (take j needed) (take j r.members)) j a b (inferred_before j) (omega arith) reach.0 reach.1
              (s.are.of_each a (record { by = j; member = m; there = at; marked = marked; names = names_a })) (s.are.of_each b (record { by = j; member = m; there = at; marked = marked; names = names_b }));
        },
        tt,
      )

  pub linked_members : AreLinkedBehind r.given (opened ++ inputs_lines) (member_of needed r.members)
  linked_members = each_chosen (IsLinked r.given) (inferred_lines (plan_of r needed)) (opened ++ inputs_lines) needed r.members (λ j m marked at. linked_member j m marked at m.origin refl)

  -- ---- falsehood

  abbrev all_lines : List ProofLine
  all_lines = (opened ++ inputs_lines) ++ member_of needed r.members

  last_from : (o : Origin) → r.last.origin ≡ o → IsFrom r.given all_lines (Or []) (source_of (plan_of r needed) o)
  last_from (Input i) e =
      let reach : i < length r.inputs = subst (Reaches r (length r.members)) e s.last in
      let used = last_used r needed s i e reach in
      named_left (opened ++ inputs_lines) (member_of needed r.members) (opened_name (parts_of r.given) (get_or (owners_in r) i 0))
      (named_left opened inputs_lines (opened_name (parts_of r.given) (get_or (owners_in r) i 0)) (opened_there (get_or (owners_in r) i 0) used.0 used.1))
  last_from (Inferred a b images) e =
      let reach : (a < length r.members) × (b < length r.members) = subst (Reaches r (length r.members)) e s.last in
      let names_a : Names r.last.origin a = subst (λ (o : Origin). Names o a) (sym e) (inl refl) in
      let names_b : Names r.last.origin b = subst (λ (o : Origin). Names o b) (sym e) (inr refl) in
      from_members (member_of needed r.members) (length r.members) a b inferred_all (omega arith) reach.0 reach.1 (s.are.of_last a names_a) (s.are.of_last b names_b)

  last_new : IsNameIn all_lines (codes "e") → ⊥
  last_new =
      unnamed (opened ++ inputs_lines) (member_of needed r.members) (codes "e")
      (unnamed opened inputs_lines (codes "e") (not_opened 101 [] (λ e. omega arith) (λ e. omega arith)) (not_inputs (codes "e") (λ i lt e. other_letter 99 101 _ [] (λ f. omega arith) e)))
      (among_members needed r.members (codes "e") (λ m j marked at own e. other_letter 99 101 _ [] (λ f. omega arith) e))

  pub linked_lines : AreLinked r.given (lines_of r (plan_of r needed))
  linked_lines =
      each_append (IsLinked r.given) [] all_lines (last_line (plan_of r needed) r.last.origin ∷ [])
      (each_append (IsLinked r.given) [] (opened ++ inputs_lines) (member_of needed r.members) (each_append (IsLinked r.given) [] opened inputs_lines (each_append (IsLinked r.given) [] (given_of (used_in r needed) r.given) (skolem_of (used_in r needed) (parts_of r.given)) linked_given linked_skolem) linked_inputs) linked_members)
      (record { new = last_new; own = last_own; from = last_from r.last.origin refl }, tt)
