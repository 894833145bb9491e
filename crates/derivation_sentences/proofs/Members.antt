-- The clauses that a derivation prints are well-sorted in the search's vocabulary, and each of their functions stands for
-- one of the derivation.
use Rattle.std.specs.Prelude.{ℕ, zero, suc, ◌≡◌, ◌+◌, ◌-◌, ◌<◌, ◌||◌, ◌==◌, nat_lt, Bool, true, false, if◌then◌else◌, List, [], ◌∷◌, ◌++◌, length, get_or, take, Some, slice_get, refl}
use Rattle.std.specs.List.{All as Each, AllByRecursion, list_any}
use Rattle.std.proofs.Common.{ap, sym, subst, ◌∙◌, arith, inl, inr, eq-eqb}
use Rattle.std.proofs.lemmas.Bool.{lt-ltb, le-ltb}
use Rattle.std.proofs.lemmas.List.FromFn.{length-map-range_with_len}
use Rattle.std.proofs.lemmas.List.Elements.{recursion_from_All}
use Rattle.std.proofs.lemmas.Option.{get_or_from_slice_get, slice_get_within, slice_get-get_or}
use Rattle.fof_terms.specs.declared.signature.Kind.TheVariants.{Function, Predicate}
use Rattle.fof_terms.specs.declared.signature.Symbol.{Symbol}
use Rattle.fof_terms.specs.declared.form.Form.{Form, Not}
use Rattle.fof_terms.specs.declared.term.Term.{Term}
use Rattle.fof_terms.specs.Vocabulary.{Vocabulary}
use Rattle.clause_form.specs.declared.clause.Clause.{Clause}
use Rattle.clause_form.specs.Covers.{scope_of, AreSorted}
use Rattle.clause_form.specs.Paths.{forms_of}
use Rattle.unify_terms.specs.Substitution.{image_at}
use Rattle.clause_rules.specs.Steps.{IsReady}
use Rattle.sort_check.specs.declared.line.GivenEntry.{GivenEntry}
use Rattle.superpose.specs.Absent.{AreWithout}
use Rattle.superpose.specs.Drafts.{IsClause, SortsExist}
use Rattle.superpose.specs.Inferences.{InfersFromOne, InfersFromTwo}
use Rattle.superpose.proofs.InferLaws.{sorted_of_one, sorted_of_two}
use Rattle.saturation.specs.Members.{clauses_of}
use Rattle.saturation.specs.Origins.{Makes}
use Rattle.saturation.specs.declared.member.Member.{Member}
use Rattle.saturation.specs.declared.member.Origin.{Origin}
use Rattle.saturation.specs.declared.member.Origin.TheVariants.{Input, Inferred}
use Rattle.search_proofs.specs.Needed.{IsMarked, Names}
use Rattle.search_proofs.proofs.Symbols.{clause_at, taken}
use Rattle.step_clauses.specs.Inputs.{clauses_from, new_symbols_from, search_input, step_forms}
use Rattle.step_clauses.specs.Wide.{is_heavy, is_large}
use Rattle.step_search.proofs.Inputs.{clauses_fit, neither}
use Rattle.printed_clauses.specs.Prefixes.{prefix_of}
use Rattle.printed_clauses.specs.Renumbered.{new_number}
use Rattle.printed_steps.specs.Carried.{has_function, AreCarried, IsCarried, KeepsPredicates}
use Rattle.given_parts.specs.Chosen.{chosen}
use Rattle.given_parts.specs.Functions.{functions_from, used_existentials}
use Rattle.given_parts.specs.Numbers.{numbers_from}
use Rattle.given_parts.specs.Owners.{owners_from}
use Rattle.given_parts.specs.Parts.{parts_of}
use Rattle.refutation_lines.specs.Needs.{is_input, owner_of, prints_input, uses_part}
use Rattle.refutation_lines.specs.Plans.{owners_in, printed_in, used_in}
use Rattle.refutation_lines.proofs.PlanFacts.{owners_count}
use Rattle.refutation_lines.specs.declared.derivation.Derivation.{Derivation}
use Rattle.problem_proofs.specs.Found.{IsFound, refutation_by, vocabulary_of}
use Rattle.problem_proofs.specs.Posed.{clauses_of_given, falsehood, parents_of, with_functions}
use Rattle.problem_proofs.proofs.PosedFacts.{clauses_are as given_clauses, falsehood_ready, formulas_are, parents_ready}
use Rattle.derivation_sentences.proofs.Linked.{element_at, forms_in, in_back, in_front, linked, symbols_in, IsOwn}
use Rattle.derivation_sentences.proofs.Owned.{in_either, input_functions, one_of_all, predicate_is}
use Rattle.derivation_sentences.proofs.Standing.{all_skolems, any_before, any_chosen, mark_of, no_without, owner_below, stands, stands_as, symbols_front, without}

-- ---- a derivation that is found

module _ (v : Vocabulary) (given : List GivenEntry) (limit : ℕ) (d : Derivation) (ready : Each (λ (g : GivenEntry). IsReady v g.form) given) (found : IsFound v given limit d) where
  abbrev pub searched : Vocabulary
  searched = with_functions v given

  abbrev pub whole : Vocabulary
  whole = vocabulary_of v d

  abbrev pub needed : List Bool
  needed = found.derivation.needed

  abbrev pub used : List Bool
  used = used_in (refutation_by v given found.members found.last) needed

  abbrev pub printed : List Bool
  printed = printed_in (refutation_by v given found.members found.last) needed

  abbrev pub number : ℕ → ℕ
  number = new_number (length v.symbols) (numbers_from (length v.symbols) used (parts_of given))

  functions_are : d.functions ≡ functions_from (prefix_of found.underscores) 1 (used_existentials used (parts_of given))
  functions_are = ap (λ (e : Derivation). e.functions) found.derivation.is

  each_ready : AllByRecursion (λ (g : GivenEntry). IsReady v g.form) given
  each_ready = recursion_from_All (λ (g : GivenEntry). IsReady v g.form) given ready

  used_count : length used ≡ length given
  used_count = length-map-range_with_len (uses_part (owners_in (refutation_by v given found.members found.last)) printed found.last.origin) 0 (length given)

  searched_are : searched.symbols ≡ v.symbols ++ symbols_in (new_symbols_from (length v.symbols) (step_forms (forms_in given) falsehood))
  searched_are = ap (λ (fs : List Form). v.symbols ++ symbols_in (new_symbols_from (length v.symbols) (step_forms fs falsehood))) (formulas_are given)

  -- ---- symbols that are carried

  abbrev pub Goes : ℕ → Type 0
  Goes f = IsCarried searched whole f (number f)

  keeps_number : (f : ℕ) → f < length v.symbols → number f ≡ f
  keeps_number f lt = ap (λ (b : Bool). if b then f else get_or (numbers_from (length v.symbols) used (parts_of given)) (f - length v.symbols) f) (lt-ltb f (length v.symbols) lt)

  old_goes : (f : ℕ) → f < length v.symbols → Goes f
  old_goes f lt =
      let at = element_at v.symbols f lt in
      let there : slice_get searched.symbols f ≡ Some at.0 = ap (λ (l : List Symbol). slice_get l f) searched_are ∙ in_front v.symbols (symbols_in (new_symbols_from (length v.symbols) (step_forms (forms_in given) falsehood))) f at.0 at.1 in
      let now : slice_get whole.symbols (number f) ≡ Some at.0 = ap (slice_get whole.symbols) (keeps_number f lt) ∙ in_front v.symbols d.functions f at.0 at.1 in
      record { old = at.0; new = at.0; there = there; new_there = now; kind = refl; args = refl; result = refl }

  new_goes : (j : ℕ) → IsOwn used given j → Goes (length v.symbols + j)
  new_goes j is =
      let l = linked (prefix_of found.underscores) used given (length v.symbols) (length v.symbols) 1 0 j is in
      let front = symbols_front (length v.symbols) (forms_in given) (Not falsehood ∷ []) in
      let olds_at : slice_get (symbols_in (new_symbols_from (length v.symbols) (step_forms (forms_in given) falsehood))) j ≡ Some l.old =
      ap (λ (xs : List Symbol). slice_get xs j) front.1 ∙ in_front (symbols_in (new_symbols_from (length v.symbols) (forms_in given))) front.0 j l.old l.there
      in
      let there : slice_get searched.symbols (length v.symbols + j) ≡ Some l.old =
      ap (λ (xs : List Symbol). slice_get xs (length v.symbols + j)) searched_are ∙ in_back v.symbols (symbols_in (new_symbols_from (length v.symbols) (step_forms (forms_in given) falsehood))) (length v.symbols + j) j refl ∙ olds_at
      in
      let behind : length v.symbols + j - length v.symbols ≡ j = omega arith in
      let read : get_or (numbers_from (length v.symbols) used (parts_of given)) j (length v.symbols + j) ≡ get_or (numbers_from (length v.symbols) used (parts_of given)) j 0 =
      get_or_from_slice_get (numbers_from (length v.symbols) used (parts_of given)) j (get_or (numbers_from (length v.symbols) used (parts_of given)) j 0) (length v.symbols + j) (slice_get-get_or (numbers_from (length v.symbols) used (parts_of given)) j 0 l.inside)
      in
      let moved : number (length v.symbols + j) ≡ length v.symbols + l.place =
      ap (λ (b : Bool). if b then length v.symbols + j else get_or (numbers_from (length v.symbols) used (parts_of given)) (length v.symbols + j - length v.symbols) (length v.symbols + j)) (le-ltb (length v.symbols + j) (length v.symbols) (omega arith))
      ∙ ap (λ (n : ℕ). get_or (numbers_from (length v.symbols) used (parts_of given)) n (length v.symbols + j)) behind ∙ read ∙ l.number
      in
      let now : slice_get whole.symbols (number (length v.symbols + j)) ≡ Some l.now =
      ap (slice_get whole.symbols) moved ∙ in_back v.symbols d.functions (length v.symbols + l.place) l.place refl ∙ ap (λ (xs : List Symbol). slice_get xs l.place) functions_are ∙ l.new_there
      in
      record { old = l.old; new = l.now; there = there; new_there = now; kind = l.like.kind; args = l.like.args; result = l.like.result }

  -- a predicate is one of the problem
  old_predicate : (p : ℕ) (s : Symbol) → slice_get searched.symbols p ≡ Some s → s.kind ≡ Predicate → p < length v.symbols
  old_predicate p s at is = elim (in_either v.symbols (symbols_in (new_symbols_from (length v.symbols) (step_forms (forms_in given) falsehood))) p s (ap (λ (l : List Symbol). slice_get l p) (sym searched_are) ∙ at)) [
    | inl h ↦ slice_get_within v.symbols p s h
    | inr h ↦ let wrong : Predicate ≡ Function = sym is ∙ all_skolems (length v.symbols) (step_forms (forms_in given) falsehood) h.0 s h.2 in absurd (cc)
  ]

  -- ---- clauses that are printed

  -- It is well-sorted, and its functions are carried.
  pub record IsGood (c : Clause) : Type 0 where
    pub sorted : AreSorted searched (scope_of c) c.lits
    pub exist : SortsExist searched c.sorts
    pub functions : AreCarried searched whole number c

  pub keeps_predicates : (c : Clause) → AreSorted searched (scope_of c) c.lits → KeepsPredicates searched whole c
  keeps_predicates c sorted p e =
      let has = predicate_is searched c p sorted e in
      let lt = old_predicate p has.0 has.1 has.2 in
      subst (IsCarried searched whole p) (keeps_number p lt) (old_goes p lt)

  -- the inputs
  inputs_are : clauses_of_given v given ≡ clauses_from (length v.symbols) (forms_in given)
  inputs_are = given_clauses v given

  pub all_small : list_any is_large (forms_in given) ≡ false
  all_small =
      let wide = (neither (list_any is_large (step_forms (forms_of (parents_of given)) falsehood))
      (nat_lt 10000 (length (search_input (length v.symbols) (forms_of (parents_of given)) falsehood)) || list_any is_heavy (search_input (length v.symbols) (forms_of (parents_of given)) falsehood)) found.narrow).0 in
      front_small (forms_in given) (Not falsehood ∷ []) (ap (λ (fs : List Form). list_any is_large (step_forms fs falsehood)) (sym (formulas_are given)) ∙ wide)
    where
      front_small : (xs ys : List Form) → list_any is_large (xs ++ ys) ≡ false → list_any is_large xs ≡ false
      front_small [] ys e = refl
      front_small (x ∷ xs) ys e = let parts = neither (is_large x) (list_any is_large (xs ++ ys)) e in ap (λ (b : Bool). b || list_any is_large xs) parts.0 ∙ front_small xs ys parts.1

  -- the part of a printed input is used
  part_used : (i q : ℕ) → slice_get printed i ≡ Some true → i < length (owners_from 0 (parts_of given)) → q < length given → get_or (owners_from 0 (parts_of given)) i 0 ≡ 0 + q → slice_get used q ≡ Some true
  part_used i q marked inside within is =
      let owner : slice_get (owners_from 0 (parts_of given)) i ≡ Some q = slice_get-get_or (owners_from 0 (parts_of given)) i 0 inside ∙ ap Some (is ∙ (omega arith)) in
      let own_test : list_any (λ (o : ℕ). o == q) (q ∷ []) ≡ true = ap (λ (b : Bool). b || false) (eq-eqb q q refl) in
      let chosen_one = any_chosen (λ (o : ℕ). o == q) (λ (k : ℕ) (o : ℕ). o ∷ []) 0 printed (owners_from 0 (parts_of given)) i q marked owner own_test in
      let passes : uses_part (owners_in (refutation_by v given found.members found.last)) printed found.last.origin q ≡ true = any_before (λ (o : ℕ). o == q) (chosen (λ (k : ℕ) (o : ℕ). o ∷ []) printed (owners_from 0 (parts_of given))) (owner_of (owners_in (refutation_by v given found.members found.last)) found.last.origin) chosen_one in
      mark_of (uses_part (owners_in (refutation_by v given found.members found.last)) printed found.last.origin) (length given) q within ∙ ap Some passes

  owner_inside : (i : ℕ) (c : Clause) → slice_get (clauses_of_given v given) i ≡ Some c → i < length (owners_from 0 (parts_of given))
  owner_inside i c at =
      let there = slice_get_within (clauses_of_given v given) i c at in
      let same = ap (λ (cs : List Clause). length cs) inputs_are in
      let count = owners_count 0 (length v.symbols) given in
      omega (arith, there, same, count)

  pub input_good : (i : ℕ) (c : Clause) → slice_get (clauses_of_given v given) i ≡ Some c → slice_get printed i ≡ Some true → IsGood c
  input_good i c at marked =
      let fit = clauses_fit v (parents_of given) falsehood (parents_ready v given ready) (falsehood_ready v) found.narrow in
      let one : IsClause searched c = one_of_all (IsClause searched) (clauses_of_given v given) i c (recursion_from_All (IsClause searched) (clauses_of_given v given) fit) at in
      let inside = owner_inside i c at in
      let listed : slice_get (clauses_from (length v.symbols) (forms_in given)) i ≡ Some c = ap (λ (cs : List Clause). slice_get cs i) (sym inputs_are) ∙ at in
      record {
        sorted = one.fit.sorted;
        exist = one.exist;
        functions = λ f e.
            elim (input_functions v given used (length v.symbols) 0 i 0 c (omega arith) used_count each_ready all_small listed (λ q is. part_used i q marked inside (owner_below 0 given i q inside is) is) f e) [
              | inl lt ↦ old_goes f lt
              | inr new ↦ subst Goes (sym new.1) (new_goes new.0 new.2)
            ];
      }

  -- ---- the members

  abbrev Below : ℕ → Type 0
  Below i = (j : ℕ) (m : Member) → j < i → slice_get found.members j ≡ Some m → IsMarked needed j → IsGood m.clause

  printed_input : (i j : ℕ) (m : Member) → slice_get found.members j ≡ Some m → IsMarked needed j → m.origin ≡ Input i → i < length (clauses_of_given v given) → slice_get printed i ≡ Some true
  printed_input i j m at marked is lt =
      let here : list_any (is_input i) (m.origin ∷ []) ≡ true = ap (λ (o : Origin). list_any (is_input i) (o ∷ [])) is ∙ ap (λ (b : Bool). b || false) (eq-eqb i i refl) in
      let passes : prints_input needed found.members i ≡ true = any_chosen (is_input i) (λ (k : ℕ) (n : Member). n.origin ∷ []) 0 needed found.members j m marked at here in
      mark_of (prints_input needed found.members) (length (clauses_of_given v given)) i lt ∙ ap Some passes

  parent_good : (i a : ℕ) (c : Clause) → Below i → slice_get (clauses_of (take i found.members)) a ≡ Some c → IsMarked needed a → IsGood c
  parent_good i a c below at marked =
      let one = clause_at (take i found.members) a c at in
      let there = taken found.members i a one.0 one.1 in
      subst IsGood one.2 (below a one.0 there.0 there.1 marked)

  -- a symbol of a clause that is so is carried
  stands_goes : (f : ℕ) (c : Clause) → IsGood c → stands f c.lits ≡ true → Goes f
  stands_goes f c good e = elim (stands_as f c.lits e) [
    | inl h ↦ good.functions f h
    | inr h ↦ let has = predicate_is searched c f good.sorted h in old_goes f (old_predicate f has.0 has.1 has.2)
  ]

  from_two : (first second e : Clause) (s : ℕ → Term) → IsGood first → IsGood second → InfersFromTwo searched first second e s → ((k : ℕ) → AreWithout k first.lits → AreWithout k second.lits → AreWithout k e.lits) → IsGood e
  from_two first second e s one other infers no_new = record {
    sorted = sorted_of_two searched first second e s one.sorted other.sorted infers;
    exist = infers.2.exist;
    functions = λ f h. by f h (stands f first.lits) refl (stands f second.lits) refl;
  }
    where
      by : (f : ℕ) → has_function e.lits f ≡ true → (b : Bool) → stands f first.lits ≡ b → (c : Bool) → stands f second.lits ≡ c → Goes f
      by f h true is c is_too = stands_goes f first one is
      by f h false is true is_too = stands_goes f second other is_too
      by f h false is false is_too = absurd (no_without f e h (no_new f (without f first.lits is) (without f second.lits is_too)))

  from_one : (first e : Clause) (s : ℕ → Term) → IsGood first → InfersFromOne searched first e s → ((k : ℕ) → AreWithout k first.lits → AreWithout k e.lits) → IsGood e
  from_one first e s one infers no_new = record {
    sorted = sorted_of_one searched first e s one.sorted infers;
    exist = infers.2.exist;
    functions = λ f h. by f h (stands f first.lits) refl;
  }
    where
      by : (f : ℕ) → has_function e.lits f ≡ true → (b : Bool) → stands f first.lits ≡ b → Goes f
      by f h true is = stands_goes f first one is
      by f h false is = absurd (no_without f e h (no_new f (without f first.lits is)))

  made_good : (i : ℕ) → Below i → (m : Member) → slice_get found.members i ≡ Some m → IsMarked needed i → IsGood m.clause
  made_good i below m at marked = by m.origin refl (found.made i m at)
    where
      named : (o : Origin) → m.origin ≡ o → (a : ℕ) → Names o a → IsMarked needed a
      named o is a names = found.derivation.are.of_each a (record { by = i; member = m; there = at; marked = marked; names = subst (λ (x : Origin). Names x a) (sym is) names })

      by : (o : Origin) → m.origin ≡ o → Makes searched (clauses_of_given v given) (clauses_of (take i found.members)) m.clause o → IsGood m.clause
      by (Input n) is made = input_good n m.clause made (printed_input n i m at marked is (slice_get_within (clauses_of_given v given) n m.clause made))
      by (Inferred a b images) is (inl two) =
          from_two two.first two.second m.clause (image_at images) (parent_good i a two.first below two.first_at (named (Inferred a b images) is a (inl refl))) (parent_good i b two.second below two.second_at (named (Inferred a b images) is b (inr refl))) two.infers two.no_new
      by (Inferred a b images) is (inr one) = from_one one.premise m.clause (image_at images) (parent_good i a one.premise below one.premise_at (named (Inferred a b images) is a (inl refl))) one.infers one.no_new

  members_good : (i : ℕ) → Below i
  members_good zero j m lt at marked = absurd (omega arith)
  members_good (suc i) j m lt at marked = made_good j (λ k n less there mark. members_good i k n (omega (arith, less, lt)) there mark) m at marked

  pub member_good : (j : ℕ) (m : Member) → slice_get found.members j ≡ Some m → IsMarked needed j → IsGood m.clause
  member_good j m at marked = members_good (suc j) j m (omega arith) at marked
