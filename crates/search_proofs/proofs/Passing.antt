-- Members that are proved one by one.
use Rattle.std.specs.Prelude.{ℕ, ◌≡◌, ◌+◌, ◌<◌, ◌≤◌, Bool, true, false, List, [], ◌∷◌, ◌++◌, length, Some, slice_get, refl}
use Rattle.std.specs.List.{All as Each, AllByRecursion}
use Rattle.std.proofs.Common.{sym, ap, subst, ◌∙◌, arith, zero, suc, inl, inr, get_or, take}
use Rattle.std.proofs.lemmas.List.Elements.{All-nil, All-cons, All-from_recursion, recursion_from_All}
use Rattle.std.proofs.lemmas.Option.{slice_get-get_or}
use Rattle.fof_terms.proofs.Scoped.{member_of}
use Rattle.fof_terms.specs.Vocabulary.{Vocabulary}
use Rattle.fof_terms.specs.declared.term.Term.{Term}
use Rattle.fof_terms.specs.declared.form.Form.{Form, Not}
use Rattle.clause_form.specs.ClauseView.{clause_of}
use Rattle.clause_form.specs.declared.clause.Clause.{Clause}
use Rattle.clause_form.specs.declared.path.Parent.{Parent}
use Rattle.clause_proofs.specs.Refuting.{theory_of}
use Rattle.clause_proofs.specs.Shown.{ShowsLine}
use Rattle.clause_rules.proofs.ListPlaces.{get_lifted}
use Rattle.clause_rules.specs.Steps.{IsReady, AreReady}
use Rattle.derive_kit.specs.Derived.{AreOfTheory}
use Rattle.kernel.specs.Proves.{Proves}
use Rattle.kernel.specs.Statements.{Statements}
use Rattle.kernel.specs.declared.proof.Proof.{Proof}
use Rattle.inference_proofs.specs.Inferred.{IsRuleStep}
use Rattle.input_proofs.proofs.ClauseFormulas.{formula_view}
use Rattle.input_proofs.specs.Formulas.{formula_of}
use Rattle.negated_lemmas.specs.Negated.{with_denied}
use Rattle.saturation.proofs.Lists.{got_pushed}
use Rattle.saturation.specs.Members.{clauses_of}
use Rattle.search_proofs.specs.code.Derived.{AreDerived, Derives}
use Rattle.saturation.specs.declared.member.Member.{Member}
use Rattle.saturation.specs.declared.member.Origin.{Origin}
use Rattle.saturation.specs.declared.member.Origin.TheVariants.{Input, Inferred}
use Rattle.superpose.specs.Drafts.{IsClause}
use Rattle.search_proofs.specs.Needed.{Names, IsMarked}
use Rattle.search_proofs.specs.code.Marks.{NameMarked}
use Rattle.search_proofs.specs.code.Naming.{NameEarlier}
use Rattle.search_proofs.specs.code.Facts.{Setting, IsOf, AreShown, StandsAt, first_fact}
use Rattle.search_proofs.specs.code.Members.{IsPremise, IsConcluded, IsPassed, IsPassedIf, MembersStand, IsMembers, ShowMore, PassMembers}
use Rattle.search_proofs.proofs.Forms.{formula_ready}
use Rattle.search_proofs.proofs.InTurn.{stands_in, stands_last, no_more, one_of, shown_twice, stands_on}
use Rattle.search_proofs.proofs.Sweeping.{derived_names, count_of, each_derived_names}
use Rattle.search_proofs.proofs.Symbols.{clause_at, taken}

-- the member at a place, as code meets it
pub member_there : (members : List Member) (at : ℕ) (m : Member) → at < length members → m ≡ get_or members at m → slice_get members at ≡ Some m
member_there members at m lt is = slice_get-get_or members at m lt ∙ ap Some (sym is)

pub premise_there : (members : List Member) (numbers : List ℕ) (at : ℕ) (m : Member) (p : Parent) → at < length members → length numbers ≡ length members → m ≡ get_or members at m
    → p.number ≡ get_or numbers at 0 → p.form ≡ formula_of m.clause → IsPremise members numbers at p
premise_there members numbers at m p lt size is number form = record {
  clause = m.clause;
  there = get_lifted (λ (x : Member). x.clause) members at m (member_there members at m lt is);
  number = slice_get-get_or numbers at 0 (omega arith) ∙ ap Some (sym number);
  form = form;
}

-- what an inference names is there
pub named_within : (v : Vocabulary) (inputs : List Clause) (members : List Member) (e : Clause) (a b : ℕ) (images : List Term) → Derives v inputs (clauses_of members) e (Inferred a b images) → (a < length members) × (b < length members)
named_within v inputs members e a b images made =
    let below = derived_names v inputs (clauses_of members) e (Inferred a b images) made in
    let first = below a (inl refl) in
    let second = below b (inr refl) in
    let many = count_of members in
    (omega arith, omega arith)

pub input_within : (v : Vocabulary) (inputs list : List Clause) (e : Clause) (o : Origin) (i : ℕ) → Derives v inputs list e o → o ≡ Input i → slice_get inputs i ≡ Some e
input_within v inputs list e o i made is = subst (λ (x : Origin). Derives v inputs list e x) is made

one_there : (members : List Member) (at : ℕ) (c d : Clause) → slice_get (clauses_of members) at ≡ Some c → slice_get (clauses_of members) at ≡ Some d → c ≡ d
one_there members at c d e f = let both : Some c ≡ Some d = sym e ∙ f in cc

module _ (w : Vocabulary) (members : List Member) (numbers : List ℕ) where
  premise_ready : (at : ℕ) (p : Parent) → Each (λ m. IsClause w m.clause) members → IsPremise members numbers at p → IsReady w p.form
  premise_ready at p fit h =
      let found = clause_at members at h.clause h.there in
      let own : IsClause w found.0.clause = member_of (λ (m : Member). IsClause w m.clause) members at found.0 (recursion_from_All (λ (m : Member). IsClause w m.clause) members fit) found.1 in
      subst (IsReady w) (sym h.form) (formula_ready w h.clause (subst (IsClause w) found.2 own))

  premise_clause : (at : ℕ) (p : Parent) (c : Clause) → IsPremise members numbers at p → slice_get (clauses_of members) at ≡ Some c → clause_of p.form ≡ Some c
  premise_clause at p c h e = ap clause_of h.form ∙ (formula_view h.clause ∙ ap Some (one_there members at h.clause c h.there e))

  pub parents_ready : (a b : ℕ) (p q : Parent) → Each (λ m. IsClause w m.clause) members → IsPremise members numbers a p → IsPremise members numbers b q → AreReady w (p ∷ q ∷ [])
  parents_ready a b p q fit first second =
      All-cons (λ (x : Parent). IsReady w x.form) p (q ∷ []) (premise_ready a p fit first)
      (All-cons (λ (x : Parent). IsReady w x.form) q [] (premise_ready b q fit second) (All-nil (λ (x : Parent). IsReady w x.form)))

  pub parents_step : (inputs : List Clause) (a b : ℕ) (p q : Parent) (e : Clause) (images : List Term) → IsPremise members numbers a p → IsPremise members numbers b q
      → Derives w inputs (clauses_of members) e (Inferred a b images) → IsRuleStep w (p ∷ q ∷ []) (formula_of e)
  parents_step inputs a b p q e images first second d = d.step p q (premise_clause a p d.first first d.first_at) (premise_clause b q d.second second d.second_at)

-- a member is passed
module _ (s : Setting) (w : Vocabulary) (voc : s.vocabulary ≡ w) (start : ℕ) (starts : first_fact s ≡ start) (facts : List Form) (earlier : List Member) (numbers : List ℕ) where
  -- what the origin names stands at its number
  abbrev pub NamedStand : Origin → Type 0
  NamedStand o = (i n : ℕ) (c : Clause) → Names o i → slice_get numbers i ≡ Some n → slice_get (clauses_of earlier) i ≡ Some c → StandsAt s facts n (formula_of c)

  abbrev pub OwnInputStands : Clause → Origin → List ℕ → Type 0
  OwnInputStands e o of_inputs = (i n : ℕ) → o ≡ Input i → slice_get of_inputs i ≡ Some n → StandsAt s facts n (formula_of e)

  concluded_shows : (a b : ℕ) (e : Clause) (proof : Proof) (c : IsConcluded w earlier numbers a b e proof) → StandsAt s facts c.one.number c.one.form → StandsAt s facts c.other.number c.other.form
      → (t : Statements) → IsOf s t → Proves (with_denied t s.line facts) [] [] proof (formula_of e)
  concluded_shows a b e proof c one other t is =
      let fs = t.formulas ++ (Not s.line ∷ facts) in
      let P = λ (p : Parent). slice_get fs p.number ≡ Some p.form in
      let given : AreOfTheory (theory_of w fs) (c.one ∷ c.other ∷ []) =
      All-cons P c.one (c.other ∷ []) (stands_in s facts c.one.number c.one.form t is one) (All-cons P c.other [] (stands_in s facts c.other.number c.other.form t is other) (All-nil P)) in
      let same : w ≡ t.vocabulary = sym voc ∙ sym is.vocabulary in
      subst (λ (v : Vocabulary). Proves (theory_of v fs) [] [] proof (formula_of e)) same (c.shows fs given)

  pub passed : (of_inputs : List ℕ) (old new : List Proof) (n : ℕ) (P : Form → Type 0) (e : Clause) (o : Origin) → AreShown s old facts → IsPassed w start earlier numbers of_inputs e o old new n
      → OwnInputStands e o of_inputs → NamedStand o → P (formula_of e) → (all : List Form) × ShowMore s P new facts all × StandsAt s all n (formula_of e)
  passed of_inputs old new n P e (Input i) shown h input named p = (facts, no_more s P old new facts shown h.0, input i n refl h.1)
  passed of_inputs old new n P e (Inferred a b images) shown h input named p =
      let c = h.concluded in
      let one = subst (λ (x : Form). StandsAt s facts c.one.number x) (sym c.first.form) (named a c.one.number c.first.clause (inl refl) c.first.number c.first.there) in
      let other = subst (λ (x : Form). StandsAt s facts c.other.number x) (sym c.second.form) (named b c.other.number c.second.clause (inr refl) c.second.number c.second.there) in
      let number : n ≡ first_fact s + length old = h.number_is ∙ ap (λ k. k + length old) (sym starts) in (
        facts ++ formula_of e ∷ [],
        one_of s P old new facts h.proof (formula_of e) shown (concluded_shows a b e h.proof c one other) p h.is,
        stands_last s old facts n (formula_of e) shown number,
      )

-- no member is passed yet
pub none_passed : (w : Vocabulary) (start : ℕ) (members : List Member) (needed : List Bool) (of_inputs numbers : List ℕ) (old new : List Proof) → numbers ≡ [] → new ≡ old → PassMembers w start members needed of_inputs numbers old new
none_passed w start members needed of_inputs numbers old new none same s voc starts facts shown inputs =
    (facts, no_more s (IsMembers members) old new facts shown same, λ j m n at marked number. let no : slice_get [] j ≡ Some n = ap (λ (ns : List ℕ). slice_get ns j) (sym none) ∙ number in cc)

module _ (w : Vocabulary) (start : ℕ) (members : List Member) (needed : List Bool) (of_inputs : List ℕ) (needs : NameMarked members needed) (names : NameEarlier members) where
  -- what a needed member's origin names is needed and stands
  pub named_stand : (s : Setting) (all : List Form) (at : ℕ) (numbers : List ℕ) (m : Member) → MembersStand s all members needed numbers → slice_get members at ≡ Some m → IsMarked needed at
      → (i n : ℕ) (c : Clause) → Names m.origin i → slice_get numbers i ≡ Some n → slice_get (clauses_of (take at members)) i ≡ Some c → StandsAt s all n (formula_of c)
  named_stand s all at numbers m stand there marked i n c name number clause =
      let found = clause_at (take at members) i c clause in
      let earlier = taken members at i found.0 found.1 in
      let needed_too = needs i (record { by = at; member = m; there = there; marked = marked; names = name }) in
      subst (λ (x : Clause). StandsAt s all n (formula_of x)) found.2 (stand i found.0 n earlier.1 needed_too number)

  module _ (at : ℕ) (m : Member) (there : slice_get members at ≡ Some m) (numbers more : List ℕ) (size : length numbers ≡ at) (n : ℕ) (is : more ≡ numbers ++ n ∷ []) (old mid new : List Proof) (before : PassMembers w start members needed of_inputs numbers old mid) where
    -- with one number more
    stand_more : (s : Setting) (facts all : List Form) → ((j k : ℕ) (x : Member) → slice_get members j ≡ Some x → IsMarked needed j → slice_get numbers j ≡ Some k → StandsAt s all k (formula_of x.clause))
        → (IsMarked needed at → StandsAt s all n (formula_of m.clause)) → MembersStand s all members needed more
    stand_more s facts all earlier own j x k at_j marked number =
        elim (got_pushed numbers n j k (ap (λ (ns : List ℕ). slice_get ns j) (sym is) ∙ number)) [
          | inl h ↦ earlier j k x at_j marked h.1
          | inr h ↦
              let place : j ≡ at = h.0 ∙ size in
              let same : x ≡ m = let both : Some x ≡ Some m = sym at_j ∙ (ap (slice_get members) place ∙ there) in cc in
              subst (λ i. StandsAt s all i (formula_of x.clause)) (sym h.1) (subst (λ (y : Member). StandsAt s all n (formula_of y.clause)) (sym same) (own (subst (IsMarked needed) place marked)))
        ]

    pass_needed : IsMarked needed at → IsPassed w start (take at members) numbers of_inputs m.clause m.origin mid new n → PassMembers w start members needed of_inputs more old new
    pass_needed marked h s voc starts facts shown inputs =
        let so_far = before s voc starts facts shown inputs in
        let all = so_far.0 in
        let input = λ (i k : ℕ) (o : m.origin ≡ Input i) (e : slice_get of_inputs i ≡ Some k). stands_on s (IsMembers members) mid facts all k (formula_of m.clause) so_far.1 (inputs at m there marked i k o e) in
        let one = passed s w voc start starts all (take at members) numbers of_inputs mid new n (IsMembers members) m.clause m.origin so_far.1.shown h input (named_stand s all at numbers m so_far.2 there marked) (at, m, there, refl) in (
          one.0,
          shown_twice s (IsMembers members) mid new facts all one.0 so_far.1 one.1,
          stand_more s facts one.0 (λ j k x at_j marked_j number. stands_on s (IsMembers members) new all one.0 k (formula_of x.clause) one.1 (so_far.2 j x k at_j marked_j number)) (λ _. one.2),
        )

    pass_over : (IsMarked needed at → ⊥) → new ≡ mid → PassMembers w start members needed of_inputs more old new
    pass_over none same s voc starts facts shown inputs =
        let so_far = before s voc starts facts shown inputs in (
          so_far.0,
          subst (λ (ps : List Proof). ShowMore s (IsMembers members) ps facts so_far.0) (sym same) so_far.1,
          stand_more s facts so_far.0 (λ j k x at_j marked number. so_far.2 j x k at_j marked number) (λ marked. absurd (none marked)),
        )

    pub pass_one : (b : Bool) → slice_get needed at ≡ Some b → IsPassedIf b w start (take at members) numbers of_inputs m.clause m.origin mid new n → PassMembers w start members needed of_inputs more old new
    pass_one true e h = pass_needed e (h.passed refl)
    pass_one false e h = pass_over (λ marked. let both : Some false ≡ Some true = sym e ∙ marked in cc) (h.same refl)

-- what the loop over the members gives to its calls
pub front_fit : (P : Member → Type 0) (members front : List Member) (n : ℕ) → front ≡ take n members → Each P members → Each P front
front_fit P members front n is all = subst (Each P) (sym is) (All-from_recursion P (take n members) (some members n (recursion_from_All P members all))) where
  some : (xs : List Member) (k : ℕ) → AllByRecursion P xs → AllByRecursion P (take k xs)
  some xs zero h = tt
  some [] (suc k) h = tt
  some (x ∷ xs) (suc k) h = (h.0, some xs k h.1)

take_count : {X : Type 0} (xs : List X) (n : ℕ) → n ≤ length xs → length (take n xs) ≡ n
take_count xs zero le = refl
take_count [] (suc n) le = absurd (omega arith)
take_count (x ∷ xs) (suc n) le = ap suc (take_count xs n (omega arith))

pub front_count : (members front : List Member) (numbers : List ℕ) (n : ℕ) → front ≡ take n members → n < length members → length numbers ≡ n → length numbers ≡ length front
front_count members front numbers n is lt size = let many = ap (λ (ms : List Member). length ms) is in let own = take_count members n (omega arith) in omega arith

pub front_made : (w : Vocabulary) (members front : List Member) (n : ℕ) (m : Member) (count : ℕ) → front ≡ take n members → n < length members → m ≡ get_or members n m → (inputs : List Clause) × (length inputs ≡ count) × AreDerived w inputs members
    → (inputs : List Clause) × (length inputs ≡ count) × Derives w inputs (clauses_of front) m.clause m.origin
front_made w members front n m count is lt at made =
    (made.0, made.1, subst (λ (ms : List Member). Derives w made.0 (clauses_of ms) m.clause m.origin) (sym is) (made.2 n m (member_there members n m lt at)))

pub step_passed : (w : Vocabulary) (start : ℕ) (members front : List Member) (needed : List Bool) (of_inputs : List ℕ) (n : ℕ) (m : Member) (b : Bool) (numbers lent more : List ℕ) (number : ℕ) (old mid new : List Proof) → NameMarked members needed
    → ((inputs : List Clause) × (length inputs ≡ length of_inputs) × AreDerived w inputs members) → n < length members → length needed ≡ length members → front ≡ take n members → m ≡ get_or members n m → b ≡ get_or needed n false → length numbers ≡ n → lent ≡ numbers
    → PassMembers w start members needed of_inputs numbers old mid → IsPassedIf b w start front lent of_inputs m.clause m.origin mid new number → more ≡ numbers ++ number ∷ [] → PassMembers w start members needed of_inputs more old new
step_passed w start members front needed of_inputs n m b numbers lent more number old mid new needs made lt many is at b_is size lent_is before h push =
    let own : IsPassedIf b w start (take n members) numbers of_inputs m.clause m.origin mid new number =
    subst (λ (ms : List Member). IsPassedIf b w start ms numbers of_inputs m.clause m.origin mid new number) is (subst (λ (ns : List ℕ). IsPassedIf b w start front ns of_inputs m.clause m.origin mid new number) lent_is h) in
    let marked : slice_get needed n ≡ Some b = slice_get-get_or needed n false (omega arith) ∙ ap Some (sym b_is) in
    pass_one w start members needed of_inputs needs (each_derived_names w made.0 members made.2) n m (member_there members n m lt at) numbers more size number push old mid new before b marked own

-- a member that is proved from two
module _ (w : Vocabulary) (start : ℕ) (earlier : List Member) (numbers of_inputs : List ℕ) (e : Clause) (o : Origin) where
  pub inferred_made : (a b : ℕ) (images : List Term) → o ≡ Inferred a b images → (inputs : List Clause) × (length inputs ≡ length of_inputs) × Derives w inputs (clauses_of earlier) e o
      → (images : List Term) × Derives w [] (clauses_of earlier) e (Inferred a b images)
  inferred_made a b images is made = (images, subst (λ (x : Origin). Derives w made.0 (clauses_of earlier) e x) is made.2)

-- a proof from two members
module _ (w : Vocabulary) (members : List Member) (numbers : List ℕ) (a b : ℕ) (e : Clause) (one other : Parent) (first : IsPremise members numbers a one) (second : IsPremise members numbers b other) (parents lent : List Parent) (parents_are : parents ≡ one ∷ other ∷ []) (lent_is : lent ≡ parents)
    (line : Form) (line_is : line ≡ formula_of e) where
  both : lent ≡ one ∷ other ∷ []
  both = lent_is ∙ parents_are

  pub lent_ready : Each (λ m. IsClause w m.clause) members → AreReady w lent
  lent_ready fit = subst (AreReady w) (sym both) (parents_ready w members numbers a b one other fit first second)

  pub line_ready : IsClause w e → IsReady w line
  line_ready fit = subst (IsReady w) (sym line_is) (formula_ready w e fit)

  pub lent_step : (images : List Term) × Derives w [] (clauses_of members) e (Inferred a b images) → IsRuleStep w lent line
  lent_step made =
      subst (λ (ps : List Parent). IsRuleStep w ps line) (sym both) (subst (IsRuleStep w (one ∷ other ∷ [])) (sym line_is) (parents_step w members numbers [] a b one other e made.0 first second made.1))

  pub lent_shows : (proof : Proof) → ShowsLine w lent line proof → IsConcluded w members numbers a b e proof
  lent_shows proof shows = record {
    one = one;
    other = other;
    first = first;
    second = second;
    shows = subst (λ (x : Form). ShowsLine w (one ∷ other ∷ []) x proof) line_is (subst (λ (ps : List Parent). ShowsLine w ps line proof) both shows);
  }
