-- What denotes a form without lists of one member, and numbers its variables, can be written.
use Rattle.std.proofs.Common.{◌≡◌, ℕ, suc, ◌+◌, ◌≤◌, ◌==◌, ◌&&◌, not, Bool, true, false, cond, List, [], ◌∷◌, ◌++◌, length, map, Option, Some, None, Ok, Err, refl, sym, ◌∙◌, ap, subst, arith}
use Rattle.std.specs.List.{list_all, AllByRecursion}
use Rattle.std.specs.Option.{is_some}
use Rattle.std.specs.Str.{bytes_eq}
use Rattle.std.specs.Cmp.Lexicographic.{bytes_decides}
use Rattle.std.proofs.lemmas.Bool.{and_parts, and_from}
use Rattle.std.proofs.lemmas.Bool.Decides.{nat_tests}
use Rattle.tptp_base.specs.declared.surface.BinOp.{BinOp}
use Rattle.tptp_base.specs.declared.surface.BinOp.TheVariants as op
use Rattle.tptp_base.specs.declared.surface.BoundVar.{BoundVar}
use Rattle.tptp_base.specs.declared.surface.Quant.{Quant}
use Rattle.tptp_base.specs.declared.surface.Quant.TheVariants as q
use Rattle.tptp_base.specs.declared.surface.SortName.{SortName}
use Rattle.tptp_base.specs.declared.surface.STerm.{STerm}
use Rattle.tptp_base.specs.declared.surface.Surface.{Surface}
use Rattle.tptp_base.specs.declared.surface.Surface.TheVariants as fm
use Rattle.fof_terms.specs.Vocabulary.{Vocabulary}
use Rattle.fof_terms.specs.declared.form.Form.{Form, Atom, Eq, Not, And, Or, Imp, Iff}
use Rattle.fof_terms.specs.declared.signature.Kind.TheVariants.{Predicate}
use Rattle.sort_check.specs.declared.fault.SortRule.{SortRule}
use Rattle.sort_check.specs.declared.fault.SortRule.TheVariants.{FreeVariable, Variables, WrongSort}
use Rattle.sort_check.specs.declared.scope.Variable.{Variable}
use Rattle.sort_check.specs.declared.terms.Sorted.{Sorted}
use Rattle.sort_check.specs.Outcomes.{Outcome, and_then, mapped, each}
use Rattle.sort_check.specs.Symbols.{Text, head}
use Rattle.sort_check.specs.Denotation.{Setting, State, argument, atom, beside, bound_variable, closed, denoted_form, denoted_term, equal, equation, joined, known_sort, outermost, quantified, variable_sort}
use Rattle.sort_check.proofs.Equations.{new_predicate, denoted_form-True, denoted_form-False, denoted_form-Atom, denoted_form-Eq, denoted_form-Neq, denoted_form-Not, denoted_form-And, denoted_form-Or, denoted_form-Binary, denoted_form-Bind}
use Rattle.sort_check.proofs.Inducing.{form_induction}
use Rattle.sort_check.proofs.LineSorts.{counted_ok, named_same}
use Rattle.sort_check.proofs.Stepping.{at_ok, mapped_ok, then_ok}
use Rattle.prove_out.specs.Denoting.{Denotes}
use Rattle.prove_out.specs.Variables.{are_numbered, has_some, is_numbered, variable_name}
use Rattle.prove_out.proofs.NumberedFacts.{is_numbered-Not, is_numbered-And, is_numbered-Or, is_numbered-Binary, is_numbered-Bind}
use Rattle.printed_forms.specs.Lists.{are_listed, has_no_list_of_one, is_one}
use Rattle.printed_forms.specs.Words.{HasWords}
use Rattle.printed_forms.proofs.ListsFacts.{IsListed, listed-Not, listed-And, listed-Or, listed-Imp, listed-Iff, listed-All, listed-Ex, members_listed}
use Rattle.spelled_items.specs.Writable.{all_true, has_one, has_two, is_bound, is_formula, is_term, is_variable, is_word, is_written_sort}
use Rattle.spelled_items.proofs.DenotedWords.{AreVariables, Behind, arguments_of, head_word, numbered_variable, sort_written, term_written, variables_both}
use Rattle.spelled_items.proofs.WritableFacts.{as_mapped, is_formula-True, is_formula-False, is_formula-Atom, is_formula-Eq, is_formula-Neq, is_formula-Not, is_formula-And, is_formula-Or, is_formula-Binary, is_formula-Bind}

-- ---- atoms and equations

-- the outcome beside a count of variables
beside_at : {A : Type 0} (n : ℕ) (o : Outcome SortRule Vocabulary A) (x : A) (t : State) → beside n o ≡ Ok (x, t) → (o ≡ Ok (x, t.vocabulary)) × (t.bound ≡ n)
beside_at n (Err e) x t is = absurd (cc)
beside_at {A = A} n (Ok p) x t is =
    at_ok {E = SortRule} (λ y (u : State). (◌≡◌ {A = Outcome SortRule Vocabulary A} (Ok p) (Ok (y, u.vocabulary))) × (u.bound ≡ n)) p.0 x (record { vocabulary = p.1; bound = n }) t is (refl, refl)

module _ (here : Setting) (scope : List Variable) (vars : AreVariables scope) where
  atom_written : (name : Text) (args : List STerm) (v w : Vocabulary) (form : Form) → atom here scope name args v ≡ Ok (form, w) → Behind v w (is_formula (fm.Atom name args))
  atom_written name args v w form e =
      let parts = then_ok (head here.declared name Predicate (length args) (new_predicate here scope v name args) v) (λ p u. mapped (Atom p) (each (λ place t. argument p place (denoted_term here scope t)) 0 args u)) form w e in
      let last = mapped_ok (Atom parts.0) (each (λ place t. argument parts.0 place (denoted_term here scope t)) 0 args parts.1) form w parts.3 in
      let word = head_word here.declared name Predicate (length args) (new_predicate here scope v name args) v parts.1 parts.0 refl parts.2 in
      let terms = arguments_of here scope vars parts.0 args 0 parts.1 w last.0 last.1 in
      λ has. let later = terms has in let first = word later.0 in (first.0, is_formula-Atom name args ∙ and_from (is_word name) (list_all is_term args) first.1 later.1)

  equal_same : (l r : Sorted) (v w : Vocabulary) (form : Form) → equal l r v ≡ Ok (form, w) → v ≡ w
  equal_same l r v w form e = by (l.sort == r.sort) e
    where
      by : (b : Bool) → ◌≡◌ {A = Outcome SortRule Vocabulary Form} (cond b (Ok (Eq l.term r.term, v)) (Err WrongSort)) (Ok (form, w)) → v ≡ w
      by true k = at_ok {E = SortRule} (λ (y : Form) u. v ≡ u) (Eq l.term r.term) form v w k refl
      by false k = absurd (cc)

  equation_written : (l r : STerm) (v w : Vocabulary) (form : Form) → equation here scope l r v ≡ Ok (form, w) → Behind v w (is_term l && is_term r)
  equation_written l r v w form e =
      let first = then_ok (denoted_term here scope l (known_sort scope v r) v) (λ x u. and_then (denoted_term here scope r (Some x.sort) u) (equal x)) form w e in
      let second = then_ok (denoted_term here scope r (Some first.0.sort) first.1) (equal first.0) form w first.3 in
      let one = term_written l here scope (known_sort scope v r) v first.1 first.0 vars first.2 in
      let two = term_written r here scope (Some first.0.sort) first.1 second.1 second.0 vars second.2 in
      λ has.
      let later = two (subst HasWords (sym (equal_same first.0 second.0 second.1 w form second.3)) has) in
      let own = one later.0 in
      (own.0, and_from (is_term l) (is_term r) own.1 later.1)

-- ---- formulas

-- the variables in scope can be written, and there are no fewer bound ones than binders around, and no more than 250
record IsAt (scope : List Variable) (k : ℕ) (s : State) : Type 0 where
  vars : AreVariables scope
  around : k ≤ s.bound
  few : s.bound ≤ 250

-- the formula leads from one state to the other, and can be written where the names can
record FormWritten (s t : State) (is : Bool) : Type 0 where
  more : s.bound ≤ t.bound
  few : t.bound ≤ 250
  behind : Behind s.vocabulary t.vocabulary is

abbrev IsWritten : Surface → Type 0
IsWritten a = (here : Setting) (scope : List Variable) (k : ℕ) (s t : State) (form : Form) → IsAt scope k s → is_numbered k a ≡ true → IsListed form → denoted_form here a scope s ≡ Ok (form, t) → FormWritten s t (is_formula a)

-- what stands in the same state
stays : (s : State) (is : Bool) → s.bound ≤ 250 → is ≡ true → FormWritten s s is
stays s is few e = record { more = omega arith; few = few; behind = λ has. (has, e) }

-- what changes the vocabulary alone
spoken : (s t : State) (is other : Bool) → s.bound ≤ 250 → t.bound ≡ s.bound → other ≡ is → Behind s.vocabulary t.vocabulary is → FormWritten s t other
spoken s t is other few same alike behind = record { more = omega arith; few = omega arith; behind = λ has. let own = behind has in (own.0, alike ∙ own.1) }

alike_written : (s t : State) (is other : Bool) → other ≡ is → FormWritten s t is → FormWritten s t other
alike_written s t is other alike w = record { more = w.more; few = w.few; behind = λ has. let own = w.behind has in (own.0, alike ∙ own.1) }

further : (scope : List Variable) (k : ℕ) (s t : State) (is : Bool) → IsAt scope k s → FormWritten s t is → IsAt scope k t
further scope k s t is at w = (let around = at.around in let more = w.more in record { vars = at.vars; around = omega arith; few = w.few })

both_written : (s u t : State) (a b : Bool) → FormWritten s u a → FormWritten u t b → FormWritten s t (a && b)
both_written s u t a b one two =
    let first = one.more in
    let second = two.more in
    record { more = omega arith; few = two.few; behind = λ has. let later = two.behind has in let own = one.behind later.0 in (own.0, and_from a b own.1 later.1) }

-- ---- lists

record MembersWritten (s t : State) (as_ : List Surface) (forms : List Form) : Type 0 where
  count : length as_ ≡ length forms
  all : FormWritten s t (list_all is_formula as_)

members_written : (here : Setting) (scope : List Variable) (k : ℕ) (as_ : List Surface) (place : ℕ) (s t : State) (forms : List Form) → AllByRecursion IsWritten as_ → IsAt scope k s → list_all (is_numbered k) as_ ≡ true
    → AllByRecursion IsListed forms → each (λ p a. denoted_form here a scope) place as_ s ≡ Ok (forms, t) → MembersWritten s t as_ forms
members_written here scope k [] place s t forms all at numbered listed e =
    at_ok {E = SortRule} (λ (fs : List Form) (u : State). MembersWritten s u [] fs) [] forms s t e (record { count = refl; all = stays s true at.few refl })
members_written here scope k (a ∷ as_) place s t forms all at numbered listed e =
    let flags = and_parts (is_numbered k a) (list_all (is_numbered k) as_) numbered in
    let parts = then_ok (denoted_form here a scope s) (λ y u. mapped (λ ys. y ∷ ys) (each (λ p b. denoted_form here b scope) (place + 1) as_ u)) forms t e in
    let last = mapped_ok (λ (ys : List Form). parts.0 ∷ ys) (each (λ p b. denoted_form here b scope) (place + 1) as_ parts.1) forms t parts.3 in
    let own = subst (AllByRecursion IsListed) (sym last.2) listed in
    let first = all.0 here scope k s parts.1 parts.0 at flags.0 own.0 parts.2 in
    let rest = members_written here scope k as_ (place + 1) parts.1 t last.0 all.1 (further scope k s parts.1 (is_formula a) at first) flags.1 own.1 last.1 in
    record {
      count = ap suc rest.count ∙ ap length last.2;
      all = both_written s parts.1 t (is_formula a) (list_all is_formula as_) first rest.all;
    }

-- a list of some members that is not of one member has two
two_members : (as_ : List Surface) (forms : List Form) → length as_ ≡ length forms → has_some as_ ≡ true → not (is_one (map has_no_list_of_one forms)) ≡ true → has_two (map is_formula as_) ≡ true
two_members [] forms same some other = absurd (cc)
two_members (a ∷ []) [] same some other = absurd (omega arith)
two_members (a ∷ []) (f ∷ []) same some other = absurd (cc)
two_members (a ∷ []) (f ∷ g ∷ forms) same some other = absurd (omega arith)
two_members (a ∷ b ∷ as_) forms same some other = refl

list_written : (here : Setting) (scope : List Variable) (k : ℕ) (as_ : List Surface) (s t : State) (forms : List Form) → AllByRecursion IsWritten as_ → IsAt scope k s → (has_some as_ && list_all (is_numbered k) as_) ≡ true
    → are_listed (map has_no_list_of_one forms) ≡ true → each (λ p a. denoted_form here a scope) 0 as_ s ≡ Ok (forms, t) → FormWritten s t (has_two (map is_formula as_) && all_true (map is_formula as_))
list_written here scope k as_ s t forms all at numbered listed e =
    let flags = and_parts (has_some as_) (list_all (is_numbered k) as_) numbered in
    let members = members_written here scope k as_ 0 s t forms all at flags.1 (members_listed forms listed) e in
    let other = (and_parts (not (is_one (map has_no_list_of_one forms))) (list_all (λ part. part) (map has_no_list_of_one forms)) listed).0 in
    let two = two_members as_ forms members.count flags.0 other in
    record {
      more = members.all.more;
      few = members.all.few;
      behind = λ has. let own = members.all.behind has in (own.0, and_from (has_two (map is_formula as_)) (all_true (map is_formula as_)) two (as_mapped is_formula as_ own.1));
    }

conjunction_written : (as_ : List Surface) → AllByRecursion IsWritten as_ → IsWritten (fm.And as_)
conjunction_written as_ all here scope k s t form at numbered listed e =
    let inner = mapped_ok And (each (λ p a. denoted_form here a scope) 0 as_ s) form t (sym (denoted_form-And here scope s as_) ∙ e) in
    let own : are_listed (map has_no_list_of_one inner.0) ≡ true = sym (listed-And inner.0) ∙ subst IsListed (sym inner.2) listed in
    alike_written s t (has_two (map is_formula as_) && all_true (map is_formula as_)) (is_formula (fm.And as_)) (is_formula-And as_)
    (list_written here scope k as_ s t inner.0 all at (sym (is_numbered-And k as_) ∙ numbered) own inner.1)

disjunction_written : (as_ : List Surface) → AllByRecursion IsWritten as_ → IsWritten (fm.Or as_)
disjunction_written as_ all here scope k s t form at numbered listed e =
    let inner = mapped_ok Or (each (λ p a. denoted_form here a scope) 0 as_ s) form t (sym (denoted_form-Or here scope s as_) ∙ e) in
    let own : are_listed (map has_no_list_of_one inner.0) ≡ true = sym (listed-Or inner.0) ∙ subst IsListed (sym inner.2) listed in
    alike_written s t (has_two (map is_formula as_) && all_true (map is_formula as_)) (is_formula (fm.Or as_)) (is_formula-Or as_)
    (list_written here scope k as_ s t inner.0 all at (sym (is_numbered-Or k as_) ∙ numbered) own inner.1)

-- ---- connectives

two_parts : (a b : Form) (both : Bool) → both ≡ (has_no_list_of_one a && has_no_list_of_one b) → both ≡ true → IsListed a × IsListed b
two_parts a b both is e = and_parts (has_no_list_of_one a) (has_no_list_of_one b) (sym is ∙ e)

two_members_listed : (a b : Form) → are_listed (map has_no_list_of_one (a ∷ b ∷ [])) ≡ true → IsListed a × IsListed b
two_members_listed a b e = (let all = members_listed (a ∷ b ∷ []) e in (all.0, all.1.0))

joined_listed : (o : BinOp) (a b : Form) → IsListed (joined o a b) → IsListed a × IsListed b
joined_listed op.Imp a b e = two_parts a b (has_no_list_of_one (Imp a b)) (listed-Imp a b) e
joined_listed op.RevImp a b e = (let other = two_parts b a (has_no_list_of_one (Imp b a)) (listed-Imp b a) e in (other.1, other.0))
joined_listed op.Iff a b e = two_parts a b (has_no_list_of_one (Iff a b)) (listed-Iff a b) e
joined_listed op.Xor a b e = two_parts a b (has_no_list_of_one (Iff a b)) (listed-Iff a b) (sym (listed-Not (Iff a b)) ∙ e)
joined_listed op.Nor a b e = two_members_listed a b (sym (listed-Or (a ∷ b ∷ [])) ∙ sym (listed-Not (Or (a ∷ b ∷ []))) ∙ e)
joined_listed op.Nand a b e = two_members_listed a b (sym (listed-And (a ∷ b ∷ [])) ∙ sym (listed-Not (And (a ∷ b ∷ []))) ∙ e)

parts_listed : (o : BinOp) (a b form : Form) → joined o a b ≡ form → IsListed form → IsListed a × IsListed b
parts_listed o a b form same listed = joined_listed o a b (subst IsListed (sym same) listed)

binary_written : (o : BinOp) (f g : Surface) → IsWritten f → IsWritten g → IsWritten (fm.Binary o f g)
binary_written o f g one two here scope k s t form at numbered listed e =
    let flags = and_parts (is_numbered k f) (is_numbered k g) (sym (is_numbered-Binary k o f g) ∙ numbered) in
    let parts = then_ok (denoted_form here f scope s) (λ x u. mapped (joined o x) (denoted_form here g scope u)) form t (sym (denoted_form-Binary here scope s o f g) ∙ e) in
    let last = mapped_ok (joined o parts.0) (denoted_form here g scope parts.1) form t parts.3 in
    let own = parts_listed o parts.0 last.0 form last.2 listed in
    let first = one here scope k s parts.1 parts.0 at flags.0 own.0 parts.2 in
    let second = two here scope k parts.1 t last.0 (further scope k s parts.1 (is_formula f) at first) flags.1 own.1 last.1 in
    alike_written s t (is_formula f && is_formula g) (is_formula (fm.Binary o f g)) (is_formula-Binary o f g) (both_written s parts.1 t (is_formula f) (is_formula g) first second)

negation_written : (f : Surface) → IsWritten f → IsWritten (fm.Not f)
negation_written f inner here scope k s t form at numbered listed e =
    let last = mapped_ok Not (denoted_form here f scope s) form t (sym (denoted_form-Not here scope s f) ∙ e) in
    let own : IsListed last.0 = sym (listed-Not last.0) ∙ subst IsListed (sym last.2) listed in
    alike_written s t (is_formula f) (is_formula (fm.Not f)) (is_formula-Not f) (inner here scope k s t last.0 at (sym (is_numbered-Not k f) ∙ numbered) own last.1)

-- ---- quantifiers

quantified_listed : (quant : Quant) (sort : ℕ) (a : Form) → IsListed (quantified quant sort a) → IsListed a
quantified_listed q.All sort a is = sym (listed-All sort a) ∙ is
quantified_listed q.Ex sort a is = sym (listed-Ex sort a) ∙ is

closed_listed : (quant : Quant) (xs : List Variable) (a : Form) → IsListed (closed quant xs a) → IsListed a
closed_listed quant [] a is = is
closed_listed quant (x ∷ xs) a is = closed_listed quant xs a (quantified_listed quant x.sort (closed quant xs a) is)

body_listed : (quant : Quant) (xs : List Variable) (a form : Form) → closed quant xs a ≡ form → IsListed form → IsListed a
body_listed quant xs a form same listed = closed_listed quant xs a (subst IsListed (sym same) listed)

sort_same : (sort : Option SortName) (v w : Vocabulary) (n : ℕ) → variable_sort sort v ≡ Ok (n, w) → w ≡ v
sort_same None v w n e = at_ok {E = SortRule} (λ (y : ℕ) u. u ≡ v) 0 n v w e refl
sort_same (Some name) v w n e = named_same name v w n e

-- the variables are bound in this state, which leads to that one
record VariablesWritten (s t : State) (xs : List BoundVar) (vs : List Variable) : Type 0 where
  same : t.vocabulary ≡ s.vocabulary
  bound : t.bound ≡ s.bound + length xs
  few : t.bound ≤ 250
  vars : AreVariables vs
  are : HasWords s.vocabulary → list_all is_bound xs ≡ true

variable_written : (x : BoundVar) (k : ℕ) (s t : State) (y : Variable) → k ≤ s.bound → s.bound ≤ 250 → bytes_eq x.name (variable_name k) ≡ true → bound_variable x s ≡ Ok (y, t) → VariablesWritten s t (x ∷ []) (y ∷ [])
variable_written x k s t y around few named e = by (s.bound == 250) refl e
  where
    name_is : x.name ≡ variable_name k
    name_is = (bytes_decides x.name (variable_name k)).0 named

    can : is_variable x.name ≡ true
    can = subst (λ (n : Text). is_variable n ≡ true) (sym name_is) (numbered_variable k (omega arith))

    the_variable : ℕ → Variable
    the_variable sort = record { name = x.name; sort = sort }

    by : (b : Bool) → (s.bound == 250) ≡ b → ◌≡◌ {A = Outcome SortRule State Variable} (cond b (Err Variables) (mapped (λ sort. record { name = x.name; sort = sort }) (beside (s.bound + 1) (variable_sort x.sort s.vocabulary)))) (Ok (y, t)) → VariablesWritten s t (x ∷ []) (y ∷ [])
    by true is k = absurd (cc)
    by false is k =
        let inner = mapped_ok the_variable (beside (s.bound + 1) (variable_sort x.sort s.vocabulary)) y t k in
        let sorted = beside_at (s.bound + 1) (variable_sort x.sort s.vocabulary) inner.0 t inner.1 in
        let count = sorted.1 in
        let below : s.bound + 1 ≤ 250 = grind (arith, nat_tests, is, few) in
        record {
          same = sort_same x.sort s.vocabulary t.vocabulary inner.0 sorted.0;
          bound = omega arith;
          few = omega arith;
          vars = (subst (λ (z : Variable). is_variable z.name ≡ true) inner.2 can, tt);
          are = λ has. and_from (is_bound x) true (and_from (is_variable x.name) (is_written_sort x.sort) can (sort_written x.sort s.vocabulary t.vocabulary inner.0 has sorted.0)) refl;
        }

variables_written : (xs : List BoundVar) (place k : ℕ) (s t : State) (vs : List Variable) → k ≤ s.bound → s.bound ≤ 250 → are_numbered k xs ≡ true → each (λ p. bound_variable) place xs s ≡ Ok (vs, t) → VariablesWritten s t xs vs
variables_written [] place k s t vs around few numbered e =
    at_ok {E = SortRule} (λ (ys : List Variable) (u : State). VariablesWritten s u [] ys) [] vs s t e (record { same = refl; bound = omega arith; few = few; vars = tt; are = λ has. refl })
variables_written (x ∷ xs) place k s t vs around few numbered e =
    let flags = and_parts (bytes_eq x.name (variable_name k) && is_some x.sort) (are_numbered (k + 1) xs) numbered in
    let named = (and_parts (bytes_eq x.name (variable_name k)) (is_some x.sort) flags.0).0 in
    let parts = then_ok (bound_variable x s) (λ y u. mapped (λ ys. y ∷ ys) (each (λ p. bound_variable) (place + 1) xs u)) vs t e in
    let last = mapped_ok (λ (ys : List Variable). parts.0 ∷ ys) (each (λ p. bound_variable) (place + 1) xs parts.1) vs t parts.3 in
    let one = variable_written x k s parts.1 parts.0 around few named parts.2 in
    let count = one.bound in
    let rest = variables_written xs (place + 1) (k + 1) parts.1 t last.0 (omega arith) one.few flags.1 last.1 in
    let all = rest.bound in
    record {
      same = rest.same ∙ one.same;
      bound = omega arith;
      few = rest.few;
      vars = subst AreVariables last.2 (one.vars.0, rest.vars);
      are = λ has. and_from (is_bound x) (list_all is_bound xs) (and_parts (is_bound x) true (one.are has)).0 (rest.are (subst HasWords (sym one.same) has));
    }

some_one : (xs : List BoundVar) → has_some xs ≡ true → has_one xs ≡ true
some_one [] e = absurd (cc)
some_one (x ∷ xs) e = refl

bound_written : (quant : Quant) (xs : List BoundVar) (f : Surface) → IsWritten f → IsWritten (fm.Bind quant xs f)
bound_written quant xs f inner here scope k s t form at numbered listed e =
    let flags = and_parts (has_some xs) (are_numbered k xs && is_numbered (k + length xs) f) (sym (is_numbered-Bind k quant xs f) ∙ numbered) in
    let names = and_parts (are_numbered k xs) (is_numbered (k + length xs) f) flags.1 in
    let parts = then_ok (each (λ p. bound_variable) 0 xs s) (λ vs u. mapped (closed quant vs) (denoted_form here f (scope ++ vs) u)) form t (sym (denoted_form-Bind here scope s quant xs f) ∙ e) in
    let last = mapped_ok (closed quant parts.0) (denoted_form here f (scope ++ parts.0) parts.1) form t parts.3 in
    let variables = variables_written xs 0 k s parts.1 parts.0 at.around at.few names.0 parts.2 in
    let count = variables.bound in
    let around = at.around in
    let under : IsAt (scope ++ parts.0) (k + length xs) parts.1 = record { vars = variables_both scope parts.0 at.vars variables.vars; around = omega arith; few = variables.few } in
    let own = inner here (scope ++ parts.0) (k + length xs) parts.1 t last.0 under names.1 (body_listed quant parts.0 last.0 form last.2 listed) last.1 in
    let more = own.more in
    record {
      more = omega arith;
      few = own.few;
      behind = λ has.
          let body = own.behind has in
          let before = subst HasWords variables.same body.0 in (
            before,
            is_formula-Bind quant xs f ∙ and_from (has_one xs && list_all is_bound xs) (is_formula f) (and_from (has_one xs) (list_all is_bound xs) (some_one xs flags.0) (variables.are before)) body.1,
          );
    }

forms_written : (f : Surface) → IsWritten f
forms_written = form_induction IsWritten (record {
  truth = λ here scope k s t form at numbered listed e. at_ok {E = SortRule} (λ (y : Form) (u : State). FormWritten s u (is_formula fm.True)) (And []) form s t (sym (denoted_form-True here scope s) ∙ e) (stays s (is_formula fm.True) at.few is_formula-True);
  falsity = λ here scope k s t form at numbered listed e. at_ok {E = SortRule} (λ (y : Form) (u : State). FormWritten s u (is_formula fm.False)) (Or []) form s t (sym (denoted_form-False here scope s) ∙ e) (stays s (is_formula fm.False) at.few is_formula-False);
  atom = λ name args here scope k s t form at numbered listed e.
      let inner = beside_at s.bound (atom here scope name args s.vocabulary) form t (sym (denoted_form-Atom here scope s name args) ∙ e) in
      spoken s t (is_formula (fm.Atom name args)) (is_formula (fm.Atom name args)) at.few inner.1 refl (atom_written here scope at.vars name args s.vocabulary t.vocabulary form inner.0);
  eq = λ l r here scope k s t form at numbered listed e.
      let inner = beside_at s.bound (equation here scope l r s.vocabulary) form t (sym (denoted_form-Eq here scope s l r) ∙ e) in
      spoken s t (is_term l && is_term r) (is_formula (fm.Eq l r)) at.few inner.1 (is_formula-Eq l r) (equation_written here scope at.vars l r s.vocabulary t.vocabulary form inner.0);
  neq = λ l r here scope k s t form at numbered listed e.
      let last = mapped_ok Not (beside s.bound (equation here scope l r s.vocabulary)) form t (sym (denoted_form-Neq here scope s l r) ∙ e) in
      let inner = beside_at s.bound (equation here scope l r s.vocabulary) last.0 t last.1 in
      spoken s t (is_term l && is_term r) (is_formula (fm.Neq l r)) at.few inner.1 (is_formula-Neq l r) (equation_written here scope at.vars l r s.vocabulary t.vocabulary last.0 inner.0);
  not = negation_written;
  and = conjunction_written;
  or = disjunction_written;
  binary = binary_written;
  bind = bound_written;
})

-- ---- whole formulas

pub denoting_written : (v : Vocabulary) (form : Form) (f : Surface) → HasWords v → IsListed form → Denotes v f form → is_numbered 0 f ≡ true → is_formula f ≡ true
denoting_written v form f has listed denotes numbered =
    let here = outermost true [] FreeVariable in
    let start : State = record { vocabulary = v; bound = 0 } in
    let inner = counted_ok (denoted_form here f [] start) form v (denotes true []) in
    let at : IsAt [] 0 start = record { vars = tt; around = omega arith; few = omega arith } in
    let written = forms_written f here [] 0 start inner.0 form at numbered listed inner.1 in
    (written.behind (subst HasWords (sym inner.2) has)).1
