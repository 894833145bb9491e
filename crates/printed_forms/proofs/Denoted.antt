-- What is denoted has no list of one where what is written has none.
use Rattle.std.specs.Prelude.{◌≡◌, ◌&&◌, ◌||◌, ◌==◌, ◌+◌, ◌++◌, ℕ, suc, not, Bool, true, false, cond, List, [], ◌∷◌, length, map, Option, Some, None, Ok, Err, refl}
use Rattle.std.specs.List.{AllByRecursion, list_all}
use Rattle.std.proofs.Common.{ap, sym, subst, ◌∙◌, arith}
use Rattle.std.proofs.lemmas.Bool.{and_parts, and_from}
use Rattle.tptp_base.specs.Roles.{is_typing}
use Rattle.tptp_base.specs.declared.item.Annotated.{Annotated}
use Rattle.tptp_base.specs.declared.item.Body.{Body}
use Rattle.tptp_base.specs.declared.item.Body.TheVariants as body
use Rattle.tptp_base.specs.declared.item.Item.{Item}
use Rattle.tptp_base.specs.declared.item.Item.TheVariants as it
use Rattle.tptp_base.specs.declared.item.Lang.{Lang}
use Rattle.tptp_base.specs.declared.item.Lang.TheVariants as lang
use Rattle.tptp_base.specs.declared.item.Role.{Role}
use Rattle.tptp_base.specs.declared.item.Role.TheVariants as role
use Rattle.tptp_base.specs.declared.surface.BinOp.{BinOp}
use Rattle.tptp_base.specs.declared.surface.BinOp.TheVariants as op
use Rattle.tptp_base.specs.declared.surface.BoundVar.{BoundVar}
use Rattle.tptp_base.specs.declared.surface.Quant.{Quant}
use Rattle.tptp_base.specs.declared.surface.Quant.TheVariants as q
use Rattle.tptp_base.specs.declared.surface.STerm.{STerm}
use Rattle.tptp_base.specs.declared.surface.Surface.{Surface}
use Rattle.tptp_base.specs.declared.surface.Surface.TheVariants as fm
use Rattle.fof_terms.specs.Vocabulary.{Vocabulary}
use Rattle.fof_terms.specs.declared.form.Form.{Form, Atom, Eq, Not, And, Or, Imp, Iff, All, Ex}
use Rattle.fof_terms.specs.declared.signature.Kind.TheVariants.{Predicate}
use Rattle.sort_check.specs.declared.fault.SortFault.{SortFault}
use Rattle.sort_check.specs.declared.fault.SortRule.{SortRule}
use Rattle.sort_check.specs.declared.fault.SortRule.TheVariants.{FreeVariable, TwoConjectures, Variables, WrongSort}
use Rattle.sort_check.specs.declared.line.GivenEntry.{GivenEntry}
use Rattle.sort_check.specs.declared.line.Line.{Line}
use Rattle.sort_check.specs.declared.line.TextKind.{TextKind}
use Rattle.sort_check.specs.declared.scope.Variable.{Variable}
use Rattle.sort_check.specs.declared.terms.Sorted.{Sorted}
use Rattle.sort_check.specs.Outcomes.{Outcome, and_then, mapped, each}
use Rattle.sort_check.specs.Symbols.{Text, head, new_symbol}
use Rattle.sort_check.specs.Denotation.{Setting, State, argument, atom, beside, bound_variable, clause, clause_scope, closed, denoted_form, denoted_term, equal, equation, formula, joined, known_sort, outermost, quantified, sentence, without_count}
use Rattle.sort_check.specs.Given.{given_entries, given_form, with_entry}
use Rattle.sort_check.specs.Texts.{at_line, body_form, denoted, is_by_place, is_conjecture, is_single, line, line_form, line_item, line_of, lines_from, only_vocabulary, reading, Reading, type_lines, with_line}
use Rattle.sort_check.specs.code.Denotation.{bound}
use Rattle.sort_check.proofs.Equations.{denoted_form-True, denoted_form-False, denoted_form-Atom, denoted_form-Eq, denoted_form-Neq, denoted_form-Not, denoted_form-And, denoted_form-Or, denoted_form-Binary, denoted_form-Bind}
use Rattle.sort_check.proofs.Inducing.{form_induction}
use Rattle.sort_check.proofs.LineSorts.{at_line_ok, counted_ok, reading_ok}
use Rattle.sort_check.proofs.Stepping.{at_ok, mapped_ok, then_ok}
use Rattle.printed_forms.specs.Lists.{are_listed, has_no_list_of_one, is_one}
use Rattle.printed_forms.specs.Written.{writes_no_list_of_one, AreGivenListed, AreItemsListed, AreLinesListed, IsBodyListed, IsItemListed}
use Rattle.printed_forms.proofs.ListsFacts.{IsListed, all_listed, listed-Atom, listed-Eq, listed-Not, listed-And, listed-Or, listed-Imp, listed-Iff, listed-All, listed-Ex, two_listed}
use Rattle.printed_forms.proofs.WrittenFacts.{writes-Not, writes-And, writes-Or, writes-Binary, writes-Bind}

-- whatever the formula denotes has no list of one, where it writes none
abbrev FormListed : Surface → Type 0
FormListed f = writes_no_list_of_one f ≡ true → (here : Setting) (scope : List Variable) (s t : State) (form : Form) → denoted_form here f scope s ≡ Ok (form, t) → IsListed form

-- ---- atoms and equations

beside_ok : {A : Type 0} (n : ℕ) (o : Outcome SortRule Vocabulary A) (x : A) (t : State) → beside n o ≡ Ok (x, t) → (w : Vocabulary) × (o ≡ Ok (x, w))
beside_ok n (Err e) x t is = absurd (cc)
beside_ok {A = A} n (Ok p) x t is = at_ok {E = SortRule} (λ y u. (w : Vocabulary) × (◌≡◌ {A = Outcome SortRule Vocabulary A} (Ok p) (Ok (y, w)))) p.0 x (record { vocabulary = p.1; bound = n }) t is (p.1, refl)

atom_listed : (here : Setting) (scope : List Variable) (name : Text) (args : List STerm) (v w : Vocabulary) (form : Form) → atom here scope name args v ≡ Ok (form, w) → IsListed form
atom_listed here scope name args v w form e =
    let parts = then_ok (head here.declared name Predicate (length args) (new_symbol here.by_place v name Predicate (map (known_sort scope v) args) None) v)
    (λ p u. mapped (Atom p) (each (λ place t. argument p place (denoted_term here scope t)) 0 args u)) form w e in
    let last = mapped_ok (Atom parts.0) (each (λ place t. argument parts.0 place (denoted_term here scope t)) 0 args parts.1) form w parts.3 in
    subst IsListed last.2 (listed-Atom parts.0 last.0)

equal_listed : (l r : Sorted) (v w : Vocabulary) (form : Form) → equal l r v ≡ Ok (form, w) → IsListed form
equal_listed l r v w form e = by (l.sort == r.sort) e
  where
    by : (b : Bool) → ◌≡◌ {A = Outcome SortRule Vocabulary Form} (cond b (Ok (Eq l.term r.term, v)) (Err WrongSort)) (Ok (form, w)) → IsListed form
    by true k = at_ok {E = SortRule} (λ y (u : Vocabulary). IsListed y) (Eq l.term r.term) form v w k (listed-Eq l.term r.term)
    by false k = absurd (cc)

equation_listed : (here : Setting) (scope : List Variable) (l r : STerm) (v w : Vocabulary) (form : Form) → equation here scope l r v ≡ Ok (form, w) → IsListed form
equation_listed here scope l r v w form e =
    let first = then_ok (denoted_term here scope l (known_sort scope v r) v) (λ x u. and_then (denoted_term here scope r (Some x.sort) u) (equal x)) form w e in
    let second = then_ok (denoted_term here scope r (Some first.0.sort) first.1) (equal first.0) form w first.3 in
    equal_listed first.0 second.0 second.1 w form second.3

-- ---- lists

-- lists of as many members are of one member alike
one_alike : {X Y : Type 0} (xs : List X) (ys : List Y) → length xs ≡ length ys → is_one xs ≡ is_one ys
one_alike [] [] same = refl
one_alike [] (y ∷ ys) same = absurd (omega arith)
one_alike (x ∷ xs) [] same = absurd (omega arith)
one_alike (x ∷ []) (y ∷ []) same = refl
one_alike (x ∷ []) (y ∷ z ∷ ys) same = absurd (omega arith)
one_alike (x ∷ z ∷ xs) (y ∷ []) same = absurd (omega arith)
one_alike (x ∷ u ∷ xs) (y ∷ z ∷ ys) same = refl

-- each of the formulas, and as many as are written
record AreDenoted (fs : List Surface) (forms : List Form) : Type 0 where
  count : length (map has_no_list_of_one forms) ≡ length (map writes_no_list_of_one fs)
  all : AllByRecursion IsListed forms

each_listed : (fs : List Surface) → AllByRecursion FormListed fs → list_all (λ part. part) (map writes_no_list_of_one fs) ≡ true → (here : Setting) (scope : List Variable) (place : ℕ) (s t : State) (forms : List Form)
    → each (λ p f. denoted_form here f scope) place fs s ≡ Ok (forms, t) → AreDenoted fs forms
each_listed [] all ok here scope place s t forms e = at_ok {E = SortRule} (λ ys (u : State). AreDenoted [] ys) [] forms s t e (record { count = refl; all = tt })
each_listed (f ∷ fs) all ok here scope place s t forms e =
    let flags = and_parts (writes_no_list_of_one f) (list_all (λ part. part) (map writes_no_list_of_one fs)) ok in
    let parts = then_ok (denoted_form here f scope s) (λ y u. mapped (λ ys. y ∷ ys) (each (λ p g. denoted_form here g scope) (place + 1) fs u)) forms t e in
    let last = mapped_ok (λ (ys : List Form). parts.0 ∷ ys) (each (λ p g. denoted_form here g scope) (place + 1) fs parts.1) forms t parts.3 in
    let first = all.0 flags.0 here scope s parts.1 parts.0 parts.2 in
    let rest = each_listed fs all.1 flags.1 here scope (place + 1) parts.1 t last.0 last.1 in
    subst (AreDenoted (f ∷ fs)) last.2 (record { count = ap suc rest.count; all = (first, rest.all) })

list_denoted : (fs : List Surface) → AllByRecursion FormListed fs → are_listed (map writes_no_list_of_one fs) ≡ true → (here : Setting) (scope : List Variable) (s t : State) (forms : List Form)
    → each (λ p f. denoted_form here f scope) 0 fs s ≡ Ok (forms, t) → are_listed (map has_no_list_of_one forms) ≡ true
list_denoted fs all ok here scope s t forms e =
    let flags = and_parts (not (is_one (map writes_no_list_of_one fs))) (list_all (λ part. part) (map writes_no_list_of_one fs)) ok in
    let found = each_listed fs all flags.1 here scope 0 s t forms e in
    let alike : is_one (map has_no_list_of_one forms) ≡ is_one (map writes_no_list_of_one fs) = one_alike (map has_no_list_of_one forms) (map writes_no_list_of_one fs) found.count in
    and_from (not (is_one (map has_no_list_of_one forms))) (list_all (λ part. part) (map has_no_list_of_one forms)) (ap not alike ∙ flags.0) (all_listed forms found.all)

conjunction_listed : (fs : List Surface) → AllByRecursion FormListed fs → FormListed (fm.And fs)
conjunction_listed fs all ok here scope s t form e =
    let last = mapped_ok And (each (λ p f. denoted_form here f scope) 0 fs s) form t (sym (denoted_form-And here scope s fs) ∙ e) in
    subst IsListed last.2 (listed-And last.0 ∙ list_denoted fs all (sym (writes-And fs) ∙ ok) here scope s t last.0 last.1)

disjunction_listed : (fs : List Surface) → AllByRecursion FormListed fs → FormListed (fm.Or fs)
disjunction_listed fs all ok here scope s t form e =
    let last = mapped_ok Or (each (λ p f. denoted_form here f scope) 0 fs s) form t (sym (denoted_form-Or here scope s fs) ∙ e) in
    subst IsListed last.2 (listed-Or last.0 ∙ list_denoted fs all (sym (writes-Or fs) ∙ ok) here scope s t last.0 last.1)

-- ---- other connectives

both_flags : (a b : Form) → IsListed a → IsListed b → (has_no_list_of_one a && has_no_list_of_one b) ≡ true
both_flags a b first second = and_from (has_no_list_of_one a) (has_no_list_of_one b) first second

joined_listed : (o : BinOp) (a b : Form) → IsListed a → IsListed b → IsListed (joined o a b)
joined_listed op.Imp a b first second = listed-Imp a b ∙ both_flags a b first second
joined_listed op.RevImp a b first second = listed-Imp b a ∙ both_flags b a second first
joined_listed op.Iff a b first second = listed-Iff a b ∙ both_flags a b first second
joined_listed op.Xor a b first second = listed-Not (Iff a b) ∙ listed-Iff a b ∙ both_flags a b first second
joined_listed op.Nor a b first second = listed-Not (Or (a ∷ b ∷ [])) ∙ listed-Or (a ∷ b ∷ []) ∙ two_listed a b [] (first, (second, tt))
joined_listed op.Nand a b first second = listed-Not (And (a ∷ b ∷ [])) ∙ listed-And (a ∷ b ∷ []) ∙ two_listed a b [] (first, (second, tt))

binary_listed : (o : BinOp) (f g : Surface) → FormListed f → FormListed g → FormListed (fm.Binary o f g)
binary_listed o f g first second ok here scope s t form e =
    let flags = and_parts (writes_no_list_of_one f) (writes_no_list_of_one g) (sym (writes-Binary o f g) ∙ ok) in
    let parts = then_ok (denoted_form here f scope s) (λ x u. mapped (joined o x) (denoted_form here g scope u)) form t (sym (denoted_form-Binary here scope s o f g) ∙ e) in
    let last = mapped_ok (joined o parts.0) (denoted_form here g scope parts.1) form t parts.3 in
    subst IsListed last.2 (joined_listed o parts.0 last.0 (first flags.0 here scope s parts.1 parts.0 parts.2) (second flags.1 here scope parts.1 t last.0 last.1))

negation_listed : (f : Surface) → FormListed f → FormListed (fm.Not f)
negation_listed f inner ok here scope s t form e =
    let last = mapped_ok Not (denoted_form here f scope s) form t (sym (denoted_form-Not here scope s f) ∙ e) in
    subst IsListed last.2 (listed-Not last.0 ∙ inner (sym (writes-Not f) ∙ ok) here scope s t last.0 last.1)

quantified_listed : (quant : Quant) (sort : ℕ) (a : Form) → IsListed a → IsListed (quantified quant sort a)
quantified_listed q.All sort a is = listed-All sort a ∙ is
quantified_listed q.Ex sort a is = listed-Ex sort a ∙ is

closed_listed : (quant : Quant) (xs : List Variable) (a : Form) → IsListed a → IsListed (closed quant xs a)
closed_listed quant [] a is = is
closed_listed quant (x ∷ xs) a is = quantified_listed quant x.sort (closed quant xs a) (closed_listed quant xs a is)

bound_listed : (quant : Quant) (xs : List BoundVar) (f : Surface) → FormListed f → FormListed (fm.Bind quant xs f)
bound_listed quant xs f inner ok here scope s t form e =
    let parts = then_ok (each (λ p. bound_variable) 0 xs s) (λ vs u. mapped (closed quant vs) (denoted_form here f (scope ++ vs) u)) form t (sym (denoted_form-Bind here scope s quant xs f) ∙ e) in
    let last = mapped_ok (closed quant parts.0) (denoted_form here f (scope ++ parts.0) parts.1) form t parts.3 in
    subst IsListed last.2 (closed_listed quant parts.0 last.0 (inner (sym (writes-Bind quant xs f) ∙ ok) here (scope ++ parts.0) parts.1 t last.0 last.1))

forms_listed : (f : Surface) → FormListed f
forms_listed = form_induction FormListed (record {
  truth = λ ok here scope s t form e. at_ok {E = SortRule} (λ y (u : State). IsListed y) (And []) form s t (sym (denoted_form-True here scope s) ∙ e) (listed-And []);
  falsity = λ ok here scope s t form e. at_ok {E = SortRule} (λ y (u : State). IsListed y) (Or []) form s t (sym (denoted_form-False here scope s) ∙ e) (listed-Or []);
  atom = λ name args ok here scope s t form e.
      let inner = beside_ok s.bound (atom here scope name args s.vocabulary) form t (sym (denoted_form-Atom here scope s name args) ∙ e) in
      atom_listed here scope name args s.vocabulary inner.0 form inner.1;
  eq = λ l r ok here scope s t form e.
      let inner = beside_ok s.bound (equation here scope l r s.vocabulary) form t (sym (denoted_form-Eq here scope s l r) ∙ e) in
      equation_listed here scope l r s.vocabulary inner.0 form inner.1;
  neq = λ l r ok here scope s t form e.
      let last = mapped_ok Not (beside s.bound (equation here scope l r s.vocabulary)) form t (sym (denoted_form-Neq here scope s l r) ∙ e) in
      let inner = beside_ok s.bound (equation here scope l r s.vocabulary) last.0 t last.1 in
      subst IsListed last.2 (listed-Not last.0 ∙ equation_listed here scope l r s.vocabulary inner.0 last.0 inner.1);
  not = negation_listed;
  and = conjunction_listed;
  or = disjunction_listed;
  binary = binary_listed;
  bind = bound_listed;
})

-- ---- whole formulas

sentence_listed : (by_place : Bool) (names : List Text) (f : Surface) (v w : Vocabulary) (a : Form) → writes_no_list_of_one f ≡ true → sentence by_place names f v ≡ Ok (a, w) → IsListed a
sentence_listed by_place names f v w a ok e =
    let here = outermost by_place names FreeVariable in
    let start : State = record { vocabulary = v; bound = 0 } in
    let inner = counted_ok (denoted_form here f [] start) a w e in
    forms_listed f ok here [] start inner.0 a inner.1

clause_listed : (by_place : Bool) (names : List Text) (f : Surface) (v w : Vocabulary) (a : Form) → writes_no_list_of_one f ≡ true → clause by_place names f v ≡ Ok (a, w) → IsListed a
clause_listed by_place names f v w a ok e =
    let here = outermost by_place names Variables in
    let start : State = record { vocabulary = v; bound = 0 } in
    let scope = clause_scope f in
    let last = mapped_ok (closed q.All scope) (without_count (denoted_form here f scope start)) a w e in
    let inner = counted_ok (denoted_form here f scope start) last.0 w last.1 in
    subst IsListed last.2 (closed_listed q.All scope last.0 (forms_listed f ok here scope start inner.0 last.0 inner.1))

formula_listed : (by_place : Bool) (l : Lang) (names : List Text) (f : Surface) (v w : Vocabulary) (a : Form) → writes_no_list_of_one f ≡ true → formula by_place l names f v ≡ Ok (a, w) → IsListed a
formula_listed by_place lang.Cnf names f v w a ok e = clause_listed by_place names f v w a ok e
formula_listed by_place lang.Fof names f v w a ok e = sentence_listed by_place names f v w a ok e
formula_listed by_place lang.Tff names f v w a ok e = sentence_listed by_place names f v w a ok e
formula_listed by_place lang.Tcf names f v w a ok e = sentence_listed by_place names f v w a ok e

-- ---- lines

abbrev IsLineListed : Option Line → Type 0
IsLineListed None = Unit {0}
IsLineListed (Some l) = IsListed l.form

body_listed : (kind : TextKind) (names : List Text) (l : Annotated) (b : Body) (v w : Vocabulary) (a : Form) → IsBodyListed b → body_form kind names l b v ≡ Ok (a, w) → IsListed a
body_listed kind names l (body.Logic f) v w a ok e = formula_listed (is_by_place kind) l.lang names f v w a ok e
body_listed kind names l (body.Typing t) v w a ok e = absurd (cc)

line_form_listed : (kind : TextKind) (names : List Text) (l : Annotated) (s t : Reading) (a : Form) → IsBodyListed l.body → line_form kind names l s ≡ Ok (a, t) → IsListed a
line_form_listed kind names l s t a ok e = by (is_single kind && (is_conjecture l.role && s.conjectured)) e
  where
    by : (b : Bool) → cond b (Err TwoConjectures) (reading (is_conjecture l.role || s.conjectured) (body_form kind names l l.body s.vocabulary)) ≡ Ok (a, t) → IsListed a
    by true k = absurd (cc)
    by false k = body_listed kind names l l.body s.vocabulary t.vocabulary a ok (reading_ok (is_conjecture l.role || s.conjectured) (body_form kind names l l.body s.vocabulary) a t k)

line_listed : (kind : TextKind) (names : List Text) (number : ℕ) (l : Annotated) (s t : Reading) (found : Option Line) → IsBodyListed l.body → line kind names number l s ≡ Ok (found, t) → IsLineListed found
line_listed kind names number l s t found ok e = by (is_typing l.role) e
  where
    by : (b : Bool) → ◌≡◌ {A = Outcome SortFault Reading (Option Line)} (cond b (Ok (None, s)) (at_line l (mapped (λ form. Some (line_of number l form)) (line_form kind names l s)))) (Ok (found, t)) → IsLineListed found
    by true k = at_ok {E = SortFault} (λ x (u : Reading). IsLineListed x) None found s t k tt
    by false k =
        let some_line : Form → Option Line = λ form. Some (line_of number l form) in
        let inner = mapped_ok some_line (line_form kind names l s) found t (at_line_ok l (mapped some_line (line_form kind names l s)) found t k) in
        subst IsLineListed inner.2 (line_form_listed kind names l s t inner.0 ok inner.1)

item_listed : (kind : TextKind) (names : List Text) (number : ℕ) (i : Item) (s t : Reading) (found : Option Line) → IsItemListed i → line_item kind names number i s ≡ Ok (found, t) → IsLineListed found
item_listed kind names number (it.Formula l) s t found ok e = line_listed kind names number l s t found ok e
item_listed kind names number (it.Comment text) s t found ok e = at_ok {E = SortFault} (λ x (u : Reading). IsLineListed x) None found s t e tt
item_listed kind names number (it.Include i) s t found ok e = at_ok {E = SortFault} (λ x (u : Reading). IsLineListed x) None found s t e tt

with_listed : (found : Option Line) (lines : List Line) → IsLineListed found → AreLinesListed lines → AreLinesListed (with_line found lines)
with_listed None lines one all = all
with_listed (Some l) lines one all = (one, all)

lines_listed : (kind : TextKind) (names : List Text) (number : ℕ) (items : List Item) (s t : Reading) (lines : List Line) → AreItemsListed items → lines_from kind names number items s ≡ Ok (lines, t) → AreLinesListed lines
lines_listed kind names number [] s t lines ok e = at_ok {E = SortFault} (λ (ls : List Line) (u : Reading). AreLinesListed ls) [] lines s t e tt
lines_listed kind names number (i ∷ items) s t lines ok e =
    let parts = then_ok (line_item kind names number i s) (λ found u. mapped (with_line found) (lines_from kind names (number + 1) items u)) lines t e in
    let one = item_listed kind names number i s parts.1 parts.0 ok.0 parts.2 in
    let last = mapped_ok (with_line parts.0) (lines_from kind names (number + 1) items parts.1) lines t parts.3 in
    let rest = lines_listed kind names (number + 1) items parts.1 t last.0 ok.1 last.1 in
    subst AreLinesListed last.2 (with_listed parts.0 last.0 one rest)

vocabulary_ok : (o : Outcome SortFault Reading (List Line)) (lines : List Line) (w : Vocabulary) → only_vocabulary o ≡ Ok (lines, w) → (t : Reading) × (o ≡ Ok (lines, t))
vocabulary_ok (Err x) lines w e = absurd (cc)
vocabulary_ok (Ok p) lines w e = at_ok {E = SortFault} (λ (ls : List Line) (u : Vocabulary). (t : Reading) × (◌≡◌ {A = Outcome SortFault Reading (List Line)} (Ok p) (Ok (ls, t)))) p.0 lines p.1.vocabulary w e (p.1, refl)

pub denoted_listed : (items : List Item) (v w : Vocabulary) (kind : TextKind) (lines : List Line) → AreItemsListed items → denoted items v kind ≡ Ok (lines, w) → AreLinesListed lines
denoted_listed items v w kind lines ok e =
    let parts = then_ok (type_lines items (record { vocabulary = v; names = [] })) (λ done d. only_vocabulary (lines_from kind d.names 0 items (record { vocabulary = d.vocabulary; conjectured = false }))) lines w e in
    let inner = vocabulary_ok (lines_from kind parts.1.names 0 items (record { vocabulary = parts.1.vocabulary; conjectured = false })) lines w parts.3 in
    lines_listed kind parts.1.names 0 items (record { vocabulary = parts.1.vocabulary; conjectured = false }) inner.0 lines ok inner.1

-- ---- given formulas

abbrev IsGivenListed : Option Form → Type 0
IsGivenListed None = Unit {0}
IsGivenListed (Some a) = IsListed a

role_listed : (r : Role) (a : Form) → IsListed a → IsGivenListed (given_form r a)
role_listed role.Axiom a is = is
role_listed role.Hypothesis a is = is
role_listed role.Definition a is = is
role_listed role.Assumption a is = is
role_listed role.Lemma a is = is
role_listed role.Theorem a is = is
role_listed role.Corollary a is = is
role_listed role.Conjecture a is = listed-Not a ∙ is
role_listed role.NegatedConjecture a is = is
role_listed role.Plain a is = tt
role_listed role.Typing a is = tt
role_listed role.FiDomain a is = tt
role_listed role.FiFunctors a is = tt
role_listed role.FiPredicates a is = tt
role_listed role.Unknown a is = tt

with_given : (l : Line) (o : Option Form) (entries : List GivenEntry) → IsGivenListed o → AreGivenListed entries → AreGivenListed (with_entry l o entries)
with_given l None entries one all = all
with_given l (Some a) entries one all = (one, all)

pub given_listed : (lines : List Line) → AreLinesListed lines → AreGivenListed (given_entries lines)
given_listed [] all = tt
given_listed (l ∷ lines) all = with_given l (given_form l.role l.form) (given_entries lines) (role_listed l.role l.form all.0) (given_listed lines all.1)
