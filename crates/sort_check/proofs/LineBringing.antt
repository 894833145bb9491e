-- What the lines of a text bring to a signature: sorts and symbols that they name.
use Rattle.std.proofs.Common.{◌≡◌, ℕ, ◌+◌, ◌==◌, ◌||◌, ◌&&◌, Bool, true, false, cond, List, [], ◌∷◌, ◌++◌, length, Option, Some, None, Ok, Err, refl, subst}
use Rattle.std.specs.List.{AllByRecursion, list_any}
use Rattle.tptp_base.specs.declared.limit.LimitName.TheVariants.{Sorts}
use Rattle.tptp_base.specs.declared.surface.Surface.{Surface}
use Rattle.tptp_base.specs.declared.surface.SortName.{SortName}
use Rattle.tptp_base.specs.declared.surface.SortName.TheVariants as name
use Rattle.tptp_base.specs.declared.surface.Quant.TheVariants as q
use Rattle.tptp_base.specs.declared.item.Lang.{Lang}
use Rattle.tptp_base.specs.declared.item.Lang.TheVariants as lang
use Rattle.tptp_base.specs.declared.item.Shape.{Shape}
use Rattle.tptp_base.specs.declared.item.Shape.TheVariants as shape
use Rattle.tptp_base.specs.declared.item.Body.{Body}
use Rattle.tptp_base.specs.declared.item.Body.TheVariants as body
use Rattle.tptp_base.specs.declared.item.Annotated.{Annotated}
use Rattle.tptp_base.specs.declared.item.Item.{Item}
use Rattle.tptp_base.specs.declared.item.Item.TheVariants as it
use Rattle.tptp_base.specs.Names.{names_of_form, names_of_body, names_of_item, names_of_items}
use Rattle.tptp_base.specs.Quotable.{IsQuotable, AreQuotable}
use Rattle.tptp_base.proofs.Naming.{quotable_in_each}
use Rattle.fof_terms.specs.Vocabulary.{Vocabulary, found_sort, found_symbol}
use Rattle.fof_terms.specs.declared.signature.Kind.TheVariants.{Predicate}
use Rattle.fof_terms.specs.declared.signature.Symbol.{Symbol}
use Rattle.fof_terms.specs.declared.form.Form.{Form}
use Rattle.sort_check.specs.declared.fault.SortRule.{SortRule}
use Rattle.sort_check.specs.declared.fault.SortRule.TheVariants.{FreeVariable, Variables, Redeclared, TwoConjectures, Limit}
use Rattle.sort_check.specs.declared.fault.SortFault.{SortFault}
use Rattle.sort_check.specs.declared.line.Line.{Line}
use Rattle.sort_check.specs.declared.line.TextKind.{TextKind}
use Rattle.sort_check.specs.Bringing.{IsNamed, Brings}
use Rattle.sort_check.specs.Outcomes.{Outcome, and_then, mapped, each}
use Rattle.sort_check.specs.Symbols.{Text, named_sort, with_name}
use Rattle.sort_check.specs.Denotation.{State, denoted_form, closed, clause_scope, without_count, outermost, sentence, clause, formula}
use Rattle.sort_check.specs.Texts.{Declared, sort_at, declared_sort, symbol_named, symbol_of, result_named, result_kind, differs, found_or_added, declared_symbol, typed, typed_body, at_line, type_item, type_lines, Reading, is_conjecture, is_single, line_of, reading, is_by_place, body_form, line_form, line, line_item, with_line, lines_from, only_vocabulary, denoted}
use Rattle.tptp_base.specs.Roles.{is_typing}
use Rattle.sort_check.proofs.Stepping.{at_ok, then_ok, mapped_ok}
use Rattle.sort_check.proofs.Bringing.{brings_nothing, brings_on, brings_sort, with_symbol_brings, forms_bring}
use Rattle.sort_check.proofs.LineSorts.{counted_ok, reading_ok, at_line_ok, symbol_same, declaring_ok, only_ok}

-- ---- whole formulas

module _ (by_place : Bool) (names : List Text) (f : Surface) (v w : Vocabulary) (a : Form) (quotable : AreQuotable (names_of_form f)) where
  sentence_brings : sentence by_place names f v ≡ Ok (a, w) → Brings v w
  sentence_brings e =
      let here = outermost by_place names FreeVariable in
      let start : State = record { vocabulary = v; bound = 0 } in
      let inner = counted_ok (denoted_form here f [] start) a w e in
      subst (Brings v) inner.2 (forms_bring f here [] start inner.0 a quotable inner.1)

  clause_brings : clause by_place names f v ≡ Ok (a, w) → Brings v w
  clause_brings e =
      let here = outermost by_place names Variables in
      let start : State = record { vocabulary = v; bound = 0 } in
      let scope = clause_scope f in
      let last = mapped_ok (closed q.All scope) (without_count (denoted_form here f scope start)) a w e in
      let inner = counted_ok (denoted_form here f scope start) last.0 w last.1 in
      subst (Brings v) inner.2 (forms_bring f here scope start inner.0 last.0 quotable inner.1)

  formula_brings : (l : Lang) → formula by_place l names f v ≡ Ok (a, w) → Brings v w
  formula_brings lang.Cnf e = clause_brings e
  formula_brings lang.Fof e = sentence_brings e
  formula_brings lang.Tff e = sentence_brings e
  formula_brings lang.Tcf e = sentence_brings e

-- ---- the lines of other roles

body_brings : (kind : TextKind) (names : List Text) (l : Annotated) (b : Body) (v w : Vocabulary) (a : Form) → AreQuotable (names_of_body b) → body_form kind names l b v ≡ Ok (a, w) → Brings v w
body_brings kind names l (body.Logic f) v w a quotable e = formula_brings (is_by_place kind) names f v w a quotable l.lang e
body_brings kind names l (body.Typing t) v w a quotable e = absurd (cc)

line_form_brings : (kind : TextKind) (names : List Text) (l : Annotated) (s t : Reading) (a : Form) → AreQuotable (names_of_body l.body) → line_form kind names l s ≡ Ok (a, t) → Brings s.vocabulary t.vocabulary
line_form_brings kind names l s t a quotable e = by (is_single kind && (is_conjecture l.role && s.conjectured)) e
  where
    by : (b : Bool) → cond b (Err TwoConjectures) (reading (is_conjecture l.role || s.conjectured) (body_form kind names l l.body s.vocabulary)) ≡ Ok (a, t) → Brings s.vocabulary t.vocabulary
    by true k = absurd (cc)
    by false k = body_brings kind names l l.body s.vocabulary t.vocabulary a quotable (reading_ok (is_conjecture l.role || s.conjectured) (body_form kind names l l.body s.vocabulary) a t k)

line_brings : (kind : TextKind) (names : List Text) (number : ℕ) (l : Annotated) (s t : Reading) (found : Option Line) → AreQuotable (names_of_body l.body) → line kind names number l s ≡ Ok (found, t) → Brings s.vocabulary t.vocabulary
line_brings kind names number l s t found quotable e = by (is_typing l.role) e
  where
    by : (b : Bool) → ◌≡◌ {A = Outcome SortFault Reading (Option Line)} (cond b (Ok (None, s)) (at_line l (mapped (λ form. Some (line_of number l form)) (line_form kind names l s)))) (Ok (found, t)) → Brings s.vocabulary t.vocabulary
    by true k = at_ok {E = SortFault} (λ (x : Option Line) (u : Reading). Brings s.vocabulary u.vocabulary) None found s t k (brings_nothing s.vocabulary)
    by false k =
        let some_line : Form → Option Line = λ form. Some (line_of number l form) in
        let inner = mapped_ok some_line (line_form kind names l s) found t (at_line_ok l (mapped some_line (line_form kind names l s)) found t k) in
        line_form_brings kind names l s t inner.0 quotable inner.1

item_brings : (kind : TextKind) (names : List Text) (number : ℕ) (i : Item) (s t : Reading) (found : Option Line) → AreQuotable (names_of_item i) → line_item kind names number i s ≡ Ok (found, t) → Brings s.vocabulary t.vocabulary
item_brings kind names number (it.Formula l) s t found quotable e = line_brings kind names number l s t found quotable e
item_brings kind names number (it.Comment text) s t found quotable e = at_ok {E = SortFault} (λ (x : Option Line) (u : Reading). Brings s.vocabulary u.vocabulary) None found s t e (brings_nothing s.vocabulary)
item_brings kind names number (it.Include i) s t found quotable e = at_ok {E = SortFault} (λ (x : Option Line) (u : Reading). Brings s.vocabulary u.vocabulary) None found s t e (brings_nothing s.vocabulary)

lines_bring : (kind : TextKind) (names : List Text) (number : ℕ) (items : List Item) (s t : Reading) (lines : List Line) → AllByRecursion (λ i. AreQuotable (names_of_item i)) items → lines_from kind names number items s ≡ Ok (lines, t) → Brings s.vocabulary t.vocabulary
lines_bring kind names number [] s t lines quotable e = at_ok {E = SortFault} (λ (ls : List Line) (u : Reading). Brings s.vocabulary u.vocabulary) [] lines s t e (brings_nothing s.vocabulary)
lines_bring kind names number (i ∷ items) s t lines quotable e =
    let parts = then_ok (line_item kind names number i s) (λ found u. mapped (with_line found) (lines_from kind names (number + 1) items u)) lines t e in
    let more = mapped_ok (with_line parts.0) (lines_from kind names (number + 1) items parts.1) lines t parts.3 in
    brings_on s.vocabulary parts.1.vocabulary t.vocabulary (item_brings kind names number i s parts.1 parts.0 quotable.0 parts.2) (lines_bring kind names (number + 1) items parts.1 t more.0 quotable.1 more.1)

-- ---- type lines

sort_brings : (word : Text) (o : Option ℕ) (v w : Vocabulary) (n : ℕ) → IsQuotable word → sort_at word o v ≡ Ok (n, w) → Brings v w
sort_brings word (Some number) v w n quotable e = at_ok {E = SortRule} (λ (m : ℕ) u. Brings v u) number n v w e (brings_nothing v)
sort_brings word None v w n quotable e = by (length v.sorts == 65536) e
  where
    by : (b : Bool) → ◌≡◌ {A = Outcome SortRule Vocabulary ℕ} (cond b (Err (Limit Sorts)) (Ok (length v.sorts, record v { sorts = v.sorts ++ word ∷ [] }))) (Ok (n, w)) → Brings v w
    by true k = absurd (cc)
    by false k = at_ok {E = SortRule} (λ (m : ℕ) u. Brings v u) (length v.sorts) n (record v { sorts = v.sorts ++ word ∷ [] }) w k (brings_sort v word quotable)

declared_brings : (s : Symbol) (v w : Vocabulary) (n : ℕ) → IsNamed s → declared_symbol s v ≡ Ok (n, w) → Brings v w
declared_brings s v w n named e = by (list_any (differs s) v.symbols) e
  where
    at : (o : Option ℕ) → found_or_added s o v ≡ Ok (n, w) → Brings v w
    at (Some number) k = at_ok {E = SortRule} (λ (m : ℕ) u. Brings v u) number n v w k (brings_nothing v)
    at None k = with_symbol_brings s v w n named k

    by : (b : Bool) → cond b (Err Redeclared) (found_or_added s (found_symbol v s.name s.kind (length s.args)) v) ≡ Ok (n, w) → Brings v w
    by true k = absurd (cc)
    by false k = at (found_symbol v s.name s.kind (length s.args)) k

-- $o is no sort: a predicate has the result 0
no_result : (sort : SortName) (v w : Vocabulary) (n : ℕ) → result_named sort v ≡ Ok (n, w) → result_kind sort ≡ Predicate → n ≡ 0
no_result name.Truth v w n e is = at_ok {E = SortRule} (λ (m : ℕ) (u : Vocabulary). m ≡ 0) 0 n v w e refl
no_result name.Individual v w n e is = cc
no_result (name.Word word) v w n e is = cc

symbol_is_named : (word : Text) (args : List SortName) (result : SortName) (v w : Vocabulary) (s : Symbol) → IsQuotable word → symbol_named word args result v ≡ Ok (s, w) → IsNamed s
symbol_is_named word args result v w s quotable e =
    let parts = then_ok (each (λ p. named_sort) 0 args v) (λ sorts u. mapped (symbol_of word (result_kind result) sorts) (result_named result u)) s w e in
    let inner = mapped_ok (symbol_of word (result_kind result) parts.0) (result_named result parts.1) s w parts.3 in
    subst IsNamed inner.2 (record { quotable = quotable; no_result = no_result result parts.1 w inner.0 inner.1 })

typed_brings : (word : Text) (s : Shape) (d e : Declared) (done : Unit {0}) → IsQuotable word → typed word s d ≡ Ok (done, e) → Brings d.vocabulary e.vocabulary
typed_brings word shape.Sort d e done quotable k =
    let inner = declaring_ok d.names (declared_sort word d.vocabulary) done e k in
    sort_brings word (found_sort d.vocabulary word) d.vocabulary e.vocabulary inner.0 quotable inner.1
typed_brings word (shape.Symbol args result) d e done quotable k =
    let inner = declaring_ok (with_name word d.names) (and_then (symbol_named word args result d.vocabulary) declared_symbol) done e k in
    let parts = then_ok (symbol_named word args result d.vocabulary) declared_symbol inner.0 e.vocabulary inner.1 in
    subst (λ (u : Vocabulary). Brings u e.vocabulary) (symbol_same word args result d.vocabulary parts.1 parts.0 parts.2)
    (declared_brings parts.0 parts.1 e.vocabulary inner.0 (symbol_is_named word args result d.vocabulary parts.1 parts.0 quotable parts.2) parts.3)

typed_body_brings : (b : Body) (d e : Declared) (done : Unit {0}) → AreQuotable (names_of_body b) → typed_body b d ≡ Ok (done, e) → Brings d.vocabulary e.vocabulary
typed_body_brings (body.Typing t) d e done quotable k = typed_brings t.name t.shape d e done quotable.0 k
typed_body_brings (body.Logic f) d e done quotable k = absurd (cc)

type_item_brings : (i : Item) (d e : Declared) (done : Unit {0}) → AreQuotable (names_of_item i) → type_item i d ≡ Ok (done, e) → Brings d.vocabulary e.vocabulary
type_item_brings (it.Comment text) d e done quotable k = at_ok {E = SortFault} (λ (u : Unit {0}) (f : Declared). Brings d.vocabulary f.vocabulary) tt done d e k (brings_nothing d.vocabulary)
type_item_brings (it.Include i) d e done quotable k = at_ok {E = SortFault} (λ (u : Unit {0}) (f : Declared). Brings d.vocabulary f.vocabulary) tt done d e k (brings_nothing d.vocabulary)
type_item_brings (it.Formula l) d e done quotable k = by (is_typing l.role) k
  where
    by : (b : Bool) → ◌≡◌ {A = Outcome SortFault Declared (Unit {0})} (cond b (at_line l (typed_body l.body d)) (Ok (tt, d))) (Ok (done, e)) → Brings d.vocabulary e.vocabulary
    by true m = typed_body_brings l.body d e done quotable (at_line_ok l (typed_body l.body d) done e m)
    by false m = at_ok {E = SortFault} (λ (u : Unit {0}) (f : Declared). Brings d.vocabulary f.vocabulary) tt done d e m (brings_nothing d.vocabulary)

types_bring : (items : List Item) (d e : Declared) (done : Unit {0}) → AllByRecursion (λ i. AreQuotable (names_of_item i)) items → type_lines items d ≡ Ok (done, e) → Brings d.vocabulary e.vocabulary
types_bring [] d e done quotable k = at_ok {E = SortFault} (λ (u : Unit {0}) (f : Declared). Brings d.vocabulary f.vocabulary) tt done d e k (brings_nothing d.vocabulary)
types_bring (i ∷ items) d e done quotable k =
    let parts = then_ok (type_item i d) (λ u f. type_lines items f) done e k in
    brings_on d.vocabulary parts.1.vocabulary e.vocabulary (type_item_brings i d parts.1 parts.0 quotable.0 parts.2) (types_bring items parts.1 e done quotable.1 parts.3)

-- ---- the whole text

-- what a text brings it names, if its names can be written between quotes
pub text_brings : (items : List Item) (v w : Vocabulary) (kind : TextKind) (lines : List Line) → AreQuotable (names_of_items items) → denoted items v kind ≡ Ok (lines, w) → Brings v w
text_brings items v w kind lines names e =
    let quotable = quotable_in_each names_of_item items names in
    let start : Declared = record { vocabulary = v; names = [] } in
    let parts = then_ok (type_lines items start) (λ done d. only_vocabulary (lines_from kind d.names 0 items (record { vocabulary = d.vocabulary; conjectured = false }))) lines w e in
    let inner = only_ok (lines_from kind parts.1.names 0 items (record { vocabulary = parts.1.vocabulary; conjectured = false })) lines w parts.3 in
    subst (Brings v) inner.2 (brings_on v parts.1.vocabulary inner.0.vocabulary (types_bring items start parts.1 parts.0 quotable parts.2)
    (lines_bring kind parts.1.names 0 items (record { vocabulary = parts.1.vocabulary; conjectured = false }) inner.0 lines quotable inner.1))
