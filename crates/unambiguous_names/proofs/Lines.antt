-- What the lines of a text make of a vocabulary, by single steps: symbols and sorts that are not there yet.
use Rattle.std.proofs.Common.{◌≡◌, ℕ, ◌+◌, ◌==◌, ◌||◌, ◌&&◌, Bool, true, false, cond, List, [], ◌∷◌, ◌++◌, length, Option, Some, None, Ok, Err, refl, subst}
use Rattle.std.specs.List.{list_any}
use Rattle.tptp_base.specs.declared.limit.LimitName.TheVariants.{Sorts}
use Rattle.tptp_base.specs.declared.surface.Surface.{Surface}
use Rattle.tptp_base.specs.declared.surface.Quant.TheVariants as q
use Rattle.tptp_base.specs.declared.item.Lang.{Lang}
use Rattle.tptp_base.specs.declared.item.Lang.TheVariants as lang
use Rattle.tptp_base.specs.declared.item.Shape.{Shape}
use Rattle.tptp_base.specs.declared.item.Shape.TheVariants as shape
use Rattle.tptp_base.specs.declared.item.Body.{Body}
use Rattle.tptp_base.specs.declared.item.Body.TheVariants as body
use Rattle.tptp_base.specs.declared.item.Annotated.{Annotated}
use Rattle.tptp_base.specs.declared.item.Item.{Item}
use Rattle.tptp_base.specs.declared.item.Item.TheVariants as it
use Rattle.tptp_base.specs.Roles.{is_typing}
use Rattle.fof_terms.specs.Vocabulary.{Vocabulary, found_sort, found_symbol}
use Rattle.fof_terms.specs.declared.signature.Symbol.{Symbol}
use Rattle.fof_terms.specs.declared.form.Form.{Form}
use Rattle.sort_check.specs.declared.fault.SortRule.{SortRule}
use Rattle.sort_check.specs.declared.fault.SortRule.TheVariants.{FreeVariable, Variables, Redeclared, TwoConjectures, Limit}
use Rattle.sort_check.specs.declared.fault.SortFault.{SortFault}
use Rattle.sort_check.specs.declared.line.Line.{Line}
use Rattle.sort_check.specs.declared.line.TextKind.{TextKind}
use Rattle.sort_check.specs.Outcomes.{Outcome, and_then, mapped, each}
use Rattle.sort_check.specs.Symbols.{Text, with_name}
use Rattle.sort_check.specs.Denotation.{State, denoted_form, closed, clause_scope, without_count, outermost, sentence, clause, formula}
use Rattle.sort_check.specs.Texts.{Declared, sort_at, declared_sort, symbol_named, differs, found_or_added, declared_symbol, typed, typed_body, at_line, type_item, type_lines, Reading, is_conjecture, is_single, line_of, reading, is_by_place, body_form, line_form, line, line_item, with_line, lines_from, only_vocabulary, denoted}
use Rattle.sort_check.proofs.Stepping.{at_ok, then_ok, mapped_ok}
use Rattle.sort_check.proofs.LineSorts.{counted_ok, reading_ok, at_line_ok, symbol_same, declaring_ok, only_ok}
use Rattle.unambiguous_names.proofs.Steps.{Steps, and_sort}
use Rattle.unambiguous_names.proofs.Formulas.{added_steps, forms_step}

module _ (R : Vocabulary → Vocabulary → Type 0) (steps : Steps R) where
  -- ---- whole formulas

  sentence_steps : (by_place : Bool) (names : List Text) (f : Surface) (v w : Vocabulary) (a : Form) → sentence by_place names f v ≡ Ok (a, w) → R v w
  sentence_steps by_place names f v w a e =
      let here = outermost by_place names FreeVariable in
      let start : State = record { vocabulary = v; bound = 0 } in
      let inner = counted_ok (denoted_form here f [] start) a w e in
      subst (R v) inner.2 (forms_step R steps f here [] start inner.0 a inner.1)

  clause_steps : (by_place : Bool) (names : List Text) (f : Surface) (v w : Vocabulary) (a : Form) → clause by_place names f v ≡ Ok (a, w) → R v w
  clause_steps by_place names f v w a e =
      let here = outermost by_place names Variables in
      let start : State = record { vocabulary = v; bound = 0 } in
      let scope = clause_scope f in
      let last = mapped_ok (closed q.All scope) (without_count (denoted_form here f scope start)) a w e in
      let inner = counted_ok (denoted_form here f scope start) last.0 w last.1 in
      subst (R v) inner.2 (forms_step R steps f here scope start inner.0 last.0 inner.1)

  formula_steps : (by_place : Bool) (l : Lang) (names : List Text) (f : Surface) (v w : Vocabulary) (a : Form) → formula by_place l names f v ≡ Ok (a, w) → R v w
  formula_steps by_place lang.Cnf names f v w a e = clause_steps by_place names f v w a e
  formula_steps by_place lang.Fof names f v w a e = sentence_steps by_place names f v w a e
  formula_steps by_place lang.Tff names f v w a e = sentence_steps by_place names f v w a e
  formula_steps by_place lang.Tcf names f v w a e = sentence_steps by_place names f v w a e

  -- ---- the lines of other roles

  body_steps : (kind : TextKind) (names : List Text) (l : Annotated) (b : Body) (v w : Vocabulary) (a : Form) → body_form kind names l b v ≡ Ok (a, w) → R v w
  body_steps kind names l (body.Logic f) v w a e = formula_steps (is_by_place kind) l.lang names f v w a e
  body_steps kind names l (body.Typing t) v w a e = absurd (cc)

  line_form_steps : (kind : TextKind) (names : List Text) (l : Annotated) (s t : Reading) (a : Form) → line_form kind names l s ≡ Ok (a, t) → R s.vocabulary t.vocabulary
  line_form_steps kind names l s t a e = by (is_single kind && (is_conjecture l.role && s.conjectured)) e
    where
      by : (b : Bool) → cond b (Err TwoConjectures) (reading (is_conjecture l.role || s.conjectured) (body_form kind names l l.body s.vocabulary)) ≡ Ok (a, t) → R s.vocabulary t.vocabulary
      by true k = absurd (cc)
      by false k = body_steps kind names l l.body s.vocabulary t.vocabulary a (reading_ok (is_conjecture l.role || s.conjectured) (body_form kind names l l.body s.vocabulary) a t k)

  line_steps : (kind : TextKind) (names : List Text) (number : ℕ) (l : Annotated) (s t : Reading) (found : Option Line) → line kind names number l s ≡ Ok (found, t) → R s.vocabulary t.vocabulary
  line_steps kind names number l s t found e = by (is_typing l.role) e
    where
      by : (b : Bool) → ◌≡◌ {A = Outcome SortFault Reading (Option Line)} (cond b (Ok (None, s)) (at_line l (mapped (λ form. Some (line_of number l form)) (line_form kind names l s)))) (Ok (found, t)) → R s.vocabulary t.vocabulary
      by true k = at_ok {E = SortFault} (λ (x : Option Line) (u : Reading). R s.vocabulary u.vocabulary) None found s t k (steps.none s.vocabulary)
      by false k =
          let some_line : Form → Option Line = λ form. Some (line_of number l form) in
          let inner = mapped_ok some_line (line_form kind names l s) found t (at_line_ok l (mapped some_line (line_form kind names l s)) found t k) in
          line_form_steps kind names l s t inner.0 inner.1

  item_steps : (kind : TextKind) (names : List Text) (number : ℕ) (i : Item) (s t : Reading) (found : Option Line) → line_item kind names number i s ≡ Ok (found, t) → R s.vocabulary t.vocabulary
  item_steps kind names number (it.Formula l) s t found e = line_steps kind names number l s t found e
  item_steps kind names number (it.Comment text) s t found e = at_ok {E = SortFault} (λ (x : Option Line) (u : Reading). R s.vocabulary u.vocabulary) None found s t e (steps.none s.vocabulary)
  item_steps kind names number (it.Include i) s t found e = at_ok {E = SortFault} (λ (x : Option Line) (u : Reading). R s.vocabulary u.vocabulary) None found s t e (steps.none s.vocabulary)

  lines_step : (kind : TextKind) (names : List Text) (number : ℕ) (items : List Item) (s t : Reading) (lines : List Line) → lines_from kind names number items s ≡ Ok (lines, t) → R s.vocabulary t.vocabulary
  lines_step kind names number [] s t lines e = at_ok {E = SortFault} (λ (ls : List Line) (u : Reading). R s.vocabulary u.vocabulary) [] lines s t e (steps.none s.vocabulary)
  lines_step kind names number (i ∷ items) s t lines e =
      let parts = then_ok (line_item kind names number i s) (λ found u. mapped (with_line found) (lines_from kind names (number + 1) items u)) lines t e in
      let more = mapped_ok (with_line parts.0) (lines_from kind names (number + 1) items parts.1) lines t parts.3 in
      steps.on s.vocabulary parts.1.vocabulary t.vocabulary (item_steps kind names number i s parts.1 parts.0 parts.2) (lines_step kind names (number + 1) items parts.1 t more.0 more.1)

  -- ---- type lines

  sort_steps : (word : Text) (v w : Vocabulary) (n : ℕ) → declared_sort word v ≡ Ok (n, w) → R v w
  sort_steps word v w n e = at (found_sort v word) refl e
    where
      by : found_sort v word ≡ None → (b : Bool) → ◌≡◌ {A = Outcome SortRule Vocabulary ℕ} (cond b (Err (Limit Sorts)) (Ok (length v.sorts, and_sort v word))) (Ok (n, w)) → R v w
      by none true k = absurd (cc)
      by none false k = at_ok {E = SortRule} (λ (m : ℕ) u. R v u) (length v.sorts) n (and_sort v word) w k (steps.sort v word none)

      at : (o : Option ℕ) → found_sort v word ≡ o → sort_at word o v ≡ Ok (n, w) → R v w
      at (Some number) is k = at_ok {E = SortRule} (λ (m : ℕ) u. R v u) number n v w k (steps.none v)
      at None is k = by is (length v.sorts == 65536) k

  declared_steps : (s : Symbol) (v w : Vocabulary) (n : ℕ) → declared_symbol s v ≡ Ok (n, w) → R v w
  declared_steps s v w n e = by (list_any (differs s) v.symbols) e
    where
      at : (o : Option ℕ) → found_symbol v s.name s.kind (length s.args) ≡ o → found_or_added s o v ≡ Ok (n, w) → R v w
      at (Some number) is k = at_ok {E = SortRule} (λ (m : ℕ) u. R v u) number n v w k (steps.none v)
      at None is k = added_steps R steps s v w n is k

      by : (b : Bool) → cond b (Err Redeclared) (found_or_added s (found_symbol v s.name s.kind (length s.args)) v) ≡ Ok (n, w) → R v w
      by true k = absurd (cc)
      by false k = at (found_symbol v s.name s.kind (length s.args)) refl k

  typed_steps : (word : Text) (s : Shape) (d e : Declared) (done : Unit {0}) → typed word s d ≡ Ok (done, e) → R d.vocabulary e.vocabulary
  typed_steps word shape.Sort d e done k =
      let inner = declaring_ok d.names (declared_sort word d.vocabulary) done e k in
      sort_steps word d.vocabulary e.vocabulary inner.0 inner.1
  typed_steps word (shape.Symbol args result) d e done k =
      let inner = declaring_ok (with_name word d.names) (and_then (symbol_named word args result d.vocabulary) declared_symbol) done e k in
      let parts = then_ok (symbol_named word args result d.vocabulary) declared_symbol inner.0 e.vocabulary inner.1 in
      subst (λ (u : Vocabulary). R u e.vocabulary) (symbol_same word args result d.vocabulary parts.1 parts.0 parts.2) (declared_steps parts.0 parts.1 e.vocabulary inner.0 parts.3)

  typed_body_steps : (b : Body) (d e : Declared) (done : Unit {0}) → typed_body b d ≡ Ok (done, e) → R d.vocabulary e.vocabulary
  typed_body_steps (body.Typing t) d e done k = typed_steps t.name t.shape d e done k
  typed_body_steps (body.Logic f) d e done k = absurd (cc)

  type_item_steps : (i : Item) (d e : Declared) (done : Unit {0}) → type_item i d ≡ Ok (done, e) → R d.vocabulary e.vocabulary
  type_item_steps (it.Comment text) d e done k = at_ok {E = SortFault} (λ (u : Unit {0}) (f : Declared). R d.vocabulary f.vocabulary) tt done d e k (steps.none d.vocabulary)
  type_item_steps (it.Include i) d e done k = at_ok {E = SortFault} (λ (u : Unit {0}) (f : Declared). R d.vocabulary f.vocabulary) tt done d e k (steps.none d.vocabulary)
  type_item_steps (it.Formula l) d e done k = by (is_typing l.role) k
    where
      by : (b : Bool) → ◌≡◌ {A = Outcome SortFault Declared (Unit {0})} (cond b (at_line l (typed_body l.body d)) (Ok (tt, d))) (Ok (done, e)) → R d.vocabulary e.vocabulary
      by true m = typed_body_steps l.body d e done (at_line_ok l (typed_body l.body d) done e m)
      by false m = at_ok {E = SortFault} (λ (u : Unit {0}) (f : Declared). R d.vocabulary f.vocabulary) tt done d e m (steps.none d.vocabulary)

  types_step : (items : List Item) (d e : Declared) (done : Unit {0}) → type_lines items d ≡ Ok (done, e) → R d.vocabulary e.vocabulary
  types_step [] d e done k = at_ok {E = SortFault} (λ (u : Unit {0}) (f : Declared). R d.vocabulary f.vocabulary) tt done d e k (steps.none d.vocabulary)
  types_step (i ∷ items) d e done k =
      let parts = then_ok (type_item i d) (λ u f. type_lines items f) done e k in
      steps.on d.vocabulary parts.1.vocabulary e.vocabulary (type_item_steps i d parts.1 parts.0 parts.2) (types_step items parts.1 e done parts.3)

  -- ---- the whole text

  pub text_steps : (items : List Item) (v w : Vocabulary) (kind : TextKind) (lines : List Line) → denoted items v kind ≡ Ok (lines, w) → R v w
  text_steps items v w kind lines e =
      let start : Declared = record { vocabulary = v; names = [] } in
      let parts = then_ok (type_lines items start) (λ done d. only_vocabulary (lines_from kind d.names 0 items (record { vocabulary = d.vocabulary; conjectured = false }))) lines w e in
      let inner = only_ok (lines_from kind parts.1.names 0 items (record { vocabulary = parts.1.vocabulary; conjectured = false })) lines w parts.3 in
      subst (R v) inner.2 (steps.on v parts.1.vocabulary inner.0.vocabulary (types_step items start parts.1 parts.0 parts.2)
      (lines_step kind parts.1.names 0 items (record { vocabulary = parts.1.vocabulary; conjectured = false }) inner.0 lines inner.1))
