-- What denotes where new symbols are of individuals denotes the same where they have the sorts of their places: lines
-- and texts.
use Rattle.std.proofs.Common.{◌≡◌, ℕ, ◌+◌, ◌||◌, ◌&&◌, Bool, true, false, cond, List, [], ◌∷◌, Option, Some, None, Ok, Err, refl, ◌∙◌, ap}
use Rattle.tptp_base.specs.Roles.{is_typing}
use Rattle.tptp_base.specs.declared.surface.Surface.{Surface}
use Rattle.tptp_base.specs.declared.item.Lang.{Lang}
use Rattle.tptp_base.specs.declared.item.Lang.TheVariants as lang
use Rattle.tptp_base.specs.declared.item.Annotated.{Annotated}
use Rattle.tptp_base.specs.declared.item.Body.{Body}
use Rattle.tptp_base.specs.declared.item.Body.TheVariants as body
use Rattle.tptp_base.specs.declared.item.Item.{Item}
use Rattle.tptp_base.specs.declared.item.Item.TheVariants as it
use Rattle.tptp_base.specs.declared.surface.Quant.TheVariants as q
use Rattle.fof_terms.specs.Vocabulary.{Vocabulary}
use Rattle.fof_terms.specs.declared.form.Form.{Form}
use Rattle.sort_check.specs.declared.fault.SortRule.{SortRule}
use Rattle.sort_check.specs.declared.fault.SortRule.TheVariants.{FreeVariable, Variables, TwoConjectures}
use Rattle.sort_check.specs.declared.fault.SortFault.{SortFault}
use Rattle.sort_check.specs.declared.line.Line.{Line}
use Rattle.sort_check.specs.declared.line.TextKind.TheVariants.{Problem, Derivation}
use Rattle.sort_check.specs.Outcomes.{Outcome, and_then, mapped}
use Rattle.sort_check.specs.Symbols.{Text}
use Rattle.sort_check.specs.Denotation.{State, denoted_form, closed, clause_scope, without_count, outermost, sentence, clause, formula}
use Rattle.sort_check.specs.Texts.{Declared, Reading, is_conjecture, is_single, line_of, reading, body_form, line_form, at_line, line, line_item, with_line, lines_from, only_vocabulary, type_lines, denoted}
use Rattle.sort_check.proofs.Stepping.{then_ok, mapped_ok}
use Rattle.sort_check.proofs.LineSorts.{counted_ok, at_line_ok, only_ok}
use Rattle.sort_check.proofs.ByPlace.{forms_same}

-- ---- whole formulas

counted_same : (o p : Outcome SortRule State Form) (a : Form) (w : Vocabulary) → ((t : State) → o ≡ Ok (a, t) → p ≡ Ok (a, t)) → without_count o ≡ Ok (a, w) → without_count p ≡ Ok (a, w)
counted_same o p a w same e = let inner = counted_ok o a w e in ap without_count (same inner.0 inner.1) ∙ ap (λ (u : Vocabulary). Ok (a, u)) inner.2

sentence_same : (names : List Text) (f : Surface) (v w : Vocabulary) (a : Form) → sentence false names f v ≡ Ok (a, w) → sentence true names f v ≡ Ok (a, w)
sentence_same names f v w a e =
    let start : State = record { vocabulary = v; bound = 0 } in
    counted_same (denoted_form (outermost false names FreeVariable) f [] start) (denoted_form (outermost true names FreeVariable) f [] start) a w (λ t k. forms_same f names FreeVariable [] start t a k) e

clause_same : (names : List Text) (f : Surface) (v w : Vocabulary) (a : Form) → clause false names f v ≡ Ok (a, w) → clause true names f v ≡ Ok (a, w)
clause_same names f v w a e =
    let start : State = record { vocabulary = v; bound = 0 } in
    let scope = clause_scope f in
    let here = denoted_form (outermost false names Variables) f scope start in
    let there = denoted_form (outermost true names Variables) f scope start in
    let last = mapped_ok (closed q.All scope) (without_count here) a w e in
    ap (mapped (closed q.All scope)) (counted_same here there last.0 w (λ t k. forms_same f names Variables scope start t last.0 k) last.1) ∙ ap (λ (b : Form). Ok (b, w)) last.2

pub formula_same : (l : Lang) (names : List Text) (f : Surface) (v w : Vocabulary) (a : Form) → formula false l names f v ≡ Ok (a, w) → formula true l names f v ≡ Ok (a, w)
formula_same lang.Cnf names f v w a e = clause_same names f v w a e
formula_same lang.Fof names f v w a e = sentence_same names f v w a e
formula_same lang.Tff names f v w a e = sentence_same names f v w a e
formula_same lang.Tcf names f v w a e = sentence_same names f v w a e

-- ---- lines

body_same : (names : List Text) (l : Annotated) (b : Body) (v w : Vocabulary) (a : Form) → body_form Problem names l b v ≡ Ok (a, w) → body_form Derivation names l b v ≡ Ok (a, w)
body_same names l (body.Logic f) v w a e = formula_same l.lang names f v w a e
body_same names l (body.Typing t) v w a e = absurd (cc)

line_form_same : (names : List Text) (l : Annotated) (s t : Reading) (a : Form) → line_form Problem names l s ≡ Ok (a, t) → line_form Derivation names l s ≡ Ok (a, t)
line_form_same names l s t a e = by (is_single Problem && (is_conjecture l.role && s.conjectured)) e
  where
    read : (o p : Outcome SortRule Vocabulary Form) → ((w : Vocabulary) (b : Form) → o ≡ Ok (b, w) → p ≡ Ok (b, w)) → reading (is_conjecture l.role || s.conjectured) o ≡ Ok (a, t) → reading (is_conjecture l.role || s.conjectured) p ≡ Ok (a, t)
    read (Err x) p same k = absurd (cc)
    read (Ok p) o same k = ap (reading (is_conjecture l.role || s.conjectured)) (same p.1 p.0 refl) ∙ k

    by : (b : Bool) → cond b (Err TwoConjectures) (reading (is_conjecture l.role || s.conjectured) (body_form Problem names l l.body s.vocabulary)) ≡ Ok (a, t) → line_form Derivation names l s ≡ Ok (a, t)
    by true k = absurd (cc)
    by false k = read (body_form Problem names l l.body s.vocabulary) (body_form Derivation names l l.body s.vocabulary) (λ w b. body_same names l l.body s.vocabulary w b) k

abbrev some_line : ℕ → Annotated → Form → Option Line
some_line number l form = Some (line_of number l form)

line_same : (names : List Text) (number : ℕ) (l : Annotated) (s t : Reading) (found : Option Line) → line Problem names number l s ≡ Ok (found, t) → line Derivation names number l s ≡ Ok (found, t)
line_same names number l s t found e = by (is_typing l.role) e
  where
    by : (b : Bool) → ◌≡◌ {A = Outcome SortFault Reading (Option Line)} (cond b (Ok (None, s)) (at_line l (mapped (some_line number l) (line_form Problem names l s)))) (Ok (found, t))
        → ◌≡◌ {A = Outcome SortFault Reading (Option Line)} (cond b (Ok (None, s)) (at_line l (mapped (some_line number l) (line_form Derivation names l s)))) (Ok (found, t))
    by true k = k
    by false k =
        let inner = mapped_ok (some_line number l) (line_form Problem names l s) found t (at_line_ok l (mapped (some_line number l) (line_form Problem names l s)) found t k) in
        ap (λ (o : Outcome SortRule Reading Form). at_line l (mapped (some_line number l) o)) (line_form_same names l s t inner.0 inner.1) ∙ ap (λ (x : Option Line). Ok (x, t)) inner.2

item_same : (names : List Text) (number : ℕ) (i : Item) (s t : Reading) (found : Option Line) → line_item Problem names number i s ≡ Ok (found, t) → line_item Derivation names number i s ≡ Ok (found, t)
item_same names number (it.Formula l) s t found e = line_same names number l s t found e
item_same names number (it.Comment text) s t found e = e
item_same names number (it.Include i) s t found e = e

lines_same : (names : List Text) (number : ℕ) (items : List Item) (s t : Reading) (lines : List Line) → lines_from Problem names number items s ≡ Ok (lines, t) → lines_from Derivation names number items s ≡ Ok (lines, t)
lines_same names number [] s t lines e = e
lines_same names number (i ∷ items) s t lines e =
    let parts = then_ok (line_item Problem names number i s) (λ found u. mapped (with_line found) (lines_from Problem names (number + 1) items u)) lines t e in
    let more = mapped_ok (with_line parts.0) (lines_from Problem names (number + 1) items parts.1) lines t parts.3 in
    ap (λ (o : Outcome SortFault Reading (Option Line)). and_then o (λ found u. mapped (with_line found) (lines_from Derivation names (number + 1) items u))) (item_same names number i s parts.1 parts.0 parts.2)
    ∙ ap (mapped (with_line parts.0)) (lines_same names (number + 1) items parts.1 t more.0 more.1)
    ∙ ap (λ (ls : List Line). Ok (ls, t)) more.2

pub text_same : (items : List Item) (v w : Vocabulary) (lines : List Line) → denoted items v Problem ≡ Ok (lines, w) → denoted items v Derivation ≡ Ok (lines, w)
text_same items v w lines e =
    let start : Declared = record { vocabulary = v; names = [] } in
    let begun : Declared → Reading = λ d. record { vocabulary = d.vocabulary; conjectured = false } in
    let parts = then_ok (type_lines items start) (λ done d. only_vocabulary (lines_from Problem d.names 0 items (begun d))) lines w e in
    let inner = only_ok (lines_from Problem parts.1.names 0 items (begun parts.1)) lines w parts.3 in
    ap (λ (o : Outcome SortFault Declared (Unit {0})). and_then o (λ done d. only_vocabulary (lines_from Derivation d.names 0 items (begun d)))) parts.2
    ∙ ap only_vocabulary (lines_same parts.1.names 0 items (begun parts.1) inner.0 lines inner.1)
    ∙ ap (λ (u : Vocabulary). Ok (lines, u)) inner.2
