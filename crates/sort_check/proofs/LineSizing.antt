-- The formulas that the lines of a text denote are no larger than its items.
use Rattle.std.proofs.Common.{◌≡◌, ◌≤◌, ℕ, ◌+◌, ◌||◌, ◌&&◌, Bool, true, false, cond, List, [], ◌∷◌, length, map, Option, Some, None, Ok, Err, ap, subst, arith}
use Rattle.std.specs.Prelude.{max}
use Rattle.std.proofs.lemmas.List.{length-map}
use Rattle.tptp_base.specs.declared.surface.Surface.{Surface}
use Rattle.tptp_base.specs.declared.surface.Quant.TheVariants as q
use Rattle.tptp_base.specs.declared.item.Lang.{Lang}
use Rattle.tptp_base.specs.declared.item.Lang.TheVariants as lang
use Rattle.tptp_base.specs.declared.item.Body.{Body}
use Rattle.tptp_base.specs.declared.item.Body.TheVariants as body
use Rattle.tptp_base.specs.declared.item.Annotated.{Annotated}
use Rattle.tptp_base.specs.declared.item.Item.{Item}
use Rattle.tptp_base.specs.declared.item.Item.TheVariants as it
use Rattle.tptp_base.specs.Sizes.{Size, small, all_of, size_of_form, size_of_body, size_of_item}
use Rattle.fof_terms.specs.Vocabulary.{Vocabulary}
use Rattle.fof_terms.specs.Sizes.{form_size}
use Rattle.fof_terms.specs.declared.form.Form.{Form}
use Rattle.sort_check.specs.declared.fault.SortRule.TheVariants.{FreeVariable, Variables, TwoConjectures}
use Rattle.sort_check.specs.declared.fault.SortFault.{SortFault}
use Rattle.sort_check.specs.declared.line.Line.{Line}
use Rattle.sort_check.specs.declared.line.TextKind.{TextKind}
use Rattle.sort_check.specs.Laws.{size_of_line, AreNoLarger}
use Rattle.sort_check.specs.Outcomes.{Outcome, mapped}
use Rattle.sort_check.specs.Symbols.{Text}
use Rattle.sort_check.specs.Denotation.{State, denoted_form, closed, clause_scope, without_count, outermost, sentence, clause, formula}
use Rattle.sort_check.specs.Texts.{Declared, at_line, type_lines, Reading, is_conjecture, is_single, line_of, reading, is_by_place, body_form, line_form, line, line_item, with_line, lines_from, only_vocabulary, denoted}
use Rattle.tptp_base.specs.Roles.{is_typing}
use Rattle.sort_check.proofs.Stepping.{at_ok, then_ok, mapped_ok}
use Rattle.sort_check.proofs.LineSorts.{counted_ok, reading_ok, at_line_ok, only_ok}
use Rattle.sort_check.proofs.SameVariables.{same_scope}
use Rattle.sort_check.proofs.Sizing.{closed_size, forms_fit}

record NoLarger (size form : Size) : Type 0 where
  longest : form.longest ≤ max 2 size.longest
  variables : form.variables ≤ size.variables

-- ---- whole formulas

module _ (by_place : Bool) (names : List Text) (f : Surface) (v w : Vocabulary) (a : Form) where
  sentence_fits : sentence by_place names f v ≡ Ok (a, w) → NoLarger (size_of_form f) (form_size a)
  sentence_fits e =
      let here = outermost by_place names FreeVariable in
      let start : State = record { vocabulary = v; bound = 0 } in
      let inner = counted_ok (denoted_form here f [] start) a w e in
      let fits = forms_fit f here [] start inner.0 a inner.1 in
      let few = fits.variables [] in
      record { longest = fits.longest; variables = omega (arith, few) }

  clause_fits : clause by_place names f v ≡ Ok (a, w) → NoLarger (size_of_form f) (form_size a)
  clause_fits e =
      let here = outermost by_place names Variables in
      let start : State = record { vocabulary = v; bound = 0 } in
      let scope = clause_scope f in
      let last = mapped_ok (closed q.All scope) (without_count (denoted_form here f scope start)) a w e in
      let inner = counted_ok (denoted_form here f scope start) last.0 w last.1 in
      let fits = forms_fit f here scope start inner.0 last.0 inner.1 in
      let few = fits.variables [] in
      let whole = closed_size q.All scope last.0 in
      subst (λ (b : Form). NoLarger (size_of_form f) (form_size b)) last.2 (record { longest = omega (arith, whole.longest, fits.longest); variables = omega (arith, whole.variables, few, ap length (same_scope f)) })

  formula_fits : (l : Lang) → formula by_place l names f v ≡ Ok (a, w) → NoLarger (size_of_form f) (form_size a)
  formula_fits lang.Cnf e = clause_fits e
  formula_fits lang.Fof e = sentence_fits e
  formula_fits lang.Tff e = sentence_fits e
  formula_fits lang.Tcf e = sentence_fits e

-- ---- lines

body_fits : (kind : TextKind) (names : List Text) (l : Annotated) (b : Body) (v w : Vocabulary) (a : Form) → body_form kind names l b v ≡ Ok (a, w) → NoLarger (size_of_body b) (form_size a)
body_fits kind names l (body.Logic f) v w a e = formula_fits (is_by_place kind) names f v w a l.lang e
body_fits kind names l (body.Typing t) v w a e = absurd (cc)

line_form_fits : (kind : TextKind) (names : List Text) (l : Annotated) (s t : Reading) (a : Form) → line_form kind names l s ≡ Ok (a, t) → NoLarger (size_of_body l.body) (form_size a)
line_form_fits kind names l s t a e = by (is_single kind && (is_conjecture l.role && s.conjectured)) e
  where
    by : (b : Bool) → cond b (Err TwoConjectures) (reading (is_conjecture l.role || s.conjectured) (body_form kind names l l.body s.vocabulary)) ≡ Ok (a, t) → NoLarger (size_of_body l.body) (form_size a)
    by true k = absurd (cc)
    by false k = body_fits kind names l l.body s.vocabulary t.vocabulary a (reading_ok (is_conjecture l.role || s.conjectured) (body_form kind names l l.body s.vocabulary) a t k)

-- that of a line, where there is one
abbrev found_size : Option Line → Size
found_size None = small
found_size (Some l) = size_of_line l

nothing_fits : (size : Size) → NoLarger size small
nothing_fits size = record { longest = omega arith; variables = omega arith }

line_fits : (kind : TextKind) (names : List Text) (number : ℕ) (l : Annotated) (s t : Reading) (found : Option Line) → line kind names number l s ≡ Ok (found, t) → NoLarger (size_of_item (it.Formula l)) (found_size found)
line_fits kind names number l s t found e = by (is_typing l.role) e
  where
    by : (b : Bool) → ◌≡◌ {A = Outcome SortFault Reading (Option Line)} (cond b (Ok (None, s)) (at_line l (mapped (λ form. Some (line_of number l form)) (line_form kind names l s)))) (Ok (found, t)) → NoLarger (size_of_item (it.Formula l)) (found_size found)
    by true k = at_ok {E = SortFault} (λ (x : Option Line) (u : Reading). NoLarger (size_of_item (it.Formula l)) (found_size x)) None found s t k (nothing_fits (size_of_item (it.Formula l)))
    by false k =
        let some_line : Form → Option Line = λ form. Some (line_of number l form) in
        let inner = mapped_ok some_line (line_form kind names l s) found t (at_line_ok l (mapped some_line (line_form kind names l s)) found t k) in
        let fits = line_form_fits kind names l s t inner.0 inner.1 in
        subst (λ (x : Option Line). NoLarger (size_of_item (it.Formula l)) (found_size x)) inner.2 (record { longest = omega (arith, fits.longest); variables = omega (arith, fits.variables) })

item_fits : (kind : TextKind) (names : List Text) (number : ℕ) (i : Item) (s t : Reading) (found : Option Line) → line_item kind names number i s ≡ Ok (found, t) → NoLarger (size_of_item i) (found_size found)
item_fits kind names number (it.Formula l) s t found e = line_fits kind names number l s t found e
item_fits kind names number (it.Comment text) s t found e = at_ok {E = SortFault} (λ (x : Option Line) (u : Reading). NoLarger (size_of_item (it.Comment text)) (found_size x)) None found s t e (nothing_fits (size_of_item (it.Comment text)))
item_fits kind names number (it.Include i) s t found e = at_ok {E = SortFault} (λ (x : Option Line) (u : Reading). NoLarger (size_of_item (it.Include i)) (found_size x)) None found s t e (nothing_fits (size_of_item (it.Include i)))

-- the lines of these items
record LinesFit (items : List Item) (lines : List Line) : Type 0 where
  count : length lines ≤ length items
  all : NoLarger (all_of (map size_of_item items)) (all_of (map size_of_line lines))

more_lines : (i : Item) (items : List Item) (found : Option Line) (lines : List Line) → NoLarger (size_of_item i) (found_size found) → LinesFit items lines → LinesFit (i ∷ items) (with_line found lines)
more_lines i items (Some l) lines h k = record {
  count = omega (arith, k.count);
  all = record { longest = omega (arith, h.longest, k.all.longest); variables = omega (arith, h.variables, k.all.variables) };
}
more_lines i items None lines h k = record {
  count = omega (arith, k.count);
  all = record { longest = omega (arith, k.all.longest); variables = omega (arith, k.all.variables) };
}

lines_fit : (kind : TextKind) (names : List Text) (number : ℕ) (items : List Item) (s t : Reading) (lines : List Line) → lines_from kind names number items s ≡ Ok (lines, t) → LinesFit items lines
lines_fit kind names number [] s t lines e = at_ok {E = SortFault} (λ (ls : List Line) (u : Reading). LinesFit [] ls) [] lines s t e (record { count = omega arith; all = record { longest = omega arith; variables = omega arith } })
lines_fit kind names number (i ∷ items) s t lines e =
    let parts = then_ok (line_item kind names number i s) (λ found u. mapped (with_line found) (lines_from kind names (number + 1) items u)) lines t e in
    let more = mapped_ok (with_line parts.0) (lines_from kind names (number + 1) items parts.1) lines t parts.3 in
    subst (LinesFit (i ∷ items)) more.2 (more_lines i items parts.0 more.0 (item_fits kind names number i s parts.1 parts.0 parts.2) (lines_fit kind names (number + 1) items parts.1 t more.0 more.1))

pub text_fits : (items : List Item) (v w : Vocabulary) (kind : TextKind) (lines : List Line) → denoted items v kind ≡ Ok (lines, w) → AreNoLarger items lines
text_fits items v w kind lines e =
    let start : Declared = record { vocabulary = v; names = [] } in
    let parts = then_ok (type_lines items start) (λ done d. only_vocabulary (lines_from kind d.names 0 items (record { vocabulary = d.vocabulary; conjectured = false }))) lines w e in
    let inner = only_ok (lines_from kind parts.1.names 0 items (record { vocabulary = parts.1.vocabulary; conjectured = false })) lines w parts.3 in
    let fits = lines_fit kind parts.1.names 0 items (record { vocabulary = parts.1.vocabulary; conjectured = false }) inner.0 lines inner.1 in
    record {
      longest = omega (arith, fits.count, fits.all.longest, length-map lines size_of_line, length-map items size_of_item);
      variables = omega (arith, fits.all.variables);
    }
