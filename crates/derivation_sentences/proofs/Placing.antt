-- What items denote does not depend on where they stand.
use Rattle.std.proofs.Common.{◌≡◌, ℕ, ◌+◌, ◌&&◌, ◌||◌, Bool, true, false, cond, List, [], ◌∷◌, map, Option, Some, None, Ok, Err, refl, sym, ◌∙◌, ap}
use Rattle.std.specs.Option.{option_map}
use Rattle.tptp_base.specs.declared.place.Place.{Place}
use Rattle.tptp_base.specs.declared.item.Annotated.{Annotated}
use Rattle.tptp_base.specs.declared.item.Body.{Body}
use Rattle.tptp_base.specs.declared.item.Body.TheVariants as body
use Rattle.tptp_base.specs.declared.item.Item.{Item}
use Rattle.tptp_base.specs.declared.item.Item.TheVariants as it
use Rattle.tptp_base.specs.Roles.{is_typing}
use Rattle.fof_terms.specs.Vocabulary.{Vocabulary}
use Rattle.fof_terms.specs.declared.form.Form.{Form}
use Rattle.canon_print.specs.RoundTrip.{at_place}
use Rattle.sort_check.specs.declared.fault.SortFault.{SortFault}
use Rattle.sort_check.specs.declared.fault.SortRule.{SortRule}
use Rattle.sort_check.specs.declared.fault.SortRule.TheVariants.{TwoConjectures}
use Rattle.sort_check.specs.declared.line.Line.{Line}
use Rattle.sort_check.specs.declared.line.TextKind.{TextKind}
use Rattle.sort_check.specs.Outcomes.{Outcome, and_then, mapped}
use Rattle.sort_check.specs.Symbols.{Text}
use Rattle.sort_check.specs.Texts.{Declared, Reading, at_line, body_form, denoted, is_conjecture, is_single, line, line_form, line_item, line_of, lines_from, only_vocabulary, reading, type_item, type_lines, typed_body, with_line}
use Rattle.sort_check.proofs.Stepping.{at_ok, then_ok, mapped_ok}
use Rattle.sort_check.proofs.LineSorts.{at_line_ok, only_ok}
use Rattle.derivation_sentences.specs.Denoted.{line_at, lines_at}

module _ (place : Place) where
  abbrev moved : Annotated → Annotated
  moved a = record a { place = place }

  -- ---- type lines

  type_item_moved : (i : Item) (d e : Declared) (done : Unit {0}) → type_item (at_place place i) d ≡ Ok (done, e) → type_item i d ≡ Ok (done, e)
  type_item_moved (it.Comment text) d e done h = h
  type_item_moved (it.Include i) d e done h = h
  type_item_moved (it.Formula a) d e done h = by (is_typing a.role) h
    where
      again : (o : Outcome SortRule Declared (Unit {0})) → o ≡ Ok (done, e) → at_line a o ≡ Ok (done, e)
      again o same = ap (at_line a) same

      by : (b : Bool) → ◌≡◌ {A = Outcome SortFault Declared (Unit {0})} (cond b (at_line (moved a) (typed_body a.body d)) (Ok (tt, d))) (Ok (done, e)) → ◌≡◌ {A = Outcome SortFault Declared (Unit {0})} (cond b (at_line a (typed_body a.body d)) (Ok (tt, d))) (Ok (done, e))
      by true k = again (typed_body a.body d) (at_line_ok (moved a) (typed_body a.body d) done e k)
      by false k = k

  types_moved : (items : List Item) (d e : Declared) (done : Unit {0}) → type_lines (map (at_place place) items) d ≡ Ok (done, e) → type_lines items d ≡ Ok (done, e)
  types_moved [] d e done h = h
  types_moved (i ∷ items) d e done h =
      let parts = then_ok (type_item (at_place place i) d) (λ u f. type_lines (map (at_place place) items) f) done e h in
      ap (λ (o : Outcome SortFault Declared (Unit {0})). and_then o (λ u f. type_lines items f)) (type_item_moved i d parts.1 parts.0 parts.2) ∙ types_moved items parts.1 e done parts.3

  -- ---- the other lines

  body_moved : (kind : TextKind) (names : List Text) (a : Annotated) (b : Body) (v : Vocabulary) → body_form kind names (moved a) b v ≡ body_form kind names a b v
  body_moved kind names a (body.Logic f) v = refl
  body_moved kind names a (body.Typing t) v = refl

  form_moved : (kind : TextKind) (names : List Text) (a : Annotated) (s : Reading) → line_form kind names (moved a) s ≡ line_form kind names a s
  form_moved kind names a s =
      ap (λ (o : Outcome SortRule Vocabulary Form). cond (is_single kind && (is_conjecture a.role && s.conjectured)) (Err TwoConjectures) (reading (is_conjecture a.role || s.conjectured) o)) (body_moved kind names a a.body s.vocabulary)

  abbrev OneOutcome : Type 0
  OneOutcome = Outcome SortFault Reading (Option Line)

  -- what comes of the item where it stood
  abbrev Was : OneOutcome → Option Line → Reading → Type 0
  Was o found t = (other : Option Line) × (o ≡ Ok (other, t)) × (found ≡ option_map (line_at place) other)

  line_moved : (kind : TextKind) (names : List Text) (number : ℕ) (a : Annotated) (s t : Reading) (found : Option Line) → line kind names number (moved a) s ≡ Ok (found, t) → Was (line kind names number a s) found t
  line_moved kind names number a s t found h = by (is_typing a.role) h
    where
      as_line : Annotated → Form → Option Line
      as_line b form = Some (line_of number b form)

      by : (b : Bool) → ◌≡◌ {A = OneOutcome} (cond b (Ok (None, s)) (at_line (moved a) (mapped (λ form. Some (line_of number (moved a) form)) (line_form kind names (moved a) s)))) (Ok (found, t))
          → Was (cond b (Ok (None, s)) (at_line a (mapped (λ form. Some (line_of number a form)) (line_form kind names a s)))) found t
      by true k = at_ok {E = SortFault} (λ (x : Option Line) (u : Reading). Was (Ok (None, s)) x u) None found s t k (None, refl, refl)
      by false k =
          let after : Form → Option Line = λ form. Some (line_of number (moved a) form) in
          let before : Form → Option Line = λ form. Some (line_of number a form) in
          let inner = mapped_ok after (line_form kind names (moved a) s) found t (at_line_ok (moved a) (mapped after (line_form kind names (moved a) s)) found t k) in
          (Some (line_of number a inner.0), ap (λ (o : Outcome SortRule Reading Form). at_line a (mapped before o)) (sym (form_moved kind names a s) ∙ inner.1), sym inner.2)

  item_moved : (kind : TextKind) (names : List Text) (number : ℕ) (i : Item) (s t : Reading) (found : Option Line) → line_item kind names number (at_place place i) s ≡ Ok (found, t) → Was (line_item kind names number i s) found t
  item_moved kind names number (it.Comment text) s t found h = at_ok {E = SortFault} (λ (x : Option Line) (u : Reading). Was (Ok (None, s)) x u) None found s t h (None, refl, refl)
  item_moved kind names number (it.Include i) s t found h = at_ok {E = SortFault} (λ (x : Option Line) (u : Reading). Was (Ok (None, s)) x u) None found s t h (None, refl, refl)
  item_moved kind names number (it.Formula a) s t found h = line_moved kind names number a s t found h

  with_moved : (o : Option Line) (lines : List Line) → with_line (option_map (line_at place) o) (lines_at place lines) ≡ lines_at place (with_line o lines)
  with_moved None lines = refl
  with_moved (Some l) lines = refl

  abbrev WereAt : Outcome SortFault Reading (List Line) → List Line → Reading → Type 0
  WereAt o lines t = (others : List Line) × (o ≡ Ok (others, t)) × (lines ≡ lines_at place others)

  lines_moved : (kind : TextKind) (names : List Text) (number : ℕ) (items : List Item) (s t : Reading) (lines : List Line) → lines_from kind names number (map (at_place place) items) s ≡ Ok (lines, t) → WereAt (lines_from kind names number items s) lines t
  lines_moved kind names number [] s t lines h = at_ok {E = SortFault} (λ (ls : List Line) (u : Reading). WereAt (Ok ([], s)) ls u) [] lines s t h ([], refl, refl)
  lines_moved kind names number (i ∷ items) s t lines h =
      let parts = then_ok (line_item kind names number (at_place place i) s) (λ found u. mapped (with_line found) (lines_from kind names (number + 1) (map (at_place place) items) u)) lines t h in
      let more = mapped_ok (with_line parts.0) (lines_from kind names (number + 1) (map (at_place place) items) parts.1) lines t parts.3 in
      let one = item_moved kind names number i s parts.1 parts.0 parts.2 in
      let rest = lines_moved kind names (number + 1) items parts.1 t more.0 more.1 in (
        with_line one.0 rest.0,
        ap (λ (o : OneOutcome). and_then o (λ found u. mapped (with_line found) (lines_from kind names (number + 1) items u))) one.1 ∙ ap (mapped (with_line one.0)) rest.1,
        sym more.2 ∙ ap (λ (o : Option Line). with_line o more.0) one.2 ∙ ap (with_line (option_map (line_at place) one.0)) rest.2 ∙ with_moved one.0 rest.0,
      )

  -- ---- the whole text

  pub text_moved : (items : List Item) (v w : Vocabulary) (kind : TextKind) (lines : List Line) → denoted (map (at_place place) items) v kind ≡ Ok (lines, w) → (others : List Line) × (denoted items v kind ≡ Ok (others, w)) × (lines ≡ lines_at place others)
  text_moved items v w kind lines h =
      let start : Declared = record { vocabulary = v; names = [] } in
      let after = map (at_place place) items in
      let parts = then_ok (type_lines after start) (λ done d. only_vocabulary (lines_from kind d.names 0 after (record { vocabulary = d.vocabulary; conjectured = false }))) lines w h in
      let inner = only_ok (lines_from kind parts.1.names 0 after (record { vocabulary = parts.1.vocabulary; conjectured = false })) lines w parts.3 in
      let found = lines_moved kind parts.1.names 0 items (record { vocabulary = parts.1.vocabulary; conjectured = false }) inner.0 lines inner.1 in (
        found.0,
        ap (λ (o : Outcome SortFault Declared (Unit {0})). and_then o (λ done d. only_vocabulary (lines_from kind d.names 0 items (record { vocabulary = d.vocabulary; conjectured = false })))) (types_moved items start parts.1 parts.0 parts.2)
            ∙ ap only_vocabulary found.1
            ∙ ap (λ (u : Vocabulary). Ok (found.0, u)) inner.2,
        found.2,
      )
