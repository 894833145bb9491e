-- The lines that the items of a derivation denote.
use Rattle.std.proofs.Common.{◌≡◌, ℕ, suc, ◌+◌, true, false, List, [], ◌∷◌, ◌++◌, length, Option, Some, None, Ok, Err, refl, ◌∙◌, ap, arith}
use Rattle.std.specs.List.{AllByRecursion, AllZip}
use Rattle.tptp_base.specs.declared.name.Name.TheVariants as name
use Rattle.tptp_base.specs.declared.surface.Surface.{Surface}
use Rattle.tptp_base.specs.declared.item.Annotated.{Annotated}
use Rattle.tptp_base.specs.declared.item.Body.TheVariants as body
use Rattle.tptp_base.specs.declared.item.Item.{Item}
use Rattle.tptp_base.specs.declared.item.Lang.TheVariants.{Tff}
use Rattle.tptp_base.specs.declared.item.Role.TheVariants as role
use Rattle.tptp_base.specs.declared.item.Typing.{Typing}
use Rattle.fof_terms.specs.Sorts.{is_sorted}
use Rattle.fof_terms.specs.Vocabulary.{Vocabulary}
use Rattle.fof_terms.specs.declared.form.Form.{Form}
use Rattle.sort_check.specs.declared.fault.SortFault.{SortFault}
use Rattle.sort_check.specs.declared.fault.SortRule.{SortRule}
use Rattle.sort_check.specs.declared.line.Line.{Line}
use Rattle.sort_check.specs.declared.line.TextKind.TheVariants.{Derivation}
use Rattle.sort_check.specs.Outcomes.{Outcome, and_then, mapped}
use Rattle.sort_check.specs.Symbols.{Text}
use Rattle.sort_check.specs.Texts.{Declared, Reading, at_line, denoted, line_item, line_of, lines_from, only_vocabulary, reading, type_item, type_lines, with_line}
use Rattle.prove_out.specs.Unambiguous.{IsUnambiguous}
use Rattle.prove_out.specs.Denoting.{Denotes}
use Rattle.derivation_items.specs.Items.{first_place, line_item_of, typing_items}
use Rattle.derivation_items.specs.Sources.{source_term}
use Rattle.derivation_items.specs.Words.{printable_text}
use Rattle.derivation_items.specs.declared.line.LineSource.{LineSource}
use Rattle.derivation_items.specs.declared.line.ProofLine.{ProofLine}
use Rattle.limited_items.specs.Printed.{IsPrinted}
use Rattle.derivation_sentences.specs.Denoted.{denoted_line, denoted_lines}
use Rattle.derivation_sentences.proofs.Typing.{first_type}

abbrev LinesOutcome : Type 0
LinesOutcome = Outcome SortFault Reading (List Line)

abbrev OneOutcome : Type 0
OneOutcome = Outcome SortFault Reading (Option Line)

-- ---- type lines give no lines

none_before : (o : LinesOutcome) → mapped (with_line None) o ≡ o
none_before (Ok p) = refl
none_before (Err e) = refl

pub behind_types : (names : List Text) (ts : List Typing) (k number : ℕ) (rest : List Item) (s : Reading) → lines_from Derivation names number (typing_items k ts ++ rest) s ≡ lines_from Derivation names (number + length ts) rest s
behind_types names [] k number rest s = let same : number ≡ number + 0 = omega arith in ap (λ (n : ℕ). lines_from Derivation names n rest s) same
behind_types names (t ∷ ts) k number rest s =
    let same : number + 1 + length ts ≡ number + suc (length ts) = omega arith in
    none_before (lines_from Derivation names (number + 1) (typing_items (k + 1) ts ++ rest) s)
    ∙ behind_types names ts (k + 1) (number + 1) rest s
    ∙ ap (λ (n : ℕ). lines_from Derivation names n rest s) same

-- ---- a line

abbrev annotated : Text → Text → Surface → LineSource → Annotated
annotated file word f source = record { place = first_place; lang = Tff; name = name.Word word; role = role.Plain; body = body.Logic f; source = Some (source_term (printable_text file) source); info = None }

module _ (file : Text) (v : Vocabulary) where
  line_denotes : (names : List Text) (number : ℕ) (l : ProofLine) (f : Surface) → Denotes v f l.form → line_item Derivation names number (line_item_of file l.name f l.source) (record { vocabulary = v; conjectured = false }) ≡ Ok (Some (denoted_line number l), record { vocabulary = v; conjectured = false })
  line_denotes names number l f denotes =
      let a = annotated file l.name f l.source in
      let as_line : Form → Option Line = λ form. Some (line_of number a form) in
      ap (λ (o : Outcome SortRule Vocabulary Form). at_line a (mapped as_line (reading false o))) (denotes true names)

  abbrev IsFit : ProofLine → Type 0
  IsFit l = is_sorted v [] l.form ≡ true

  module _ (u : IsUnambiguous v) where
    one_line : (names : List Text) (number : ℕ) (l : ProofLine) (i : Item) → IsFit l → IsPrinted file v l i → line_item Derivation names number i (record { vocabulary = v; conjectured = false }) ≡ Ok (Some (denoted_line number l), record { vocabulary = v; conjectured = false })
    one_line names number l i fits printed =
        ap (λ (j : Item). line_item Derivation names number j (record { vocabulary = v; conjectured = false })) printed.is
        ∙ line_denotes names number l printed.formula (printed.writes.denotes (record { unambiguous = u; sorted = fits; few_variables = printed.few_variables }))

    pub all_lines : (names : List Text) (lines : List ProofLine) (items : List Item) (number : ℕ) → AllByRecursion IsFit lines → AllZip (IsPrinted file v) lines items
        → lines_from Derivation names number items (record { vocabulary = v; conjectured = false }) ≡ Ok (denoted_lines number lines, record { vocabulary = v; conjectured = false })
    all_lines names [] [] number fit printed = refl
    all_lines names [] (i ∷ items) number fit printed = absurd printed
    all_lines names (l ∷ lines) [] number fit printed = absurd printed
    all_lines names (l ∷ lines) (i ∷ items) number fit printed =
        ap (λ (o : OneOutcome). and_then o (λ found t. mapped (with_line found) (lines_from Derivation names (number + 1) items t))) (one_line names number l i fit.0 printed.0)
        ∙ ap (mapped (with_line (Some (denoted_line number l)))) (all_lines names lines items (number + 1) fit.1 printed.1)

  -- lines are no type lines
  pub no_types : (lines : List ProofLine) (items : List Item) (d : Declared) → AllZip (IsPrinted file v) lines items → type_lines items d ≡ Ok (tt, d)
  no_types [] [] d printed = refl
  no_types [] (i ∷ items) d printed = absurd printed
  no_types (l ∷ lines) [] d printed = absurd printed
  no_types (l ∷ lines) (i ∷ items) d printed =
      let one : type_item i d ≡ Ok (tt, d) = ap (λ (j : Item). type_item j d) printed.0.is in
      first_type i items d d one ∙ no_types lines items d printed.1

-- ---- the whole text

-- from what comes of the type lines and of the lines behind them
pub whole_denotes : (items : List Item) (v w : Vocabulary) (names : List Text) (lines : List Line) → type_lines items (record { vocabulary = v; names = [] }) ≡ Ok (tt, record { vocabulary = w; names = names })
    → lines_from Derivation names 0 items (record { vocabulary = w; conjectured = false }) ≡ Ok (lines, record { vocabulary = w; conjectured = false }) → denoted items v Derivation ≡ Ok (lines, w)
whole_denotes items v w names lines types found =
    ap (λ (o : Outcome SortFault Declared (Unit {0})). and_then o (λ done d. only_vocabulary (lines_from Derivation d.names 0 items (record { vocabulary = d.vocabulary; conjectured = false })))) types
    ∙ ap only_vocabulary found
