-- The items of a derivation that is found can be written.
use Rattle.std.specs.Prelude.{ℕ, ◌≡◌, ◌<◌, ◌≤◌, ◌^◌, true, List, [], ◌∷◌, length}
use Rattle.std.specs.List.{All as Each, AllByRecursion, AllZip, list_all}
use Rattle.std.proofs.Common.{sym, subst, arith}
use Rattle.std.proofs.lemmas.List.Elements.{recursion_from_All}
use Rattle.tptp_base.specs.Place.{is_no_line_feed}
use Rattle.tptp_base.specs.declared.item.Item.{Item}
use Rattle.tptp_base.specs.declared.read.TheConstants.{FILE_SIZE}
use Rattle.canon_print.specs.Canonical.{canonical_text}
use Rattle.fof_terms.specs.Sorts.{is_sorted}
use Rattle.fof_terms.specs.Vocabulary.{Vocabulary}
use Rattle.clause_rules.specs.Steps.{IsReady}
use Rattle.sort_check.specs.declared.line.GivenEntry.{GivenEntry}
use Rattle.prove_out.specs.Unambiguous.{IsUnambiguous}
use Rattle.printed_forms.specs.Lists.{has_no_list_of_one}
use Rattle.printed_forms.specs.Words.{AreNamed, HasWords}
use Rattle.printed_forms.specs.Written.{AreGivenListed}
use Rattle.derivation_items.specs.Typings.{typings_of}
use Rattle.derivation_items.specs.Words.{Text}
use Rattle.derivation_items.specs.declared.line.ProofLine.{ProofLine}
use Rattle.refutation_lines.specs.declared.derivation.Derivation.{Derivation}
use Rattle.limited_items.specs.Limits.{AreWithin}
use Rattle.limited_items.specs.Printed.{IsPrinted}
use Rattle.problem_proofs.specs.Found.{IsFound, vocabulary_of}
use Rattle.problem_proofs.specs.Proved.{IsProved}
use Rattle.problem_proofs.specs.declared.proved.Proved.TheVariants.{Proof}
use Rattle.unambiguous_names.proofs.Whole.{derivation_is}
use Rattle.derivation_sentences.proofs.Room.{few_symbols}
use Rattle.derivation_sentences.proofs.Sorted.{lines_fit}
use Rattle.spelled_items.specs.Writable.{AreWritable, IsWritable}
use Rattle.spelled_items.proofs.DenotedForms.{denoting_written}
use Rattle.spelled_items.proofs.TypeLines.{type_lines_written}
use Rattle.presented_texts.specs.Presented.{SpellsSame}
use Rattle.presented_texts.proofs.Whole.{proof_spells}
use Rattle.tptp_commands.specs.Presented.{proof_text}
use Rattle.writable_lines.specs.Written.{AreListed, CanBeWritten, HasNames, HaveNames}
use Rattle.writable_lines.proofs.Listing.{lines_listed}
use Rattle.writable_lines.proofs.Naming.{derivation_words, lines_named}

-- ---- lines

module _ (file : Text) (w : Vocabulary) (u : IsUnambiguous w) (has : HasWords w) where
  abbrev IsFit : ProofLine → Type 0
  IsFit l = is_sorted w [] l.form ≡ true

  line_written : (l : ProofLine) (item : Item) → IsFit l → HasNames l → has_no_list_of_one l.form ≡ true → IsPrinted file w l item → IsWritable file item
  line_written l item fit names listed printed = record {
    word = l.name;
    formula = printed.formula;
    source = l.source;
    is = printed.is;
    has_word = names.word;
    has_formula = denoting_written w l.form printed.formula has listed (printed.writes.denotes (record { unambiguous = u; sorted = fit; few_variables = printed.few_variables })) printed.writes.numbered;
    flat = printed.flat;
    has_source = names.source;
  }

  lines_written : (lines : List ProofLine) (items : List Item) → AllByRecursion IsFit lines → HaveNames lines → AreListed lines → AllZip (IsPrinted file w) lines items → AreWritable file items
  lines_written [] [] fit names listed printed = tt
  lines_written [] (i ∷ items) fit names listed printed = absurd printed
  lines_written (l ∷ lines) [] fit names listed printed = absurd printed
  lines_written (l ∷ lines) (i ∷ items) fit names listed printed = (line_written l i fit.0 names.0 listed.0 printed.0, lines_written lines items fit.1 names.1 listed.1 printed.1)

-- ---- items

pub items_written : (v : Vocabulary) (given : List GivenEntry) (file : Text) (limit : ℕ) (d : Derivation) (items : List Item) → length given < 2 ^ 64 → limit < 2 ^ 32 → IsUnambiguous v → HasWords v
    → Each (λ (g : GivenEntry). IsReady v g.form) given → AreNamed given → AreGivenListed given → IsFound v given limit d → AreWithin file (vocabulary_of v d) (length v.symbols) given d.lines items → CanBeWritten file items
items_written v given file limit d items few small u has ready named listed found within =
    let w = vocabulary_of v d in
    let room = few_symbols v given limit d found (length w.symbols) within.room in
    let words = derivation_words v given limit d has found room in
    let fit = recursion_from_All (λ (l : ProofLine). is_sorted w [] l.form ≡ true) d.lines (lines_fit v given limit d ready found) in
    let count = within.few in
    record {
      typings = typings_of w (length v.symbols);
      lines = within.printed.of_lines;
      are = within.printed.are;
      few = omega arith;
      types = type_lines_written w (length v.symbols) words;
      each = lines_written file w (derivation_is v given limit d u found room) words d.lines within.printed.of_lines fit (lines_named v given limit d few small named found) (lines_listed v given limit d listed found) within.printed.each;
    }

-- ---- the text

pub derivation_spelled : (file status : Text) (items : List Item) → list_all is_no_line_feed status ≡ true → 0 < length file → CanBeWritten file items → length (canonical_text items) ≤ FILE_SIZE → SpellsSame (proof_text file status items) items
derivation_spelled file status items plain some can small =
    subst (λ (is : List Item). SpellsSame (proof_text file status is) is) (sym can.are)
    (proof_spells file status can.typings can.lines plain some can.few can.types can.each (subst (λ (is : List Item). length (canonical_text is) ≤ FILE_SIZE) can.are small))

pub proof_spelled : (v : Vocabulary) (given : List GivenEntry) (file status : Text) (limit : ℕ) (items : List Item) → length given < 2 ^ 64 → limit < 2 ^ 32 → IsUnambiguous v → HasWords v → Each (λ (g : GivenEntry). IsReady v g.form) given
    → AreNamed given → AreGivenListed given → list_all is_no_line_feed status ≡ true → 0 < length file → length (canonical_text items) ≤ FILE_SIZE → IsProved v given file limit (Proof items) → SpellsSame (proof_text file status items) items
proof_spelled v given file status limit items few small u has ready named listed plain some short proved =
    derivation_spelled file status items plain some (items_written v given file limit proved.0 items few small u has ready named listed proved.1 proved.2.1) short
