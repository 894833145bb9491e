-- The items of a derivation that is found denote its lines.
use Rattle.std.proofs.Common.{◌≡◌, ℕ, true, List, [], length, Ok}
use Rattle.std.specs.List.{All as Each}
use Rattle.std.proofs.lemmas.List.Elements.{recursion_from_All}
use Rattle.tptp_base.specs.declared.item.Item.{Item}
use Rattle.fof_terms.specs.Sorts.{is_sorted}
use Rattle.fof_terms.specs.Vocabulary.{Vocabulary}
use Rattle.clause_rules.specs.Steps.{IsReady}
use Rattle.sort_check.specs.Symbols.{Text}
use Rattle.sort_check.specs.Texts.{denoted}
use Rattle.sort_check.specs.declared.line.GivenEntry.{GivenEntry}
use Rattle.sort_check.specs.declared.line.TextKind.TheVariants as kind
use Rattle.prove_out.specs.Unambiguous.{IsUnambiguous}
use Rattle.derivation_items.specs.Typings.{typings_of}
use Rattle.derivation_items.specs.declared.line.ProofLine.{ProofLine}
use Rattle.refutation_lines.specs.declared.derivation.Derivation.{Derivation}
use Rattle.limited_items.specs.Limits.{AreWithin}
use Rattle.problem_proofs.specs.Found.{IsFound, vocabulary_of}
use Rattle.derivation_sentences.specs.Denoted.{denoted_lines}
use Rattle.derivation_sentences.proofs.Room.{few_symbols}
use Rattle.derivation_sentences.proofs.Sorted.{lines_fit}
use Rattle.derivation_sentences.proofs.Whole.{items_denote}

pub found_denote : (v : Vocabulary) (given : List GivenEntry) (file : Text) (limit : ℕ) (d : Derivation) (items : List Item) → IsUnambiguous v → Each (λ (g : GivenEntry). IsReady v g.form) given → IsFound v given limit d
    → AreWithin file (vocabulary_of v d) (length v.symbols) given d.lines items
    → denoted items v kind.Derivation ≡ Ok (denoted_lines (length (typings_of (vocabulary_of v d) (length v.symbols))) d.lines, vocabulary_of v d)
found_denote v given file limit d items u ready found within =
    items_denote v given limit d u ready found (few_symbols v given limit d found (length (vocabulary_of v d).symbols) within.room) file d.lines items
    (recursion_from_All (λ (l : ProofLine). is_sorted (vocabulary_of v d) [] l.form ≡ true) d.lines (lines_fit v given limit d ready found)) within.printed
