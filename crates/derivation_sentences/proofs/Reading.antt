-- The items that the text of a derivation is read as denote its lines too.
use Rattle.std.proofs.Common.{◌≡◌, ℕ, ◌+◌, List, [], ◌∷◌, ◌++◌, length, map, Ok, refl, sym, ◌∙◌, ap}
use Rattle.std.specs.List.{All as Each, AllZip}
use Rattle.std.proofs.lemmas.List.{map-append}
use Rattle.tptp_base.specs.declared.item.Item.{Item}
use Rattle.tptp_base.specs.declared.item.Typing.{Typing}
use Rattle.fof_terms.specs.Vocabulary.{Vocabulary}
use Rattle.clause_rules.specs.Steps.{IsReady}
use Rattle.canon_print.specs.RoundTrip.{at_place, AreSame}
use Rattle.sort_check.specs.Symbols.{Text}
use Rattle.sort_check.specs.Texts.{denoted}
use Rattle.sort_check.specs.declared.line.GivenEntry.{GivenEntry}
use Rattle.sort_check.specs.declared.line.Line.{Line}
use Rattle.sort_check.specs.declared.line.TextKind.TheVariants as kind
use Rattle.prove_out.specs.Unambiguous.{IsUnambiguous}
use Rattle.derivation_items.specs.Items.{first_place, typing_item, typing_items}
use Rattle.derivation_items.specs.Typings.{typings_of}
use Rattle.derivation_items.specs.declared.line.ProofLine.{ProofLine}
use Rattle.refutation_lines.specs.declared.derivation.Derivation.{Derivation}
use Rattle.limited_items.specs.Limits.{AreWithin}
use Rattle.limited_items.specs.Printed.{ArePrinted, IsPrinted}
use Rattle.problem_proofs.specs.Found.{IsFound, vocabulary_of}
use Rattle.derivation_sentences.specs.Denoted.{denoted_lines, lines_at}
use Rattle.derivation_sentences.proofs.Found.{found_denote}
use Rattle.derivation_sentences.proofs.Placing.{text_moved}

-- ---- the items stand at the first place

typings_stand : (k : ℕ) (ts : List Typing) → map (at_place first_place) (typing_items k ts) ≡ typing_items k ts
typings_stand k [] = refl
typings_stand k (t ∷ ts) = ap (λ (is : List Item). typing_item k t ∷ is) (typings_stand (k + 1) ts)

lines_stand : (file : Text) (v : Vocabulary) (lines : List ProofLine) (items : List Item) → AllZip (IsPrinted file v) lines items → map (at_place first_place) items ≡ items
lines_stand file v [] [] printed = refl
lines_stand file v [] (i ∷ items) printed = absurd printed
lines_stand file v (l ∷ lines) [] printed = absurd printed
lines_stand file v (l ∷ lines) (i ∷ items) printed =
    let one : at_place first_place i ≡ i = ap (at_place first_place) printed.0.is ∙ sym printed.0.is in
    ap (λ (j : Item). j ∷ map (at_place first_place) items) one ∙ ap (λ (is : List Item). i ∷ is) (lines_stand file v lines items printed.1)

items_stand : (file : Text) (v : Vocabulary) (first : ℕ) (lines : List ProofLine) (items : List Item) → ArePrinted file v first lines items → map (at_place first_place) items ≡ items
items_stand file v first lines items printed =
    let types : List Item = typing_items 0 (typings_of v first) in
    ap (map (at_place first_place)) printed.are ∙ map-append (at_place first_place) types printed.of_lines
    ∙ ap (λ (is : List Item). is ++ map (at_place first_place) printed.of_lines) (typings_stand 0 (typings_of v first)) ∙ ap (λ (is : List Item). types ++ is) (lines_stand file v lines printed.of_lines printed.each)
    ∙ sym printed.are

-- ---- what is read

pub read_denote : (v : Vocabulary) (given : List GivenEntry) (file : Text) (limit : ℕ) (d : Derivation) (items others : List Item) → IsUnambiguous v → Each (λ (g : GivenEntry). IsReady v g.form) given → IsFound v given limit d
    → AreWithin file (vocabulary_of v d) (length v.symbols) given d.lines items → AreSame others items
    → (lines : List Line) × (denoted others v kind.Derivation ≡ Ok (lines, vocabulary_of v d)) × (lines_at first_place lines ≡ denoted_lines (length (typings_of (vocabulary_of v d) (length v.symbols))) d.lines)
read_denote v given file limit d items others u ready found within same =
    let lines : List Line = denoted_lines (length (typings_of (vocabulary_of v d) (length v.symbols))) d.lines in
    let moved : map (at_place first_place) others ≡ items = same ∙ items_stand file (vocabulary_of v d) (length v.symbols) d.lines items within.printed in
    let there = ap (λ (is : List Item). denoted is v kind.Derivation) moved ∙ found_denote v given file limit d items u ready found within in
    let read = text_moved first_place others v (vocabulary_of v d) kind.Derivation lines there in
    (read.0, read.1, sym read.2)
