-- A text spells fewer than 2^32 items.
use Rattle.std.proofs.Common.{◌≡◌, ◌≤◌, ◌<◌, ◌^◌, ◌-◌, ℕ, ◌+◌, List, [], ◌∷◌, ◌++◌, length, arith, length-append, slice_range, drop, Ok}
use Rattle.std.proofs.lemmas.List.{length-take, length-drop}
use Rattle.tptp_base.specs.declared.item.Item.{Item}
use Rattle.tptp_base.specs.declared.read.TheConstants.{FILE_SIZE}
use Rattle.tptp_base.specs.declared.place.Region.{Region}
use Rattle.tptp_lexer.specs.declared.style.Style.{Style}
use Rattle.tptp_lexer.specs.declared.token.Token.{Token}
use Rattle.tptp_lexer.specs.declared.token.Tokens.{Tokens as Placed_tokens}
use Rattle.tptp_lexer.specs.Tokenized.{Cut, here, after_blank, after_token}
use Rattle.tptp_lexer.proofs.Sound.{spelled_some}
use Rattle.tptp_grammar.specs.Files.{Through, last_token, dropped, token, IsFile, end_of_file, comment, input}
use Rattle.tptp_grammar.specs.Solid.{Placed}
use Rattle.tptp_grammar.specs.Tokens.{Tokens}
use Rattle.szs_report.specs.Region.{region_of}
use Rattle.tptp_grammar.specs.Texts.{IsParsed}
use Rattle.derivation_text.specs.Texts.{IsRegionLexed, RegionSpells}

cut_few : {T : Type 0} {style : Style} {item : Token → ℕ → T} {at end : ℕ} {text rest : List ℕ} {items : List T} → Cut style item at text items end rest → length items ≤ length text
cut_few here = omega arith
cut_few (after_blank h more) = let few = cut_few more in omega (arith, few)
cut_few (after_token spelling {text = text} spelled longest more) =
    let few = cut_few more in
    let some = spelled_some spelled in
    omega (arith, few, some, length-append spelling text)

through_few : {ts rest : List Placed} {us mid : Tokens} → Through ts rest us mid → length rest ≤ length ts
through_few (last_token h) = omega arith
through_few (dropped more) = let few = through_few more in omega (arith, few)
through_few (token h more) = let few = through_few more in omega (arith, few)

file_few : {style : Style} {items : List Item} {ts : List Placed} {us : Tokens} → IsFile style items ts us → length items ≤ length ts
file_few end_of_file = omega arith
file_few (comment more) = let few = file_few more in omega (arith, few)
file_few (input is through more) = let few = file_few more in let less = through_few through in omega (arith, few, less)

part_few : (text : List ℕ) (from to : ℕ) → length (slice_range text from to) ≤ to - from
part_few text from to = omega (arith, length-take (to - from) (drop from text), length-drop from text)

pub few_items : (text : List ℕ) (tokens : Placed_tokens) (items : List Item) → IsRegionLexed text (Ok tokens) → IsParsed tokens (Ok items) → length items < 2 ^ 32
few_items text tokens items (fits, same, (offset, cut, end)) (us, file, within) =
    let bytes = cut_few cut in
    let entries = file_few file in
    omega (arith, bytes, entries, fits, part_few text (region_of text).start (region_of text).end)
