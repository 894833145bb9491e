-- The canonical text spells nothing else.
use Rattle.std.proofs.Common.{◌≡◌, ℕ, List, refl, sym, subst}
use Rattle.tptp_base.specs.declared.item.Item.{Item}
use Rattle.tptp_lexer.specs.declared.style.Style.{Style}
use Rattle.tptp_lexer.specs.Bytes.{Text}
use Rattle.tptp_lexer.specs.Tokenized.{placed}
use Rattle.tptp_lexer.proofs.Cuts.{same_cut, stuck_end}
use Rattle.tptp_grammar.specs.Files.{Spells}
use Rattle.tptp_grammar.proofs.Whole.{one_list}
use Rattle.canon_print.specs.Canonical.{canonical_text}
use Rattle.canon_print.specs.RoundTrip.{TextSpells, AreSame}
use Rattle.canon_print.proofs.FilesShown.{read_again, same_text}

-- a text spells one list of items
pub one_reading : (style : Style) (file limit more : ℕ) (items others : List Item) (text : Text) → TextSpells style file limit items text → TextSpells style file more others text → items ≡ others
one_reading style file limit more items others text (tokens, end, cut, (us, spells, within)) (found, stop, also, (them, read, fits)) =
    let same : tokens ≡ found = (same_cut style (placed file text) cut also refl (stuck_end style) (stuck_end style)).0 in
    one_list style tokens items others (us, spells) (subst (Spells style others) (sym same) (them, read))

pub read_only : (style : Style) (file limit more : ℕ) (items others : List Item) (text : Text) → TextSpells style file limit items text → TextSpells style file more others (canonical_text items) → AreSame others items × (canonical_text others ≡ canonical_text items)
read_only style file limit more items others text spelled again =
    let (found, same, spells) = read_again style file limit items text spelled in
    let is : found ≡ others = one_reading style file limit more found others (canonical_text items) spells again in
    let also : AreSame others items = subst (λ (l : List Item). AreSame l items) is same in
    (also, same_text others items also)
