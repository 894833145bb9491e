-- Texts spell at most one list of items.
use Rattle.std.proofs.Common.{◌≡◌, ℕ, List, refl, sym, subst}
use Rattle.tptp_base.specs.declared.item.Item.{Item}
use Rattle.tptp_base.specs.declared.place.Region.{Region}
use Rattle.tptp_lexer.specs.declared.style.Style.{Style}
use Rattle.tptp_lexer.specs.Bytes.{Text}
use Rattle.tptp_lexer.specs.Tokenized.{placed}
use Rattle.tptp_lexer.proofs.Cuts.{stuck_end, same_cut}
use Rattle.tptp_grammar.specs.Files.{Spells}
use Rattle.tptp_grammar.specs.Laws.{PartSpells}
use Rattle.tptp_grammar.proofs.Whole.{one_list}

pub one_reading : (style : Style) (file : ℕ) (text : Text) (region : Region) (items others : List Item) → PartSpells style file text region items → PartSpells style file text region others → items ≡ others
one_reading style file text region items others (tokens, end, (k, cut, is), spells) (again, last, (n, other, also), respells) =
    let (lists, ends, rests) = same_cut style (placed file text) cut other refl (stuck_end style) (stuck_end style) in
    one_list style tokens items others spells (subst (Spells style others) (sym lists) respells)
