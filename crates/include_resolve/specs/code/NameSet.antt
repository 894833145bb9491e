-- Sets of names, as the code holds them.
use Rattle.std.specs.Prelude.{ℕ, Bool, false, List, Vec}
use Rattle.std.specs.declared.alloc.Global.{Global}
use Rattle.std.specs.List.{list_any}
use Rattle.std.specs.Str.{bytes_eq}
use Rattle.tptp_base.specs.declared.item.Item.{Item}
use Rattle.tptp_base.specs.declared.item.Item.TheVariants.{Formula}
use Rattle.tptp_base.specs.declared.name.Name.{Name}
use Rattle.tptp_base.specs.declared.name.Name.TheVariants.{Word, Integer}
use Rattle.include_resolve.specs.declared.name_set.NameSet.{NameSet}

-- whether the text is one of these
abbrev pub has : List (Vec ℕ Global) → List ℕ → Bool
has keys text = list_any (λ key. bytes_eq text key.items) keys

-- whether the name is there
abbrev pub knows : NameSet → Name → Bool
knows set (Word text) = has set.words.keys text
knows set (Integer text) = has set.integers.keys text

-- whether the item is a formula of a name that is there
abbrev pub knows_item : NameSet → Item → Bool
knows_item set (Formula formula) = knows set formula.name
knows_item set other = false
