-- What the part of a text that holds a derivation spells, but for where the items stand.
use Rattle.std.specs.Prelude.{ℕ, List}
use Rattle.tptp_base.specs.declared.item.Item.{Item}
use Rattle.canon_print.specs.RoundTrip.{AreSame}
use Rattle.derivation_text.specs.Texts.{RegionSpells}

-- it spells the same items but for their places, nested no deeper than the limit
abbrev pub SpellsSame : List ℕ → List Item → Type 0
SpellsSame text items = (again : List Item) × AreSame again items × RegionSpells text again
