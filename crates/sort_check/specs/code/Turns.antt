-- Which items are type lines and which are other formulas, and what a further type line gives, as private contracts say
-- it.
use Rattle.std.specs.Prelude.{Bool, false, not, List, Option, Some, None}
use Rattle.tptp_base.specs.declared.item.Item.{Item}
use Rattle.tptp_base.specs.declared.item.Item.TheVariants as it
use Rattle.tptp_base.specs.Roles.{is_typing}
use Rattle.sort_check.specs.declared.fault.SortFault.{SortFault}
use Rattle.sort_check.specs.declared.namesakes.Namesakes.{Namesakes}
use Rattle.sort_check.specs.declared.progress.Progress.{Progress}
use Rattle.sort_check.specs.Stages.{AreTyped, AreMistyped}

abbrev pub is_type_item : Item → Bool
is_type_item (it.Formula a) = is_typing a.role
is_type_item (it.Comment text) = false
is_type_item (it.Include i) = false

-- a formula that is no type line
abbrev pub is_line_item : Item → Bool
is_line_item (it.Formula a) = not (is_typing a.role)
is_line_item (it.Comment text) = false
is_line_item (it.Include i) = false

-- the type lines of the items declare what stands in progress, or one has this fault, the first one
abbrev pub AreTypedOr : List Item → Progress → Namesakes → Option SortFault → Type 0
AreTypedOr items p namesakes None = AreTyped items p namesakes
AreTypedOr items p namesakes (Some fault) = AreMistyped items fault
