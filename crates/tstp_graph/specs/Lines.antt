-- The lines of a derivation: its formulas but for those of role type, which declare a symbol.
use Rattle.std.specs.Prelude.{◌<◌, Bool, true, false, List, [], ◌∷◌, count_by, Option, None, Some, if◌then◌else◌}
use Rattle.std.specs.Bool.{beq}
use Rattle.tptp_base.specs.declared.name.Name.{Name}
use Rattle.tptp_base.specs.Roles.{is_typing}
use Rattle.tptp_base.specs.declared.item.Annotated.{Annotated}
use Rattle.tptp_base.specs.declared.item.Item.{Item}
use Rattle.tptp_base.specs.declared.item.Item.TheVariants.{Comment, Formula, Include}
use Rattle.tstp_graph.specs.declared.lines.TheConstants.{MOST_FORMULAS}

abbrev pub is_formula : Item → Bool
is_formula (Formula formula) = true
is_formula _ = false

-- the formula that an item is, if it is one and has role type or hasn't
abbrev pub formula_of : Bool → Item → Option Annotated
formula_of is_type (Formula formula) = if beq (is_typing formula.role) is_type then Some formula else None
formula_of is_type (Comment text) = None
formula_of is_type (Include include) = None

-- the name of the formula, before the names of others
abbrev pub with_formula_name : Option Annotated → List Name → List Name
with_formula_name None names = names
with_formula_name (Some formula) names = formula.name ∷ names

-- the names of the formulas that have role type, or of those that haven't
abbrev pub names_in : Bool → List Item → List Name
names_in is_type [] = []
names_in is_type (item ∷ items) = with_formula_name (formula_of is_type item) (names_in is_type items)

-- there are more formulas than a derivation can have
abbrev pub IsOverLimit : List Item → Type 0
IsOverLimit items = MOST_FORMULAS < count_by is_formula items
