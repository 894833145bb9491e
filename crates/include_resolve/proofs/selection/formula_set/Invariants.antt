use Rattle.std.proofs.Common.{◌≡◌, take}
use Rattle.std.specs.List.{list_any}
use Rattle.tptp_base.specs.declared.name.Name.{Name}
use Rattle.include_resolve.specs.code.NameSet.{knows}
use Rattle.include_resolve.specs.Selection.{is_named}
use Rattle.include_resolve.proofs.selection.formula_set.Given as goal

abbrev pub invariant-loop-item : goal.invariant-loop-item
invariant-loop-item l = (other : Name) → knows l.set other ≡ list_any (is_named other) (take l.item-index l.items)
