use Rattle.std.proofs.Common.{◌≡◌, take}
use Rattle.std.specs.List.{list_any}
use Rattle.tptp_base.specs.declared.name.Name.{Name}
use Rattle.include_resolve.specs.code.NameSet.{knows}
use Rattle.include_resolve.specs.Selection.{is_same_name}
use Rattle.include_resolve.proofs.selection.set_of.Given as goal

abbrev pub invariant-loop-name : goal.invariant-loop-name
invariant-loop-name l = (other : Name) → knows l.set other ≡ list_any (is_same_name other) (take l.name-index l.names)
