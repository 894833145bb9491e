use Rattle.std.proofs.Common.{List, sym, subst, refl, Ok}
use Rattle.std.specs.declared.option.Option.{Option}
use Rattle.tptp_base.specs.declared.name.Name.{Name}
use Rattle.include_resolve.specs.code.Selecting.{Selects}
use Rattle.include_resolve.proofs.selection.select.Goals as goal

pub returns-in-None : goal.returns-in-None
returns-in-None c = subst (λ (s : Option (List Name)). Selects c.args.file.now s c.args.items (Ok c.args.items)) (sym c.in-None.is) (λ files read. refl)

pub returns-in-Some : goal.returns-in-Some
returns-in-Some c = subst (λ (s : Option (List Name)). Selects c.args.file.now s c.args.items c.select_names.result) (sym c.in-Some.is) (rw c.as_slice.ensures at c.select_names.ensures)
