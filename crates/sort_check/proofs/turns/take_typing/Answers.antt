use Rattle.std.proofs.Common.{◌∷◌, [], ◌++◌, Option, subst}
use Rattle.sort_check.specs.declared.fault.SortFault.{SortFault}
use Rattle.sort_check.specs.code.Turns.{AreTypedOr}
use Rattle.sort_check.proofs.Turning.{typing_goes}
use Rattle.sort_check.proofs.turns.take_typing.Goals as goal

pub returns-in-None-clause-stands : goal.returns-in-None-clause-stands
returns-in-None-clause-stands c =
    let items = c.args.seen.now.items in
    let x = c.args.item.now in
    let n = c.take_declaration.new.progress in
    let after = c.take_declaration.new.namesakes in
    typing_goes items x c.args.progress.now n c.args.namesakes after c.requires.stands c.requires.no_line
    (subst (λ (o : Option SortFault). AreTypedOr (items ++ x ∷ []) n after o) c.in-None.is c.in_ok-fault.ensures.typed)
    c.take_declaration.ensures.same
