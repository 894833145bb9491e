use Rattle.std.proofs.Common.{rules}
use Rattle.fof_terms.specs.Scope.{scope_sorts}
use Rattle.derive_kit.proofs.Built.{ok_map}
use Rattle.split_defs.proofs.Enclosing.{contradicted_shown}
use Rattle.split_defs.proofs.proving.contradicted.Goals as goal

pub returns : goal.returns
returns c =
    ok_map c.cases.result
    (λ core build formulas h shows denied. contradicted_shown c.args.sig.now (scope_sorts c.args.scope.now) c.args.stages.now c.args.whole.now c.requires.whole c.requires.is_or c.requires.goal formulas h c.in_ok-choice.choice c.in_ok-under.under core c.in_ok-arms.arms (search rules) (c.in_ok-under.ensures formulas shows h) c.in_ok-arms.ensures denied (rw c.new.ensures at build))
    c.cases.ensures
