use Rattle.superpose.proofs.NamedFacts.{named_more}
use Rattle.superpose.proofs.naming.names_of.Goals as goal

pub loop-at-preserved : goal.loop-at-preserved
loop-at-preserved c =
    named_more c.args.scope.now c.args.kept.now c.loop-at.kept c.name_of.new.kept c.loop-at.at c.loop-at.images c.push.new.self c.in_ok-name.name c.loop-at.invariant c.in_ok-name.ensures c.in_ok-push.ensures.ok
