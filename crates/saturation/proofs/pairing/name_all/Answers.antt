use Rattle.std.proofs.Common.{◌∙◌, ◌++◌, ◌∷◌, [], ap}
use Rattle.saturation.specs.declared.member.Member.{Member}
use Rattle.saturation.proofs.Naming.{naming_start, naming_more, naming_end}
use Rattle.saturation.proofs.pairing.name_all.Goals as goal

pub loop-next-init : goal.loop-next-init
loop-next-init c = naming_start c.args.made c.args.first c.args.second c.args.members.now

pub loop-next-preserved : goal.loop-next-preserved
loop-next-preserved c =
    naming_more c.args.made c.loop-next.made c.pop.new.self c.in-Some.next c.args.first c.args.second c.args.members.now c.loop-next.members c.push.new.self c.loop-next.invariant c.in-Some.ensures
    (c.in_ok-push.ensures.ok ∙ ap (λ (m : Member). c.loop-next.members ++ m ∷ []) c.inferred.ensures)

pub returns : goal.returns
returns c = naming_end c.args.made c.loop-next.made c.args.first c.args.second c.args.members.now c.loop-next.members c.loop-next.invariant c.in_default.ensures.0
