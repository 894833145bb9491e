use Rattle.std.proofs.Common.{subst, List, map}
use Rattle.saturation.specs.declared.member.Member.{Member}
use Rattle.saturation.specs.code.Search.{HasJoined}
use Rattle.saturation.proofs.Entries.{joined_by, waiting_with}
use Rattle.saturation.proofs.queue.Queue.push.Goals as goal

pub invariant_of-self-2 : goal.invariant_of-self-2
invariant_of-self-2 c = waiting_with c.self.inside.waiting.entries c.insert-2.new.self.entries c.args.weight c.self.inside.next c.args.member c.in_ok-insert-2.ensures.entries c.requires c.self.invariant

pub returns : goal.returns
returns c =
    subst (λ (q : List Member). HasJoined q (map (λ e. e.1) c.insert-2.new.self.entries) c.args.member) c.self.view_is
    (joined_by c.self.inside.waiting.entries c.insert-2.new.self.entries c.args.weight c.self.inside.next c.args.member c.in_ok-insert-2.ensures.entries c.self.invariant)
