use Rattle.std.proofs.Common.{subst, List, map}
use Rattle.saturation.specs.declared.member.Member.{Member}
use Rattle.saturation.specs.code.Search.{IsTaken}
use Rattle.saturation.proofs.Entries.{taken_by, waiting_rest}
use Rattle.saturation.proofs.queue.Queue.pop.Goals as goal

pub invariant_of-self-2 : goal.invariant_of-self-2
invariant_of-self-2 c = waiting_rest c.self.inside.waiting.entries c.pop_first.new.self.entries (c.in_ok-member.field-0-0, c.in_ok-member.member) c.self.inside.next c.in_ok-member.ensures.removal c.self.invariant

pub returns : goal.returns
returns c =
    subst (λ (q : List Member). IsTaken q (map (λ e. e.1) c.pop_first.new.self.entries) c.in_ok-member.member) c.self.view_is
    (taken_by c.self.inside.waiting.entries c.pop_first.new.self.entries (c.in_ok-member.field-0-0, c.in_ok-member.member) c.self.inside.next c.in_ok-member.ensures.removal c.self.invariant c.in_ok-member.ensures.all_above)
