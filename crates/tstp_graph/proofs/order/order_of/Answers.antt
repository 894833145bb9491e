use Rattle.std.proofs.Common.{◌≡◌, true, slice_set, Some, refl, ◌∙◌}
use Rattle.std.proofs.lemmas.List.{length-set}
use Rattle.tstp_graph.specs.Order.{first_ready}
use Rattle.tstp_graph.specs.code.Flags.{flag_at}
use Rattle.tstp_graph.specs.code.Queue.{no_number, IsQueue}
use Rattle.tstp_graph.proofs.Orders.{goes_on, ends}
use Rattle.tstp_graph.proofs.Queues.{within_flags, loose_after_with, taken_after_with, fewer_left, first_of_queue, none_of_queue}
use Rattle.tstp_graph.proofs.order.order_of.Goals as goal

pub free-requires-clause-loose : goal.free-requires-clause-loose
free-requires-clause-loose c =
    loose_after_with c.args.nodes.now c.take.taken.items c.deref-in-Some.result.now c.take.queue.ready c.take.queue.waiting.items c.next.new.self.waiting.items c.in-Some.number
    c.take.invariant.len c.take.invariant.queue c.in-Some.ensures.some c.deref-in-Some.ensures.value c.in-Some.ensures.waiting

pub free-requires-clause-queue : goal.free-requires-clause-queue
free-requires-clause-queue c =
    taken_after_with c.args.nodes.now c.take.taken.items c.deref-in-Some.result.now c.take.queue.ready c.next.new.self.ready c.take.queue.waiting.items c.next.new.self.waiting.items c.in-Some.number
    c.take.invariant.len c.take.invariant.queue c.in-Some.ensures.some c.in-Some.ensures.rest c.deref-in-Some.ensures.value c.in-Some.ensures.waiting

pub take-smaller : goal.take-smaller
take-smaller c = fewer_left c.args.nodes.now c.take.taken.items c.take.queue.ready c.take.queue.waiting.items c.in-Some.number c.take.invariant.len c.take.invariant.queue c.in-Some.ensures.some

pub take-preserved : goal.take-preserved
take-preserved c =
    let first : first_ready (flag_at c.take.taken.items) 0 c.args.nodes.now ≡ Some c.in-Some.number = first_of_queue c.args.nodes.now (flag_at c.take.taken.items) c.take.queue.ready c.take.queue.waiting.items c.in-Some.number c.take.invariant.queue c.in-Some.ensures.some c.in-Some.ensures.least in
    let within = within_flags c.args.nodes.now c.take.taken.items c.take.queue.ready c.take.queue.waiting.items c.in-Some.number c.take.invariant.len c.take.invariant.queue c.in-Some.ensures.some in
    let queue : IsQueue c.args.nodes.now (flag_at c.deref-in-Some.result.now) no_number c.free.new.self.ready c.free.new.self.waiting.items = c.in_ok-free.ensures in
    record {
      so_far = goes_on c.args.nodes.now c.take.taken.items (slice_set c.take.taken.items c.in-Some.number true) c.take.order c.push.new.self c.in-Some.number c.take.invariant.so_far within first refl c.in_ok-push.ensures.ok;
      len = length-set c.take.taken.items c.in-Some.number true ∙ c.take.invariant.len;
      queue = rw c.deref-in-Some.ensures.value at queue;
    }

pub returns-clause-order : goal.returns-clause-order
returns-clause-order c = ends c.args.nodes.now c.take.taken.items c.take.order c.take.invariant.so_far (none_of_queue c.args.nodes.now (flag_at c.take.taken.items) c.take.queue.ready c.take.queue.waiting.items c.take.invariant.queue c.in_default.ensures.none)
