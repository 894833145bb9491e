use Rattle.std.proofs.Common.{◌≡◌, List, [], slice_set, sym, ◌∙◌, ap, subst}
use Rattle.std.proofs.lemmas.List.{get_or_read}
use Rattle.tstp_graph.specs.declared.queue.Waiter.{Waiter}
use Rattle.tstp_graph.specs.code.Flags.{flag_at}
use Rattle.tstp_graph.specs.code.Queue.{has_number, waiters_of, IsQueue}
use Rattle.tstp_graph.proofs.Settling.{freed}
use Rattle.tstp_graph.proofs.queue.Queue.free.Goals as goal

pub settle_all-requires-clause-queue : goal.settle_all-requires-clause-queue
settle_all-requires-clause-queue c =
    let taken = flag_at c.args.taken.now in
    let waiting = c.args.self.now.waiting.items in
    let next = slice_set waiting c.args.line c.replace-freed.new.dest in
    let out : c.as_slice.result.now ≡ waiters_of waiting c.args.line =
    c.as_slice.ensures ∙ c.replace-freed.ensures.value ∙ get_or_read waiting c.args.line c.index_mut.result.now c.requires.within c.index_mut.ensures.value [] in
    subst (λ (w : List Waiter). IsQueue c.args.nodes.now taken (has_number w) c.args.self.now.ready next) (sym out)
    (freed c.args.nodes.now taken (has_number (waiters_of waiting c.args.line)) c.args.self.now.ready waiting next c.args.line c.requires.taken (ap (slice_set waiting c.args.line) (c.replace-freed.ensures.after ∙ c.new.ensures)) c.requires.queue)
