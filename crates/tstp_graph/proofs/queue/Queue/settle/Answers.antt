use Rattle.std.proofs.Common.{refl, List, sym, ◌∙◌, ap, subst}
use Rattle.std.specs.List.{list_all}
use Rattle.std.proofs.lemmas.Result.{on_ok_weaker}
use Rattle.tstp_graph.specs.declared.shape.Ref.{Ref}
use Rattle.tstp_graph.specs.declared.queue.Waiter.{Waiter}
use Rattle.tstp_graph.specs.Order.{is_done}
use Rattle.tstp_graph.specs.code.Flags.{flag_at}
use Rattle.tstp_graph.specs.code.Queue.{IsMissing}
use Rattle.tstp_graph.proofs.Settling.{settled_ready_with, settled_waits_with}
use Rattle.tstp_graph.proofs.queue.Queue.settle.Goals as goal

pub returns-in-None : goal.returns-in-None
returns-in-None c =
    let taken = flag_at c.args.taken.now in
    let done = ap (list_all (is_done taken)) (sym c.as_slice-parents.ensures) ∙ c.in-None.ensures in
    on_ok_weaker c.add.result (λ updates. settled_ready_with c.args.nodes.now taken c.args.self.now.ready c.add.new.self.ready c.args.self.now.waiting.items c.add.new.self.waiting.items c.args.waiter c.index-nodes-waiter.result
    c.requires done updates c.add.ensures.waiting) c.add.ensures.ready

pub returns-in-Some : goal.returns-in-Some
returns-in-Some c =
    let taken = flag_at c.args.taken.now in
    let later : Waiter = record { number = c.args.waiter.number; place = c.in-Some.field-0.place } in
    let found = subst (λ (parents : List Ref). IsMissing parents taken c.in-Some.field-0) c.as_slice-parents.ensures c.in-Some.ensures in
    on_ok_weaker c.wait.result (λ adds. settled_waits_with c.args.nodes.now taken c.args.self.now.ready c.wait.new.self.ready c.args.self.now.waiting.items c.wait.new.self.waiting.items c.args.waiter later c.in-Some.field-0 c.index-nodes-waiter.result
    c.requires found refl refl adds c.wait.ensures.ready) c.wait.ensures.waiting
