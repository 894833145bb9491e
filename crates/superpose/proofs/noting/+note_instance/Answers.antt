use Rattle.std.proofs.Common.{◌≡◌, ◌+◌, take, length, refl}
use Rattle.std.proofs.lemmas.Option.{slice_get_read, slice_get_past}
use Rattle.std.proofs.lemmas.Result.{on_ok_weaker}
use Rattle.fof_terms.specs.declared.term.Term.{Var as Variable}
use Rattle.superpose.specs.code.Noted.{StaysWith, InstanceStays, InstancesStay}
use Rattle.superpose.proofs.NotedFacts.{noted_as, noted_then, given_image, no_image, app_image, instance_more}
use Rattle.superpose.proofs.noting.+note_instance.Goals as goal

pub note_instance-returns-in-Some : goal.note_instance-returns-in-Some
note_instance-returns-in-Some t c =
    on_ok_weaker c.note_term.result
    (noted_as c.args.count c.args.noted.now c.note_term.new.noted (StaysWith c.in-Some.image.now) (InstanceStays c.args.images.now c.args.term.now)
    (λ s. given_image c.args.images.now c.args.term.now c.in-Var.variable c.in-Some.image.now s c.in-Var.is (slice_get_read c.args.images.now (length c.args.images.now) c.in-Var.variable c.in-Some.image.now refl c.in-Some.ensures.lookup.3.0 c.in-Some.ensures.lookup.1))) c.note_term.ensures

pub note_instance-returns-in-None : goal.note_instance-returns-in-None
note_instance-returns-in-None t c =
    on_ok_weaker c.note.result
    (noted_as c.args.count c.args.noted.now c.note.new.noted (λ s. s c.in-Var.variable ≡ Variable c.in-Var.variable) (InstanceStays c.args.images.now c.args.term.now)
    (λ s. no_image c.args.images.now c.args.term.now c.in-Var.variable s c.in-Var.is (slice_get_past c.args.images.now c.in-Var.variable c.in-None.ensures.lookup.3))) c.note.ensures

pub note_instance-returns-in-App : goal.note_instance-returns-in-App
note_instance-returns-in-App t c =
    on_ok_weaker c.note_instances.result
    (noted_as c.args.count c.args.noted.now c.note_instances.new.noted (InstancesStay c.args.images.now c.as_slice.result.now) (InstanceStays c.args.images.now c.args.term.now)
    (λ s. app_image c.args.images.now c.args.term.now c.in-App.field-0 c.in-App.args c.as_slice.result.now s c.in-App.is c.as_slice.ensures)) c.note_instances.ensures

pub note_instances-loop-term-preserved : goal.note_instances-loop-term-preserved
note_instances-loop-term-preserved t c =
    noted_then c.args.count c.args.noted.now c.loop-term.noted c.note_instance.new.noted (InstancesStay c.args.images.now (take c.loop-term.term-index c.args.terms.now)) (InstanceStays c.args.images.now c.term-item.result)
    (InstancesStay c.args.images.now (take (c.loop-term.term-index + 1) c.args.terms.now))
    (λ s. instance_more c.args.images.now c.args.terms.now c.loop-term.term-index c.term-item.result s c.loop-term-test.true c.term-item.is) c.loop-term.invariant c.in_ok-note_instance.ensures
