use Rattle.derivation_check.specs.Cases.{asked_of}
use Rattle.tptp_run.proofs.Verifies.{report_ends, room_said, stops_within}
use Rattle.tptp_run.proofs.verify.answer_on.Goals as goal

pub say_room-requires-clause-within : goal.say_room-requires-clause-within
say_room-requires-clause-within g c =
    stops_within (asked_of c.args.asked.now) c.args.theory.now c.args.derivation.now c.args.signature.now (g.L.Sink.taken c.args.log.now) (g.L.Sink.taken c.check_derivation.new.log) c.in-Err-Room.place (rw c.in-Err-Room.field-0-is at c.in-Err-Room.ensures.cause)

pub returns-in-Err-Room-clause-ends : goal.returns-in-Err-Room-clause-ends
returns-in-Err-Room-clause-ends g c =
    room_said (asked_of c.args.asked.now) c.args.file.now c.args.theory.now c.args.derivation.now c.args.signature.now (g.L.Sink.taken c.args.log.now) (g.L.Sink.taken c.check_derivation.new.log) c.in-Err-Room.place c.say_room.result (rw c.in-Err-Room.field-0-is at c.in-Err-Room.ensures.cause) c.say_room.ensures.said

pub returns-in-Ok-clause-ends : goal.returns-in-Ok-clause-ends
returns-in-Ok-clause-ends g c =
    report_ends (asked_of c.args.asked.now) c.args.file.now c.args.theory.now c.args.derivation.now c.args.signature.now c.answer_of.result (g.L.Sink.taken c.args.log.now) (g.L.Sink.taken c.check_derivation.new.log) c.in-Ok.report c.in-Ok.ensures.checks c.answer_of.ensures.status c.answer_of.ensures.text
