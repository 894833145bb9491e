use Rattle.std.proofs.Common.{◌∙◌, get_or, refl, sym}
use Rattle.verifier.specs.Lines.{Line}
use Rattle.verifier.specs.code.Numbered.{derivation_in, progress_of}
use Rattle.verifier.proofs.Derived.{kind_taken}
use Rattle.verifier.proofs.FaultCauses.{call_cause}
use Rattle.verifier.proofs.Knowing.{of_theory, are_ready}
use Rattle.verifier.proofs.LineAnswers.{skips_line, call_takes, call_knows, lacks_room, line_at, room_known, room_lacking, sources_stand}
use Rattle.verifier.proofs.line.run_line.Goals as goal

pub returns-in_default-clause-answered : goal.returns-in_default-clause-answered
returns-in_default-clause-answered g c =
    let d = derivation_in c.args.lines.now in
    let there = line_at d c.args.place c.index-lines-place.result c.index-lines-place-2.result c.requires.within c.requires.same in
    skips_line d (progress_of c.args.theory.now c.args.numbers.now) c.args.place _ c.in_ok-parents.field-0 (g.K.Sink.taken c.args.log.now) there (rw (c.as_slice.ensures, c.as_slice-refs.ensures) at c.in_ok-parents.ensures) c.in_default.is

pub returns-then-not-room-clause-cause : goal.returns-then-not-room-clause-cause
returns-then-not-room-clause-cause g c =
    let d = derivation_in c.args.lines.now in
    let line : Line = record { node = get_or d.nodes c.args.place c.index-lines-place.result; form = get_or d.forms c.args.place c.index-lines-place-2.result } in
    let found = rw (c.as_slice.ensures, c.as_slice-refs.ensures) at c.in_ok-parents.ensures in
    let there = line_at d c.args.place c.index-lines-place.result c.index-lines-place-2.result c.requires.within c.requires.same in (
      refl,
      lacks_room d (progress_of c.args.theory.now c.args.numbers.now) c.args.place _ c.in-Some.parents there (sym found ∙ c.in-Some.is)
          (room_lacking c.in_ok-room.room _ c.args.theory.now d line c.in-Some.parents _ (rw c.signature.ensures at (c.from-symbols.ensures ∙ c.symbol_count.ensures.value)) (rw c.as_slice-2.ensures at c.sources_of-sources.ensures) c.in_ok-room.ensures c.if-not-room.true),
      refl,
      refl,
    )

pub answer_line-requires-clause-sources : goal.answer_line-requires-clause-sources
answer_line-requires-clause-sources g c =
    let d = derivation_in c.args.lines.now in
    let line : Line = record { node = get_or d.nodes c.args.place c.index-lines-place.result; form = get_or d.forms c.args.place c.index-lines-place-2.result } in
    let found = rw (c.as_slice.ensures, c.as_slice-refs.ensures) at c.in_ok-parents.ensures in
    rw (c.sources_of-sources.ensures, c.as_slice-2.ensures) (of_theory c.args.theory.now _ (sources_stand d (progress_of c.args.theory.now c.args.numbers.now) line c.in-Some.parents c.requires.knows (sym found ∙ c.in-Some.is)))

pub answer_line-requires-clause-ready : goal.answer_line-requires-clause-ready
answer_line-requires-clause-ready g c =
    let d = derivation_in c.args.lines.now in
    let line : Line = record { node = get_or d.nodes c.args.place c.index-lines-place.result; form = get_or d.forms c.args.place c.index-lines-place-2.result } in
    let found = rw (c.as_slice.ensures, c.as_slice-refs.ensures) at c.in_ok-parents.ensures in
    rw (c.sources_of-sources.ensures, c.as_slice-2.ensures) (are_ready c.args.theory.now _ (sources_stand d (progress_of c.args.theory.now c.args.numbers.now) line c.in-Some.parents c.requires.knows (sym found ∙ c.in-Some.is)))

pub returns-clause-answered : goal.returns-clause-answered
returns-clause-answered g c =
    let d = derivation_in c.args.lines.now in
    let line : Line = record { node = get_or d.nodes c.args.place c.index-lines-place.result; form = get_or d.forms c.args.place c.index-lines-place-2.result } in
    let found = rw (c.as_slice.ensures, c.as_slice-refs.ensures) at c.in_ok-parents.ensures in
    let there = line_at d c.args.place c.index-lines-place.result c.index-lines-place-2.result c.requires.within c.requires.same in
    call_takes c.take_answer.result d (progress_of c.args.theory.now c.args.numbers.now) c.args.place _ c.in-Some.parents c.in_ok-answer.answer (progress_of c.take_answer.new.theory c.take_answer.new.numbers) _ _ there (sym found ∙ c.in-Some.is)
    (room_known c.in_ok-room.room _ c.args.theory.now d line c.in-Some.parents _ (rw c.signature.ensures at (c.from-symbols.ensures ∙ c.symbol_count.ensures.value)) (rw c.as_slice-2.ensures at c.sources_of-sources.ensures) c.in_ok-room.ensures c.if-not-room.false)
    (rw (c.sources_of-sources.ensures, c.as_slice-2.ensures) at c.in_ok-answer.ensures) c.take_answer.ensures.takes

pub returns-clause-knows : goal.returns-clause-knows
returns-clause-knows g c =
    let d = derivation_in c.args.lines.now in
    let there = line_at d c.args.place c.index-lines-place.result c.index-lines-place-2.result c.requires.within c.requires.same in
    call_knows c.take_answer.result d (progress_of c.args.theory.now c.args.numbers.now) c.args.place _ c.in-Some.parents c.in_ok-answer.answer (progress_of c.take_answer.new.theory c.take_answer.new.numbers) (g.K.Sink.taken c.args.log.now) (g.K.Sink.taken c.take_answer.new.log) there (rw (c.sources_of-sources.ensures, c.as_slice-2.ensures) at c.in_ok-answer.ensures) c.requires.knows c.take_answer.ensures.takes

pub returns-clause-cause : goal.returns-clause-cause
returns-clause-cause g c = call_cause c.take_answer.result _ _ c.take_answer.ensures.cause

pub take_answer-requires-clause-adds : goal.take_answer-requires-clause-adds
take_answer-requires-clause-adds g c =
    let d = derivation_in c.args.lines.now in
    let line : Line = record { node = get_or d.nodes c.args.place c.index-lines-place.result; form = get_or d.forms c.args.place c.index-lines-place-2.result } in
    kind_taken line.node.leaf c.args.theory.now d line.node.cited c.in-Some.parents line.form c.in_ok-answer.answer (rw (c.sources_of-sources.ensures, c.as_slice-2.ensures) at c.in_ok-answer.ensures)
