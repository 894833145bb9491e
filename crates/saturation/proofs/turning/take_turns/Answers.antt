use Rattle.std.proofs.Common.{arith, sym, subst, ◌∙◌, ◌≡◌, ◌<◌, [], List, Some, None, length}
use Rattle.std.proofs.lemmas.Result.{IfOk-weaker}
use Rattle.saturation.specs.declared.member.Member.{Member}
use Rattle.saturation.specs.Members.{clauses_of}
use Rattle.saturation.specs.code.Search.{IsUnderWay}
use Rattle.saturation.specs.code.Steps.{AnswersAs}
use Rattle.saturation.proofs.Turns.{next_as, next_found, answers_full_next, next_turn, refuted_turn}
use Rattle.saturation.proofs.turning.take_turns.Goals as goal

pub returns-then-len-limit : goal.returns-then-len-limit
returns-then-len-limit g c =
    let turn = c.turns.invariant.turn in
    let whole = g.I.Partners.is_whole c.args.literals.now in
    let next = next_as c.args.signature.now whole c.args.inputs.now c.turns.list c.as_slice.result.now c.turns.queue c.next_open.new.queue c.turns.heavy c.in_ok-next.field-0 (Some c.in-Some.next) c.as_slice.ensures turn.under_way c.in_ok-next.ensures c.in-Some.is in
    let within = turn.within in
    let many = c.len.ensures in
    let over = c.if-len-limit.true in
    let full : length c.turns.list ≡ c.args.limit = omega arith in
    answers_full_next c.args.signature.now whole c.args.inputs.now c.args.limit c.turns.list c.next_open.new.queue c.turns.heavy c.in-Some.next full turn.kept next

pub take_turn-requires-clause-next_clause : goal.take_turn-requires-clause-next_clause
take_turn-requires-clause-next_clause g c =
    let turn = c.turns.invariant.turn in
    let whole = g.I.Partners.is_whole c.args.literals.now in
    let next = next_as c.args.signature.now whole c.args.inputs.now c.turns.list c.as_slice.result.now c.turns.queue c.next_open.new.queue c.turns.heavy c.in_ok-next.field-0 (Some c.in-Some.next) c.as_slice.ensures turn.under_way c.in_ok-next.ensures c.in-Some.is in
    (next_found c.args.signature.now whole c.args.inputs.now (clauses_of c.turns.list) c.next_open.new.queue c.turns.heavy c.in-Some.next next).clause

pub returns-in-Some-2 : goal.returns-in-Some-2
returns-in-Some-2 g c =
    let turn = c.turns.invariant.turn in
    let whole = g.I.Partners.is_whole c.args.literals.now in
    let next = next_as c.args.signature.now whole c.args.inputs.now c.turns.list c.as_slice.result.now c.turns.queue c.next_open.new.queue c.turns.heavy c.in_ok-next.field-0 (Some c.in-Some.next) c.as_slice.ensures turn.under_way c.in_ok-next.ensures c.in-Some.is in
    let many = c.len.ensures in
    let under = c.if-len-limit.false in
    let room : length c.turns.list < c.args.limit = omega arith in
    refuted_turn c.args.signature.now whole c.args.inputs.now c.args.limit c.turns.list c.turns.known c.turns.queue c.turns.heavy turn c.next_open.new.queue c.in-Some.next next room c.heaviest_allowed-bound.result c.turns.invariant.bound
    (g.I.Partners.is_whole c.turns.literals) c.turns.invariant.literals c.take_turn.new.list c.take_turn.new.known c.take_turn.new.queue c.take_turn.new.heavy c.in_ok-empty.field-0 c.in_ok-empty.ensures.turn c.in-Some-2.empty
    c.in-Some-2.is

pub turns-preserved : goal.turns-preserved
turns-preserved g c =
    let turn = c.turns.invariant.turn in
    let whole = g.I.Partners.is_whole c.args.literals.now in
    let next = next_as c.args.signature.now whole c.args.inputs.now c.turns.list c.as_slice.result.now c.turns.queue c.next_open.new.queue c.turns.heavy c.in_ok-next.field-0 (Some c.in-Some.next) c.as_slice.ensures turn.under_way c.in_ok-next.ensures c.in-Some.is in
    let many = c.len.ensures in
    let under = c.if-len-limit.false in
    let room : length c.turns.list < c.args.limit = omega arith in
    record {
      turn = next_turn c.args.signature.now whole c.args.inputs.now c.args.limit c.turns.list c.turns.known c.turns.queue c.turns.heavy turn c.next_open.new.queue c.in-Some.next next room c.heaviest_allowed-bound.result c.turns.invariant.bound
          (g.I.Partners.is_whole c.turns.literals) c.turns.invariant.literals c.take_turn.new.list c.take_turn.new.known c.take_turn.new.queue c.take_turn.new.heavy c.in_ok-empty.field-0 c.in_ok-empty.ensures.turn c.in_default-2.is;
      literals = c.take_turn.ensures.literals ∙ c.turns.invariant.literals;
      terms = c.take_turn.ensures.terms ∙ c.turns.invariant.terms;
      entered = λ is. c.in_ok-empty.ensures.entered (c.turns.invariant.literals ∙ is);
      bound = c.turns.invariant.bound;
    }

pub returns : goal.returns
returns g c =
    let turn = c.turns.invariant.turn in
    let whole = g.I.Partners.is_whole c.args.literals.now in
    let rests = next_as c.args.signature.now whole c.args.inputs.now c.turns.list c.as_slice.result.now c.turns.queue c.next_open.new.queue c.turns.heavy c.in_ok-next.field-0 None c.as_slice.ensures turn.under_way c.in_ok-next.ensures c.in_default.is in
    let lent = subst (λ (h : List Member). IsUnderWay c.args.signature.now whole c.args.inputs.now (clauses_of c.turns.list) [] [] h) (sym c.as_slice-3.ensures) rests in
    IfOk-weaker c.at_end.result _ (AnswersAs c.args.signature.now whole c.args.inputs.now c.args.limit) (λ o h. h whole c.args.inputs.now lent turn.kept) c.at_end.ensures
