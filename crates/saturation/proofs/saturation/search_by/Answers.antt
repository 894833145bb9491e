use Rattle.std.proofs.Common.{[]}
use Rattle.std.proofs.lemmas.Result.{IfOk-weaker}
use Rattle.saturation.specs.Ends.{EndsWith, HasFitMembers, HasOrigins, KeepsLimit, NamesOnes}
use Rattle.saturation.specs.code.Steps.{AnswersAs}
use Rattle.saturation.proofs.Turns.{start_as, sift_none, sift_some, refuted_at_start}
use Rattle.saturation.proofs.saturation.search_by.Goals as goal

pub returns-in-Some : goal.returns-in-Some
returns-in-Some g c =
    let whole = g.I.Partners.is_whole c.args.literals.now in
    let start = start_as c.args.signature.now whole c.args.inputs.now c.in_ok-todo.todo c.new-queue.result c.new-heavy.result c.in_ok-todo.ensures c.requires.clauses c.new-queue.ensures c.new-heavy.ensures in
    let found = sift_some c.args.signature.now whole c.args.inputs.now [] c.in_ok-todo.todo c.new-queue.result c.new-heavy.result c.sift.new.queue c.sift.new.heavy c.heaviest_allowed-bound.result c.in_ok-empty.field-0 c.in-Some.empty
    c.in_ok-empty.ensures c.in-Some.is c.heaviest_allowed-bound.ensures start in
    let a = refuted_at_start c.args.signature.now whole c.args.inputs.now c.args.limit c.new.result c.in_ok-todo.todo c.new-queue.result c.new-heavy.result c.in-Some.empty c.new.ensures start found in
    record { limit = a.keeps; origins = a.origins; fit = a.fit; whole = a.ends; blind = a.alone }

pub take_turns-requires-clause-under_way : goal.take_turns-requires-clause-under_way
take_turns-requires-clause-under_way g c =
    let whole = g.I.Partners.is_whole c.args.literals.now in
    let start = start_as c.args.signature.now whole c.args.inputs.now c.in_ok-todo.todo c.new-queue.result c.new-heavy.result c.in_ok-todo.ensures c.requires.clauses c.new-queue.ensures c.new-heavy.ensures in
    sift_none c.args.signature.now whole c.args.inputs.now [] c.in_ok-todo.todo c.new-queue.result c.new-heavy.result c.sift.new.queue c.sift.new.heavy c.heaviest_allowed-bound.result c.in_ok-empty.field-0
    c.in_ok-empty.ensures c.in_default.is c.heaviest_allowed-bound.ensures start

pub returns : goal.returns
returns g c =
    let whole = g.I.Partners.is_whole c.args.literals.now in
    let answers = AnswersAs c.args.signature.now whole c.args.inputs.now c.args.limit in
    record {
      limit = IfOk-weaker c.take_turns.result answers (KeepsLimit c.args.limit) (λ o a. a.keeps) c.take_turns.ensures;
      origins = IfOk-weaker c.take_turns.result answers (HasOrigins c.args.signature.now c.args.inputs.now) (λ o a. a.origins) c.take_turns.ensures;
      fit = IfOk-weaker c.take_turns.result answers (HasFitMembers c.args.signature.now) (λ o a. a.fit) c.take_turns.ensures;
      whole = λ is. IfOk-weaker c.take_turns.result answers (EndsWith c.args.signature.now c.args.inputs.now c.args.limit) (λ o a. a.ends is) c.take_turns.ensures;
      blind = λ is. IfOk-weaker c.take_turns.result answers NamesOnes (λ o a. a.alone is) c.take_turns.ensures;
    }
