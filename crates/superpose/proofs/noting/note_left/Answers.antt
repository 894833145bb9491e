use Rattle.std.proofs.Common.{◌+◌, List, subst}
use Rattle.std.proofs.lemmas.List.{take_rest}
use Rattle.std.proofs.lemmas.Result.{on_ok_weaker}
use Rattle.clause_form.specs.declared.clause.Lit.{Lit}
use Rattle.superpose.specs.code.Noted.{IsNoted, LitInstancesStay}
use Rattle.superpose.proofs.NotedFacts.{noted_left}
use Rattle.superpose.proofs.noting.note_left.Goals as goal

pub returns : goal.returns
returns c =
    let behind = subst (λ (xs : List Lit). IsNoted c.args.count c.note_lits.new.noted c.note_lits-2.new.noted (LitInstancesStay c.args.images.now xs)) (take_rest c.args.lits.now (c.args.at + 1)) c.in_ok-note_lits-2.ensures in
    on_ok_weaker c.note_lits-3.result
    (noted_left c.args.count c.args.noted.now c.note_lits.new.noted c.note_lits-2.new.noted c.note_lits-3.new.noted c.args.images.now c.args.lits.now c.args.rest.now c.args.at c.in_ok-note_lits.ensures behind) c.note_lits-3.ensures
