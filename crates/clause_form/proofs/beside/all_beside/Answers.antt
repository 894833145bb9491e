use Rattle.clause_form.proofs.RoomFacts.{parts_beside}
use Rattle.clause_form.proofs.beside.all_beside.Goals as goal

pub returns : goal.returns
returns c = parts_beside c.args.clauses.now c.in_ok-sorts.sorts c.in_ok-lits.lits c.in_ok-sorts.ensures c.in_ok-lits.ensures
