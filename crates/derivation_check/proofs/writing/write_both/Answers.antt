use Rattle.std.proofs.lemmas.Result.{err_from_is_err_and}
use Rattle.tptp_base.proofs.Taken.{prefix_of_more}
use Rattle.derivation_check.proofs.Written.{both_taken, second_refused}
use Rattle.derivation_check.proofs.writing.write_both.Goals as goal

pub returns-in_err-put_all-clause-err : goal.returns-in_err-put_all-clause-err
returns-in_err-put_all-clause-err g c =
    let p = err_from_is_err_and c.from_residual.result c.from_residual.ensures.1 in
    rw p.1 (prefix_of_more _ _ _ _ c.in_err-put_all.ensures.err)

pub returns-clause-ok : goal.returns-clause-ok
returns-clause-ok g c = both_taken c.put_all-2.result _ _ _ _ _ c.in_ok-put_all.ensures.ok c.put_all-2.ensures.ok

pub returns-clause-err : goal.returns-clause-err
returns-clause-err g c = second_refused c.put_all-2.result _ _ _ _ _ c.in_ok-put_all.ensures.ok c.put_all-2.ensures.err
