use Rattle.std.proofs.lemmas.Result.{err_from_is_err_and}
use Rattle.tptp_base.proofs.Taken.{prefix_of_more}
use Rattle.derivation_check.proofs.Written.{blank_refused, answer_refused, end_refused, line_taken}
use Rattle.derivation_check.proofs.writing.write_line.Goals as goal

pub returns-in_err-write_name-clause-err : goal.returns-in_err-write_name-clause-err
returns-in_err-write_name-clause-err g c =
    let p = err_from_is_err_and c.from_residual.result c.from_residual.ensures.1 in
    rw p.1 (prefix_of_more _ _ _ _ c.in_err-write_name.ensures.err)

pub returns-in_err-put_all-clause-err : goal.returns-in_err-put_all-clause-err
returns-in_err-put_all-clause-err g c =
    let p = err_from_is_err_and c.from_residual-in_err-put_all.result c.from_residual-in_err-put_all.ensures.1 in
    rw p.1 (blank_refused _ _ _ _ _ c.in_ok-write_name.ensures.ok c.in_err-put_all.ensures.err)

pub returns-in_err-write_answer-clause-err : goal.returns-in_err-write_answer-clause-err
returns-in_err-write_answer-clause-err g c =
    let p = err_from_is_err_and c.from_residual-in_err-write_answer.result c.from_residual-in_err-write_answer.ensures.1 in
    rw p.1 (answer_refused _ _ _ _ c.in_ok-write_name.ensures.ok c.in_ok-put_all.ensures.ok _ _ c.in_err-write_answer.ensures.err)

pub returns-clause-ok : goal.returns-clause-ok
returns-clause-ok g c = line_taken _ _ _ _ c.in_ok-write_name.ensures.ok c.in_ok-put_all.ensures.ok _ _ c.in_ok-write_answer.ensures.ok c.put_all-2.result _ c.put_all-2.ensures.ok

pub returns-clause-err : goal.returns-clause-err
returns-clause-err g c = end_refused _ _ _ _ c.in_ok-write_name.ensures.ok c.in_ok-put_all.ensures.ok _ _ c.in_ok-write_answer.ensures.ok c.put_all-2.result _ c.put_all-2.ensures.err
