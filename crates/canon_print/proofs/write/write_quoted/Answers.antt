use Rattle.std.proofs.lemmas.Result.{err_from_is_err_and}
use Rattle.canon_print.proofs.Written.{first_refused, chars_refused, last_refused}
use Rattle.canon_print.proofs.write.write_quoted.Goals as goal

pub returns-in_err-put_all-clause-err : goal.returns-in_err-put_all-clause-err
returns-in_err-put_all-clause-err g c =
    let p = err_from_is_err_and c.from_residual.result c.from_residual.ensures.1 in
    rw p.1 (first_refused _ _ _ _ c.in_err-put_all.ensures.err)

pub returns-in_err-write_chars-clause-err : goal.returns-in_err-write_chars-clause-err
returns-in_err-write_chars-clause-err g c =
    let p = err_from_is_err_and c.from_residual-in_err-write_chars.result c.from_residual-in_err-write_chars.ensures.1 in
    rw p.1 (chars_refused _ _ _ _ _ c.in_ok-put_all.ensures.ok c.in_err-write_chars.ensures.err)

pub returns-clause-err : goal.returns-clause-err
returns-clause-err g c = last_refused c.put_all-2.result _ _ _ _ _ _ c.in_ok-put_all.ensures.ok c.in_ok-write_chars.ensures.ok c.put_all-2.ensures.err
