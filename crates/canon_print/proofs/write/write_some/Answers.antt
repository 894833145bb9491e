use Rattle.std.proofs.Common.{arith}
use Rattle.std.proofs.lemmas.Result.{err_from_is_err_and}
use Rattle.tptp_lexer.specs.Quotes.{single_quote}
use Rattle.canon_print.specs.Words.{escaped}
use Rattle.canon_print.proofs.Written.{first_piece_refused, run_taken, run_refused}
use Rattle.canon_print.proofs.write.write_some.Goals as goal

pub returns-in_err-write_escaped-clause-err : goal.returns-in_err-write_escaped-clause-err
returns-in_err-write_escaped-clause-err g c =
    let p = err_from_is_err_and c.from_residual.result c.from_residual.ensures.1 in
    rw p.1 (first_piece_refused (escaped single_quote) _ _ c.args.chars.now c.requires c.in_err-write_escaped.ensures.err)

pub returns-in_err-put_all-clause-err : goal.returns-in_err-put_all-clause-err
returns-in_err-put_all-clause-err g c =
    let p = err_from_is_err_and c.from_residual-in_err-put_all.result c.from_residual-in_err-put_all.ensures.1 in
    rw p.1 (run_refused single_quote _ _ c.args.chars.now c.plain_len-plain.result (omega (arith, c.plain_len-plain.ensures.value)) c.in_err-put_all.ensures.err)

pub returns-in_ok-put_all-clause-ok : goal.returns-in_ok-put_all-clause-ok
returns-in_ok-put_all-clause-ok g c = run_taken single_quote _ _ c.args.chars.now c.plain_len-plain.result (omega (arith, c.plain_len-plain.ensures.value)) c.in_ok-put_all.ensures.ok
