use Rattle.std.proofs.Common.{◌≡◌, ◌-◌, length, take, drop, ap, arith, length-drop}
use Rattle.std.proofs.lemmas.List.{take_all}
use Rattle.std.proofs.lemmas.Result.{err_from_is_err_and}
use Rattle.tptp_lexer.specs.Quotes.{single_quote}
use Rattle.canon_print.specs.Words.{escaped}
use Rattle.canon_print.proofs.Written.{more_pieces, pieces_refused}
use Rattle.canon_print.proofs.write.write_chars.Goals as goal

pub returns-in_err-done-clause-err : goal.returns-in_err-done-clause-err
returns-in_err-done-clause-err g c =
    let p = err_from_is_err_and c.from_residual.result c.from_residual.ensures.1 in
    let rest : take (length c.args.chars.now - c.loop-done.done) (drop c.loop-done.done c.args.chars.now) ≡ drop c.loop-done.done c.args.chars.now =
    take_all _ _ (omega (arith, length-drop c.loop-done.done c.args.chars.now)) in
    rw p.1 (pieces_refused (escaped single_quote) _ _ _ c.args.chars.now c.loop-done.done c.loop-done.invariant.taken (rw rest at c.in_err-done.ensures.err))

pub loop-done-preserved : goal.loop-done-preserved
loop-done-preserved g c =
    let rest : take (length c.args.chars.now - c.loop-done.done) (drop c.loop-done.done c.args.chars.now) ≡ drop c.loop-done.done c.args.chars.now =
    take_all _ _ (omega (arith, length-drop c.loop-done.done c.args.chars.now)) in
    record {
      within = omega (arith, length-drop c.loop-done.done c.args.chars.now, ap length rest, c.in_ok-done.ensures.count.1);
      taken = more_pieces (escaped single_quote) _ _ _ c.args.chars.now c.loop-done.done c.in_ok-done.field-0 c.loop-done.invariant.taken (rw rest at c.in_ok-done.ensures.ok);
      faults = omega arith;
    }
