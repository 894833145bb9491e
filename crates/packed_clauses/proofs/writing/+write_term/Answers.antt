use Rattle.std.proofs.lemmas.Result.{on_ok_weaker}
use Rattle.packed_clauses.proofs.Spelled.{app_written}
use Rattle.packed_clauses.proofs.writing.+write_term.Goals as goal

pub write_term-returns-in_ok-write_terms-in-App : goal.write_term-returns-in_ok-write_terms-in-App
write_term-returns-in_ok-write_terms-in-App t c =
    on_ok_weaker c.write_piece-in-App-2.result
    (app_written c.args.term.now c.in-App.symbol c.in-App.args c.as_slice.result.now c.args.bytes.now c.write_piece-in-App.new.bytes c.write_terms.new.bytes c.write_piece-in-App-2.new.bytes c.in-App.is c.as_slice.ensures
    c.in_ok-write_piece-in-App.ensures c.in_ok-write_terms-in-App.ensures)
    c.write_piece-in-App-2.ensures
