use Rattle.canon_print.proofs.Written.{binary_written}
use Rattle.canon_print.proofs.formulas.+put_formula.Goals as goal

pub put_formula-returns-in_ok-put_operator-in-Binary : goal.put_formula-returns-in_ok-put_operator-in-Binary
put_formula-returns-in_ok-put_operator-in-Binary t c =
    binary_written c.put_unit-in-Binary.result c.args.formula.now c.in-Binary.operator _ _ _ _ _ _ c.in-Binary.is c.in_ok-put_unit-in-Binary.ensures c.in_ok-put_operator-in-Binary.ensures c.put_unit-in-Binary.ensures
