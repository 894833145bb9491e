use Rattle.std.proofs.Common.{◌+◌, ◌≤◌, [], arith}
use Rattle.tptp_base.specs.declared.surface.Surface.{Surface}
use Rattle.derivation_limits.specs.Nesting.{nesting_of}
use Rattle.spelled_items.proofs.FormulasSpelled.{formula_spelled}
use Rattle.spelled_items.proofs.WordsSpelled.{given_within}
use Rattle.spelled_items.proofs.laws.a_formula_is_spelled.Goals as goal

pub returns : goal.returns
returns c = λ (f : Surface) ok.
    let fits : 0 + nesting_of f ≤ nesting_of f = omega arith in
    let found = (formula_spelled (nesting_of f) f ok).formula 0 fits [] tt in
    (found.us, found.rule, given_within (nesting_of f) found.us found.given)
