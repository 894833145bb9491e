use Rattle.std.specs.Prelude.{refl}
use Rattle.std.proofs.Common.{arith}
use Rattle.lexer_pieces.specs.Pieces.{unfed}
use Rattle.lexer_pieces.proofs.Joined.{all_taken}
use Rattle.lexer_pieces.proofs.law.however_a_text_is_cut.Goals as goal

pub returns-clause-taken : goal.returns-clause-taken
returns-clause-taken c = λ file style pieces fed takes.
    let all = all_taken (unfed file style) pieces fed takes in
    (all.0, all.1, all.2, all.3 refl)

pub returns-clause-shown : goal.returns-clause-shown
returns-clause-shown c = λ file style text more place shown fits. let stops = shown.1 more in (omega (arith, fits), stops.0, stops.1, stops.2, stops.3)
