use Rattle.std.proofs.Common.{arith, refl}
use Rattle.proof_check.proofs.Concluded.{not_true}
use Rattle.fof_terms.proofs.ScopeFacts.{scope_sorts-Under}
use Rattle.proof_check.proofs.quantifiers.body_fits.Goals as goal

pub well_sorted_in-requires : goal.well_sorted_in-requires
well_sorted_in-requires c =
    let has = c.if-not-has_room.ensures.0 refl in
    rw (scope_sorts-Under, c.signature.ensures) (record { few_variables = omega (arith, c.requires.room, has.0); sorts_exist = (has.1, c.requires.scope.sorts_exist) })

pub returns-then-not-has_room : goal.returns-then-not-has_room
returns-then-not-has_room c = (
  λ no. absurd (not_true no),
  λ fits. c.if-not-has_room.ensures.1 (omega (arith, c.requires.room, fits.scope_fits.few_variables), fits.scope_fits.sorts_exist.0),
)

pub returns : goal.returns
returns c = rw (scope_sorts-Under, c.signature.ensures) at c.well_sorted_in.ensures
