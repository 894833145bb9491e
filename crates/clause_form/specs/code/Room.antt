-- What private contracts say, beside the definitions of specs/Room.
use Rattle.std.specs.Prelude.{ℕ, ◌-◌, ◌<◌, ◌^◌}
use Rattle.fof_terms.specs.Lift.{lifted, lift_reach}
use Rattle.fof_terms.specs.declared.form.Form.{Form}

-- the formula may be lifted by f over its own n variables, and then by e
abbrev pub MovesWithin : ℕ → ℕ → ℕ → Form → Type 0
MovesWithin e f n a = (lift_reach f n a < 2 ^ 32) × (lift_reach e 0 (lifted f n a) < 2 ^ 32)
