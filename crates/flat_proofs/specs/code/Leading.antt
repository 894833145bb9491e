-- Implications between two formulas. Between a formula and itself no proof is needed.
use Rattle.std.specs.Prelude.{ℕ, Bool, ◌≡◌, Option, Some, None}
use Rattle.fof_terms.specs.declared.form.Form.{Form}
use Rattle.kernel.specs.declared.proof.Proof.{Proof}
use Rattle.norm_proofs.specs.code.Steps.{Between}

-- the proof is between the two formulas, or they are one
abbrev pub Leads : Bool → ℕ → Option Proof → Form → Form → Type 0
Leads forth n None a b = a ≡ b
Leads forth n (Some p) a b = Between forth n p a b
