-- What each arm of the recursion over a formula shows, and what it asks.
use Rattle.std.specs.Prelude.{Bool, ◌-◌, List}
use Rattle.fof_terms.specs.declared.form.Form.{Form}
use Rattle.fof_terms.specs.Sorts.{binder_depth}
use Rattle.clause_form.specs.Norm.{signed, norm_of}
use Rattle.kernel.specs.declared.proof.Proof.{Proof}
use Rattle.norm_proofs.specs.code.Steps.{Between}
use Rattle.norm_proofs.specs.code.Links.{PartsFrom}

-- between the formula, or under minus its negation, and its normal form
abbrev pub IsStep : Bool → Bool → Form → Proof → Type 0
IsStep g forth form made = Between forth (binder_depth form) made (signed g form) (norm_of g form)

-- the members' proofs
abbrev pub MemberSteps : Bool → Bool → List Form → List Proof → Type 0
MemberSteps g forth = PartsFrom (λ k a p. IsStep g forth a p) 0
