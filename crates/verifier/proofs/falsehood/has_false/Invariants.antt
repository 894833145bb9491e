use Rattle.std.proofs.Common.{◌≡◌, ◌<◌, ℕ, [], Some, slice_get}
use Rattle.fof_terms.specs.declared.form.Form.{Or}
use Rattle.verifier.proofs.falsehood.has_false.Given as goal

abbrev pub invariant-loop-form : goal.invariant-loop-form
invariant-loop-form l = (k : ℕ) → k < l.form-index → slice_get l.forms k ≡ Some (Or []) → ⊥
