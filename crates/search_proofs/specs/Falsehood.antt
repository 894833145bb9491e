-- Falsehood from a formula that says it for all of some sorts.
use Rattle.std.specs.Prelude.{ℕ, ◌≡◌, List, [], Some, slice_get}
use Rattle.fof_terms.specs.declared.form.Form.{Or}
use Rattle.fof_terms.specs.Sorts.{Sorted}
use Rattle.clause_form.specs.ClauseView.{closed_by}
use Rattle.kernel.specs.Statements.{Statements}
use Rattle.kernel.specs.Proves.{Proves}
use Rattle.kernel.specs.declared.proof.Proof.{Proof}

-- the proof shows falsehood wherever the formula of this number says it for all of the sorts, the first outermost
abbrev pub IsFalsehoodBy : ℕ → List ℕ → Proof → Type 0
IsFalsehoodBy n sorts p =
    (t : Statements) → Sorted t.vocabulary [] (closed_by sorts (Or [])) → slice_get t.formulas n ≡ Some (closed_by sorts (Or [])) → Proves t [] [] p (Or [])
