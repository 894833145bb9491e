-- Literals that are known to be false, in a proof: some by one hypothesis that denies all of them, and each further one by
-- a hypothesis of its own.
use Rattle.std.specs.Prelude.{ℕ, ◌≡◌, ◌≤◌, ◌<◌, ◌-◌, List, length, Some, slice_get}
use Rattle.fof_terms.specs.declared.form.Form.{Form}
use Rattle.clause_form.specs.declared.clause.Lit.{Lit}
use Rattle.chain_proofs.specs.Facts.{all_false, denied_form}

-- the hypotheses deny the literals, the first ones together
pub record IsContext (first lits : List Lit) (h : List Form) : Type 0 where
  pub more : length first ≤ length lits
  pub front : (place : ℕ) (l : Lit) → place < length first → slice_get lits place ≡ Some l → slice_get first place ≡ Some l
  pub together : slice_get h (length lits - length first) ≡ Some (all_false first)
  pub alone : (place : ℕ) (l : Lit) → length first ≤ place → slice_get lits place ≡ Some l → slice_get h (length lits - 1 - place) ≡ Some (denied_form l)
