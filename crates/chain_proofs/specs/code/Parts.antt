-- Falsehood, by a fact whose literals are known to be false.
use Rattle.std.specs.Prelude.{ℕ, ◌≡◌, ◌-◌, nat_lt, List, [], length, Some, slice_get, if◌then◌else◌}
use Rattle.std.specs.List.{Contains}
use Rattle.fof_terms.specs.Sorts.{Sorted}
use Rattle.fof_terms.specs.declared.form.Form.{Form, Or}
use Rattle.clause_form.specs.declared.clause.Lit.{Lit}
use Rattle.kernel.specs.Statements.{Statements}
use Rattle.kernel.specs.Proves.{Proves}
use Rattle.kernel.specs.declared.proof.Proof.{Proof, AndE, Hyp}
use Rattle.chain_proofs.specs.Contexts.{IsContext}
use Rattle.chain_proofs.specs.Facts.{Holds, all_false}
use Rattle.chain_proofs.specs.declared.fact.Fact.{Fact}

-- that the literal at the place is false, where so many are known, the first `base` together
abbrev pub false_tree : ℕ → ℕ → ℕ → Proof
false_tree base count place = if nat_lt place base then AndE place (Hyp (count - base)) else Hyp (count - 1 - place)

-- the further literals have those that are known at their places, and the others of the fact at the next one
pub record GoesOn (known lits : List Lit) (f : Fact) : Type 0 where
  pub kept : (place : ℕ) (l : Lit) → slice_get known place ≡ Some l → slice_get lits place ≡ Some l
  pub next : (l : Lit) → Contains f.lits l → (Contains known l → ⊥) → slice_get lits (length known) ≡ Some l

-- the proof shows falsehood wherever so many literals are known to be false, those of the fact among them
abbrev pub IsRefutedBy : List Lit → ℕ → ℕ → Fact → Proof → Type 0
IsRefutedBy known base count f p =
    (t : Statements) (first lits : List Lit) (h : List Form) → length first ≡ base → length lits ≡ count → IsContext first lits h → Sorted t.vocabulary [] (all_false first) → Holds t f → GoesOn known lits f
    → Proves t [] h p (Or [])
