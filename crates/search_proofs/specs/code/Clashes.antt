-- Falsehood from literals and their opposites.
use Rattle.std.specs.Prelude.{ℕ, ◌≤◌, Bool, true, false, List, [], ◌∷◌, length}
use Rattle.std.specs.List.{AllZip}
use Rattle.fof_terms.specs.Sorts.{IsScope, Sorted}
use Rattle.fof_terms.specs.declared.form.Form.{Or}
use Rattle.clause_form.specs.ClauseView.{form_of_lit}
use Rattle.clause_form.specs.Covers.{negated}
use Rattle.clause_form.specs.declared.clause.Clause.{Clause}
use Rattle.clause_form.specs.declared.clause.Lit.{Lit}
use Rattle.kernel.specs.Proves.{Proves}
use Rattle.kernel.specs.Statements.{Statements}
use Rattle.kernel.specs.declared.proof.Proof.{Proof, Hyp, NotE}
use Rattle.saturation.specs.declared.member.Member.{Member}
use Rattle.superpose.specs.Drafts.{IsClause}
use Rattle.search_proofs.specs.code.Bodies.{StandsAs}
use Rattle.search_proofs.specs.code.Contradictions.{IsAlone, IsListed, Stands}

-- by the literal of this sign as hypothesis 0, and a proof of its opposite
abbrev pub clash_tree : Bool → Proof → Proof
clash_tree true p = NotE p (Hyp 0)
clash_tree false p = NotE (Hyp 0) p

-- the scope is one of a clause
pub record IsNarrow (t : Statements) (v : List ℕ) : Type 0 where
  pub few : length v ≤ 1000000000
  pub scope : IsScope t.vocabulary v

-- The proof shows falsehood under the literal, which has no variables, wherever the formula of this number is that of
-- the clause, and the clause is the literal's opposite alone.
abbrev pub IsArm : ℕ → Clause → Lit → Proof → Type 0
IsArm number c l p =
    IsAlone (negated l) c.lits → (t : Statements) → IsClause t.vocabulary c → StandsAs t number c
    → (v : List ℕ) → IsNarrow t v
    → Sorted t.vocabulary [] (form_of_lit l) → Proves t v (form_of_lit l ∷ []) p (Or [])

-- the same for a literal whose opposite is one of these members, each of which stands at its number
abbrev pub IsArmBy : List Member → List ℕ → List ℕ → Lit → Proof → Type 0
IsArmBy members numbers places l p =
    (t : Statements) → ((i : ℕ) → IsListed places i → Stands t members numbers i) → (v : List ℕ) → IsNarrow t v
    → Sorted t.vocabulary [] (form_of_lit l) → Proves t v (form_of_lit l ∷ []) p (Or [])

-- the same for each literal
abbrev pub AreArms : List Member → List ℕ → List ℕ → List Lit → List Proof → Type 0
AreArms members numbers places lits arms = AllZip (IsArmBy members numbers places) lits arms
