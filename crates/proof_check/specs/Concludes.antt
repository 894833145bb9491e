-- What a proof concludes, said of an answer.
use Rattle.std.specs.Prelude.{ℕ, ◌≡◌, ◌↔◌, List, Option, Some}
use Rattle.std.specs.List.{All}
use Rattle.fof_terms.specs.Vocabulary.{Vocabulary}
use Rattle.fof_terms.specs.Sorts.{IsScope, Sorted}
use Rattle.fof_terms.specs.declared.form.Form.{Form}
use Rattle.kernel.specs.Statements.{Statements}
use Rattle.kernel.specs.Proves.{Proves}
use Rattle.kernel.specs.declared.proof.Proof.{Proof}

-- the answer is the formula that the proof shows, and none where it shows none
abbrev pub Concludes : Statements → List ℕ → List Form → Proof → Option Form → Type 0
Concludes t v h p answer = (a : Form) → (answer ≡ Some a) ↔ Proves t v h p a

-- the hypotheses are well-sorted over the variables
pub record IsContext (v : Vocabulary) (scope : List ℕ) (h : List Form) : Type 0 where
  pub scope_fits : IsScope v scope
  pub hyps_sorted : All (Sorted v scope) h
