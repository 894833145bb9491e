-- All facts of a refutation.
use Rattle.std.specs.Prelude.{ℕ, ◌≡◌, ◌<◌, ◌+◌, ◌++◌, ◌⊎◌, Bool, List, [], length, Option, Some, slice_get}
use Rattle.fof_terms.specs.Sorts.{Sorted}
use Rattle.fof_terms.specs.declared.form.Form.{Form, Or}
use Rattle.clause_form.specs.declared.clause.AtomOf.{AtomOf}
use Rattle.clause_form.specs.declared.clause.Clause.{Clause}
use Rattle.chain_proofs.specs.Facts.{not_all_false}
use Rattle.kernel.specs.Proves.{Proves}
use Rattle.kernel.specs.Statements.{Statements}
use Rattle.kernel.specs.declared.proof.Proof.{Proof}
use Rattle.sat_step.specs.declared.decision.Learned.{Learned}
use Rattle.search_proofs.specs.code.Facts.{AreShown, Setting, first_fact}
use Rattle.search_proofs.specs.code.Members.{ShowFalsehoodLast}
use Rattle.search_proofs.specs.Placed.{numbers_from, there}
use Rattle.sat_entries.specs.code.Inputs.{WantedHave, WantedStand}
use Rattle.sat_entries.specs.code.Learning.{AreSorted, IsStated}
use Rattle.sat_entries.specs.code.Naming.{IsMarked, IsNamed}

-- the proof shows falsehood wherever the formula of this number says that not all of no literals are false
abbrev pub IsFalsehoodBy : ℕ → Proof → Type 0
IsFalsehoodBy n p = (t : Statements) → Sorted t.vocabulary [] (not_all_false []) → slice_get t.formulas n ≡ Some (not_all_false []) → Proves t [] [] p (Or [])

-- the formula is a clause as a fact, or falsehood
abbrev pub IsLater : List AtomOf → Form → Type 0
IsLater atoms a = IsStated atoms a ⊎ (a ≡ Or [])

-- the clauses that the log names are marked
abbrev pub NamedAreMarked : List Clause → List Bool → List Learned → Type 0
NamedAreMarked clauses wanted log = (k : ℕ) → IsNamed log k → k < length clauses → IsMarked wanted k

-- Where the proofs of opened formulas and of wanted clauses show facts, among which the wanted clauses stand, all proofs
-- show more, and falsehood at last.
abbrev pub LeadToFalsehood : ℕ → List Proof → List (Option Proof) → List Clause → List Bool → List Learned → List Proof → Type 0
LeadToFalsehood start opened inputs clauses wanted log proofs =
    NamedAreMarked clauses wanted log → (s : Setting) (atoms : List AtomOf) → first_fact s ≡ start → AreSorted s atoms → WantedHave atoms clauses wanted → (forms : List Form) → AreShown s (opened ++ there inputs) forms
    → WantedStand s forms clauses wanted (numbers_from (start + length opened) inputs) → ShowFalsehoodLast s (IsLater atoms) proofs forms
