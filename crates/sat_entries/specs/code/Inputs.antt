-- Clauses of the step as facts, by their formulas.
use Rattle.std.specs.Prelude.{ℕ, suc, ◌≡◌, ◌+◌, ◌++◌, ◌∷◌, [], Bool, true, false, List, length, map, Some, slice_get, if◌then◌else◌}
use Rattle.fof_terms.specs.Sorts.{Sorted}
use Rattle.fof_terms.specs.declared.form.Form.{Form, Or}
use Rattle.clause_form.specs.ClauseView.{form_of_atom}
use Rattle.clause_form.specs.declared.clause.AtomOf.{AtomOf}
use Rattle.clause_form.specs.declared.clause.Clause.{Clause}
use Rattle.clause_form.specs.declared.clause.Lit.{Lit}
use Rattle.clause_proofs.specs.Bodies.{body_of}
use Rattle.chain_proofs.specs.Chains.{AreOver}
use Rattle.chain_proofs.specs.Facts.{not_all_false}
use Rattle.chain_proofs.specs.declared.fact.Fact.{Fact}
use Rattle.input_proofs.specs.Formulas.{has_or}
use Rattle.kernel.specs.Proves.{Proves}
use Rattle.kernel.specs.Statements.{Statements}
use Rattle.kernel.specs.declared.proof.Proof.{Proof, AndE, Hyp, Line, NotE, OrE}
use Rattle.search_proofs.specs.code.Facts.{AreShown, Setting, StandsAt, first_fact}
use Rattle.search_proofs.specs.code.Members.{ShowMore}
use Rattle.sat_entries.specs.code.Learning.{AreSorted, IsStated}
use Rattle.sat_entries.specs.code.Naming.{IsMarked}

-- falsehood by a literal and its denial
abbrev pub clash_tree : Lit → Proof → Proof → Proof
clash_tree l own other = if l.positive then NotE other own else NotE own other

-- for each literal falsehood by it and by the denial of all
abbrev pub arms_of : ℕ → List Lit → List Proof
arms_of k [] = []
arms_of k (l ∷ lits) = clash_tree l (Hyp 0) (AndE k (Hyp 1)) ∷ arms_of (suc k) lits

-- falsehood by the first literal, which is the formula of that number, and the denial of all
abbrev pub lone_tree : List Lit → ℕ → Proof
lone_tree [] n = Line n
lone_tree (l ∷ lits) n = clash_tree l (Line n) (AndE 0 (Hyp 0))

-- falsehood by the disjunction of the literals, or by the one
abbrev pub contradiction_tree : List Lit → ℕ → Proof
contradiction_tree lits n = if has_or lits then OrE (Or []) (Line n) (arms_of 0 lits) else lone_tree lits n

-- the proof shows that not all of the literals are false, wherever their disjunction, or the one, has that number
abbrev pub IsTurned : List Lit → ℕ → Proof → Type 0
IsTurned lits n p = (t : Statements) → Sorted t.vocabulary [] (body_of (has_or lits) lits) → slice_get t.formulas n ≡ Some (body_of (has_or lits) lits) → Proves t [] [] p (not_all_false lits)

-- a proof was added, and this is the number of what it shows; or nothing, where it is not wanted
abbrev pub IsStatedIf : ℕ → List Lit → Bool → ℕ → List Proof → List Proof → ℕ → Type 0
IsStatedIf start lits true n old new number = (p : Proof) × (new ≡ old ++ p ∷ []) × IsTurned lits n p × (number ≡ start + length old)
IsStatedIf start lits false n old new number = new ≡ old

-- the atoms of the wanted clauses are among these
abbrev pub WantedHave : List AtomOf → List Clause → List Bool → Type 0
WantedHave atoms clauses wanted = (k : ℕ) (c : Clause) → IsMarked wanted k → slice_get clauses k ≡ Some c → AreOver atoms c.lits

-- the wanted clauses stand at these numbers
abbrev pub WantedStand : Setting → List Form → List Clause → List Bool → List ℕ → Type 0
WantedStand s forms clauses wanted numbers =
    (k n : ℕ) (c : Clause) → IsMarked wanted k → slice_get clauses k ≡ Some c → slice_get numbers k ≡ Some n → StandsAt s forms n (body_of (has_or c.lits) c.lits)

-- Where the first proofs show facts, among which the wanted clauses stand at these numbers, the second ones show those and
-- that not all of their literals are false.
pub record AreStatedInputs (start : ℕ) (clauses : List Clause) (wanted : List Bool) (numbers : List ℕ) (old new : List Proof) (facts : List Fact) : Type 0 where
  pub same : map (λ f. f.lits) facts ≡ map (λ c. c.lits) clauses
  pub shows : (s : Setting) (atoms : List AtomOf) → first_fact s ≡ start → AreSorted s atoms → WantedHave atoms clauses wanted → (forms : List Form) → AreShown s old forms → WantedStand s forms clauses wanted numbers
      → (all : List Form) × ShowMore s (IsStated atoms) new forms all × ((k : ℕ) (f : Fact) → IsMarked wanted k → slice_get facts k ≡ Some f → StandsAt s all f.number (not_all_false f.lits))
