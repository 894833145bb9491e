-- The proof of a line that has names for parts of a parent. The line and what its names stand for are supposed false
-- one inside the other, each for variables of its own; there each literal of the parent's instance is contradicted.
use Rattle.std.specs.Prelude.{ℕ, ◌≡◌, ◌+◌, ◌≤◌, List, [], ◌∷◌, ◌++◌, length, map, Some, slice_get}
use Rattle.fof_terms.specs.declared.form.Form.{Form, Not, Or}
use Rattle.fof_terms.specs.Sorts.{IsScope}
use Rattle.fof_terms.specs.Vocabulary.{Vocabulary}
use Rattle.clause_form.specs.declared.clause.Lit.{Lit}
use Rattle.clause_form.specs.declared.clause.Clause.{Clause}
use Rattle.clause_form.specs.declared.path.Parent.{Parent}
use Rattle.clause_form.specs.ClauseView.{form_of_lit}
use Rattle.clause_form.specs.Covers.{lit_apart}
use Rattle.clause_rules.specs.Settled.{IsFit}
use Rattle.clause_rules.specs.Steps.{IsReady}
use Rattle.kernel.specs.Proves.{Proves}
use Rattle.kernel.specs.declared.proof.Proof.{Proof, Line, Hyp, ImpI, ImpE, NotE, Raa, IffR}
use Rattle.derive_kit.specs.Derived.{AreOfTheory}
use Rattle.clause_proofs.specs.declared.opening.Opened.{Opened}
use Rattle.clause_proofs.specs.Bodies.{HasClause}
use Rattle.clause_proofs.specs.Closed.{all_tree, inhabit_tree}
use Rattle.clause_proofs.specs.Refuting.{theory_of, IsGoal, Refutes, body, injected_tree}
use Rattle.split_defs.specs.declared.stages.Stage.{Stage}
use Rattle.split_defs.specs.SplitRule.{Names, together}

-- what these numbers name in turn
abbrev pub AreNamed : List Form → Clause → List ℕ → List Clause → Type 0
AreNamed forms e [] [] = Unit {0}
AreNamed forms e [] (d ∷ ds) = ⊥
AreNamed forms e (n ∷ names) [] = ⊥
AreNamed forms e (n ∷ names) (d ∷ ds) = ((form : Form) × (slice_get forms n ≡ Some form) × Names e form d) × AreNamed forms e names ds

-- where hypothesis 0 is a, and number n is the negation of the line, the part shows falsehood, by the parents
abbrev pub RefutesClosed : Vocabulary → List Parent → Form → ℕ → Form → Proof → Type 0
RefutesClosed w parents line n a p =
    (formulas : List Form) → AreOfTheory (theory_of w formulas) parents → (v : List ℕ) (h : List Form) → IsScope w v → length v ≤ 1000000000 → slice_get h 0 ≡ Some a → slice_get h n ≡ Some (Not line) → Proves (theory_of w formulas) v h p (Or [])

-- the formula has the clause, and the part shows falsehood from it and the negation of the line
pub record IsStage (w : Vocabulary) (parents : List Parent) (line : Form) (n : ℕ) (s : Stage) : Type 0 where
  pub has : HasClause s.form s.opened.clause s.opened.is_or
  pub ready : IsReady w s.form
  pub refutes : RefutesClosed w parents line n s.form s.contrary

-- the negation of the line is one number further at each
abbrev pub AreStages : Vocabulary → List Parent → Form → ℕ → List Stage → Type 0
AreStages w parents line n [] = Unit {0}
AreStages w parents line n (s ∷ stages) = IsStage w parents line n s × AreStages w parents line (n + 1) stages

abbrev pub stage_clauses : List Stage → List Clause
stage_clauses stages = map (λ (s : Stage). s.opened.clause) stages

-- falsehood from the negation of the line and a formula that a literal of the line stands for: by the formula of that
-- number the literal, by the literal the line
abbrev pub name_tree : Opened → ℕ → ℕ → ℕ → Proof
name_tree line place number n = NotE (Hyp n) (all_tree line.clause.sorts (injected_tree line.is_or line.clause.lits place (IffR (Line number) (Hyp 0))))

-- falsehood, by falsehood under the negation of the body, over variables of its own
abbrev pub stage_tree : Stage → Proof → Proof
stage_tree s p = ImpE (ImpI s.form s.contrary) (all_tree s.opened.clause.sorts (Raa (body s.opened) p))

abbrev pub nest_tree : List Stage → Proof → Proof
nest_tree [] p = p
nest_tree (s ∷ stages) p = stage_tree s (nest_tree stages p)

-- the line, by falsehood over the variables of all stages and further ones
abbrev pub enclosed_tree : Form → List Stage → List ℕ → Proof → Proof
enclosed_tree line stages more p = Raa line (inhabit_tree more (nest_tree stages p))

-- the clause among nearer variables, so many
abbrev pub goal_of : Opened → ℕ → Opened
goal_of o n = record { clause = record { sorts = []; lits = map (lit_apart n) o.clause.lits }; is_or = o.is_or }

-- how many variables the stages have
abbrev pub variables_in : List Stage → ℕ
variables_in stages = length (together (stage_clauses stages)).sorts

-- falsehood from each of the literals, where hypothesis n is the negation of g
abbrev pub EachRefutes : Vocabulary → List ℕ → ℕ → Form → List Lit → List Proof → Type 0
EachRefutes w v n g [] [] = Unit {0}
EachRefutes w v n g [] (p ∷ ps) = ⊥
EachRefutes w v n g (l ∷ lits) [] = ⊥
EachRefutes w v n g (l ∷ lits) (p ∷ ps) = Refutes w v n g (form_of_lit l) p × EachRefutes w v n g lits ps

-- falsehood from each literal of all stages, by the negation of its stage's body
abbrev pub AllArms : Vocabulary → List ℕ → List Stage → List Proof → Type 0
AllArms w v [] arms = arms ≡ []
AllArms w v (s ∷ stages) arms =
    (front : List Proof) × (rest : List Proof) × (arms ≡ front ++ rest) × EachRefutes w v (length stages + 1) (body (goal_of s.opened (variables_in stages))) (map (lit_apart (variables_in stages)) s.opened.clause.lits) front × AllArms w v stages rest

-- the negations of the bodies of all stages are hypotheses, that of the last nearest
abbrev pub DeniedAt : List Form → List Stage → Type 0
DeniedAt h [] = Unit {0}
DeniedAt h (s ∷ stages) = (slice_get h (length stages) ≡ Some (Not (body (goal_of s.opened (variables_in stages))))) × DeniedAt h stages

-- over these variables the body of each stage is well-sorted, among the variables of the further ones
abbrev pub AreGoals : Vocabulary → List ℕ → List Stage → Type 0
AreGoals w v [] = Unit {0}
AreGoals w v (s ∷ stages) = (IsFit w s.opened.clause × IsGoal w v (goal_of s.opened (variables_in stages))) × AreGoals w v stages
