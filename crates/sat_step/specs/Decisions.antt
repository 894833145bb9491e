-- What is decided of propositional clauses.
use Rattle.std.specs.Prelude.{Bool, true, false, not, filter, List, map}
use Rattle.std.specs.List.{Contains}
use Rattle.clause_form.specs.declared.clause.AtomOf.{AtomOf}
use Rattle.clause_form.specs.declared.clause.Lit.{Lit}
use Rattle.clause_form.specs.declared.clause.Clause.{Clause}
use Rattle.clause_learning.specs.Refutations.{Entry, IsRefutation}
use Rattle.sat_step.specs.declared.decision.Learned.{Learned}
use Rattle.sat_step.specs.declared.decision.Decision.{Decision}
use Rattle.sat_step.specs.declared.decision.Decision.TheVariants.{Refuted, Valuation}

-- the literal of the same atom with the other sign
abbrev pub opposite : Lit → Lit
opposite l = record { positive = not l.positive; atom = l.atom }

-- an atom with this sign is true where these atoms are true and all others false
abbrev pub HasSign : Bool → List AtomOf → AtomOf → Type 0
HasSign true atoms a = Contains atoms a
HasSign false atoms a = Contains atoms a → ⊥

-- each clause has a literal that is true where these atoms are true and all others false
abbrev pub Satisfies : List AtomOf → List Clause → Type 0
Satisfies atoms clauses = (c : Clause) → Contains clauses c → (l : Lit) × Contains c.lits l × HasSign l.positive atoms l.atom

-- a clause of a log
abbrev pub entry_of : Learned → Entry Lit
entry_of l = record { from = l.from; lits = l.lits }

-- the log refutes the clauses
abbrev pub IsRefuted : List Clause → List Learned → Type 0
IsRefuted clauses log = IsRefutation opposite (map (λ c. c.lits) clauses) (map entry_of log)

-- the atoms of the positive literals
abbrev pub positive_atoms : List Lit → List AtomOf
positive_atoms lits = map (λ l. l.atom) (filter (λ l. l.positive) lits)

-- a refutation, or a valuation that makes each clause true
abbrev pub IsDecision : List Clause → Decision → Type 0
IsDecision clauses (Refuted log) = IsRefuted clauses log
IsDecision clauses (Valuation lits) = Satisfies (positive_atoms lits) clauses
