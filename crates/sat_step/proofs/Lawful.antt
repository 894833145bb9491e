-- Clauses that are refuted have no valuation.
use Rattle.std.proofs.Common.{Bool, true, false, not, List, map, Contains, subst}
use Rattle.clause_form.specs.declared.clause.AtomOf.{AtomOf}
use Rattle.clause_form.specs.declared.clause.Lit.{Lit}
use Rattle.clause_form.specs.declared.clause.Clause.{Clause}
use Rattle.sat_step.specs.declared.decision.Learned.{Learned}
use Rattle.sat_step.specs.Decisions.{opposite, HasSign, Satisfies, entry_of, IsRefuted}
use Rattle.sat_step.proofs.Sound.{refuted_not_true}
use Rattle.sat_step.proofs.Renaming.{in_map}

both_signs : (s : Bool) (atoms : List AtomOf) (a : AtomOf) → HasSign s atoms a → HasSign (not s) atoms a → ⊥
both_signs true atoms a h g = g h
both_signs false atoms a h g = h g

pub refuted_never : (clauses : List Clause) (log : List Learned) → IsRefuted clauses log → (atoms : List AtomOf) → Satisfies atoms clauses → ⊥
refuted_never clauses log h atoms sat =
    refuted_not_true opposite (λ l. HasSign l.positive atoms l.atom) (λ l t f. both_signs l.positive atoms l.atom t f) (map (λ c. c.lits) clauses) (map entry_of log) h all
  where
    all : (lits : List Lit) → Contains (map (λ c. c.lits) clauses) lits → (l : Lit) × Contains lits l × HasSign l.positive atoms l.atom
    all lits there =
        let one = in_map (λ (c : Clause). c.lits) clauses lits there in
        subst (λ (ls : List Lit). (l : Lit) × Contains ls l × HasSign l.positive atoms l.atom) one.2 (sat one.0 one.1)
