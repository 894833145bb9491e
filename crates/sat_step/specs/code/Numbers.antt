-- What numbered literals stand for.
use Rattle.std.specs.Prelude.{◌≡◌, ◌∷◌, [], ℕ, suc, Bool, List, Some, map, slice_get, slice_index_or}
use Rattle.std.specs.List.{AllZip}
use Rattle.clause_form.specs.declared.clause.AtomOf.{AtomOf}
use Rattle.clause_form.specs.declared.clause.AtomOf.TheVariants.{False}
use Rattle.clause_form.specs.declared.clause.Lit.{Lit}
use Rattle.clause_form.specs.declared.clause.Clause.{Clause}
use Rattle.clause_learning.specs.declared.literal.Literal.{Literal}
use Rattle.clause_learning.specs.declared.clauses.Learned.{Learned as Step}
use Rattle.sat_step.specs.declared.decision.Learned.{Learned}
use Rattle.sat_step.specs.declared.numbering.Numbered.{Numbered}
use Rattle.sat_step.specs.code.Atoms.{AreDistinct}

-- the literal stands for this one
pub record IsRead (atoms : List AtomOf) (x : Literal) (l : Lit) : Type 0 where
  pub sign : x.positive ≡ l.positive
  pub atom : slice_get atoms x.atom ≡ Some l.atom

-- the literals stand for these, in order
abbrev pub IsReadClause : List AtomOf → List Literal → List Lit → Type 0
IsReadClause atoms xs ls = AllZip (IsRead atoms) xs ls

-- the clauses over distinct atoms stand for these, in order
pub record IsNumbered (clauses : List Clause) (n : Numbered) : Type 0 where
  pub distinct : AreDistinct n.atoms
  pub read : AllZip (λ xs c. IsReadClause n.atoms xs c.lits) n.clauses clauses

-- the literal over the atoms
abbrev pub read_lit : List AtomOf → Literal → Lit
read_lit atoms x = record { positive = x.positive; atom = slice_index_or atoms x.atom False }

-- the learned clause over the atoms
abbrev pub read_learned : List AtomOf → Step → Learned
read_learned atoms s = record { lits = map (read_lit atoms) s.lits; from = s.from }

-- the literals of the atoms from this number on, by their signs
abbrev pub sign_lits : List AtomOf → ℕ → List Bool → List Lit
sign_lits atoms k [] = []
sign_lits atoms k (s ∷ signs) = record { positive = s; atom = slice_index_or atoms k False } ∷ sign_lits atoms (suc k) signs
