-- Literals and clauses under images of their variables, and what it takes for a clause to cover another (subsumption by
-- some substitution, as in Bachmair and Ganzinger, weakened to literals that may coincide or be false by their form).
use Rattle.std.specs.Prelude.{ℕ, Bool, true, false, not, List, ◌++◌, ◌≡◌, ◌⊎◌, map, reverse, Some, slice_get}
use Rattle.std.specs.List.{All as Each}
use Rattle.fof_terms.specs.declared.term.Term.{Term}
use Rattle.fof_terms.specs.Vocabulary.{Vocabulary}
use Rattle.fof_terms.specs.Lift.{lifted_term}
use Rattle.fof_terms.specs.Sorts.{sort_of_term, holds_of, one_sort}
use Rattle.clause_form.specs.declared.clause.AtomOf.{AtomOf}
use Rattle.clause_form.specs.declared.clause.AtomOf.TheVariants.{Pred, Eq, True, False}
use Rattle.clause_form.specs.declared.clause.Lit.{Lit}
use Rattle.clause_form.specs.declared.clause.Clause.{Clause}
use Rattle.clause_form.specs.Images.{image, IsImages}

-- the same change at each term of an atom
abbrev pub at_terms : (Term → Term) → AtomOf → AtomOf
at_terms f (Pred p ts) = Pred p (map f ts)
at_terms f (Eq s t) = Eq (f s) (f t)
at_terms f True = True
at_terms f False = False

abbrev pub in_lit : (Term → Term) → Lit → Lit
in_lit f l = record { positive = l.positive; atom = at_terms f l.atom }

abbrev pub lit_image : (ℕ → Term) → Lit → Lit
lit_image s = in_lit (image s)

-- the literal of a clause whose variables are kept apart from the first m
abbrev pub lit_apart : ℕ → Lit → Lit
lit_apart m = in_lit (lifted_term m 0)

-- the literal with the sides of its equation exchanged
abbrev pub turned_atom : AtomOf → AtomOf
turned_atom (Eq s t) = Eq t s
turned_atom (Pred p ts) = Pred p ts
turned_atom True = True
turned_atom False = False

-- the same atom up to the sides of an equation
abbrev pub IsSameAtom : AtomOf → AtomOf → Type 0
IsSameAtom a b = (a ≡ b) ⊎ (turned_atom a ≡ b)

abbrev pub turned : Lit → Lit
turned l = record { positive = l.positive; atom = turned_atom l.atom }

abbrev pub negated : Lit → Lit
negated l = record { positive = not l.positive; atom = l.atom }

-- the same literal up to the sides of an equation
abbrev pub IsSame : Lit → Lit → Type 0
IsSame k l = (k ≡ l) ⊎ (turned k ≡ l)

-- one positive, one negative, with the same atom up to the sides of an equation
abbrev pub AreComplementary : Lit → Lit → Type 0
AreComplementary k l = IsSame (negated k) l

-- one of the literals is so
abbrev pub HasOne : (Lit → Type 0) → List Lit → Type 0
HasOne P lits = (i : ℕ) × (l : Lit) × (slice_get lits i ≡ Some l) × P l

-- falsehood, not truth or t != t
abbrev pub Denies : AtomOf → Bool → Type 0
Denies True positive = positive ≡ false
Denies False positive = positive ≡ true
Denies (Eq s t) positive = (positive ≡ false) × (s ≡ t)
Denies (Pred p ts) positive = ⊥

abbrev pub IsAbsurd : Lit → Type 0
IsAbsurd l = Denies l.atom l.positive

-- a literal is covered where it stands in the line, up to sides, or is false by its form
abbrev pub IsCovered : List Lit → Lit → Type 0
IsCovered line k = ((i : ℕ) × (l : Lit) × (slice_get line i ≡ Some l) × IsSame k l) ⊎ IsAbsurd k

-- the scope of a clause: the sort of variable 0 first
abbrev pub scope_of : Clause → List ℕ
scope_of c = reverse c.sorts

-- the substitution takes the scope to that of the line and further variables, and covers the literals
pub record CoversBy (v : Vocabulary) (scope : List ℕ) (lits : List Lit) (line : Clause) (more : List ℕ) (s : ℕ → Term) : Type 0 where
  pub images : IsImages v scope (scope_of line ++ more) s
  pub covered : (i : ℕ) (k : Lit) → slice_get lits i ≡ Some k → IsCovered line.lits (lit_image s k)

-- one substitution covers all literals of the clause by the line
abbrev pub Covers : Vocabulary → Clause → Clause → Type 0
Covers v c line = (more : List ℕ) × (s : ℕ → Term) × CoversBy v (scope_of c) c.lits line more s

-- the clause is true by its form: a literal is truth, not falsehood or t = t, or two are complementary
abbrev pub IsTrivial : List Lit → Type 0
IsTrivial lits = HasOne (λ l. IsAbsurd (negated l)) lits ⊎ HasOne (λ k. HasOne (AreComplementary k) lits) lits

-- the atom is well-sorted over the scope
abbrev pub is_sorted_atom : Vocabulary → List ℕ → AtomOf → Bool
is_sorted_atom v scope (Pred p ts) = holds_of (slice_get v.symbols p) (map (sort_of_term v scope) ts)
is_sorted_atom v scope (Eq s t) = one_sort (sort_of_term v scope s) (sort_of_term v scope t)
is_sorted_atom v scope True = true
is_sorted_atom v scope False = true

pub record AreSorted (v : Vocabulary) (scope : List ℕ) (lits : List Lit) : Type 0 where
  pub fits : Each (λ l. is_sorted_atom v scope l.atom ≡ true) lits

-- the line has the instances of the literals under a substitution into its scope
pub record IsInstanceBy (v : Vocabulary) (scope : List ℕ) (lits : List Lit) (line : Clause) (s : ℕ → Term) : Type 0 where
  pub images : IsImages v scope (scope_of line) s
  pub same : line.lits ≡ map (lit_image s) lits

-- an instance of the clause
abbrev pub IsInstance : Vocabulary → Clause → Clause → Type 0
IsInstance v c line = (s : ℕ → Term) × IsInstanceBy v (scope_of c) c.lits line s
