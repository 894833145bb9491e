-- The clauses of a normal form: each existential variable is replaced by a new symbol applied to the universal
-- variables around it, and each way of choosing members of conjunctions gives a clause.
use Rattle.std.specs.Prelude.{ℕ, zero, suc, ◌+◌, List, [], ◌∷◌, ◌++◌, map, flat_map, Option, Some, None, true}
use Rattle.std.specs.Option.{option_map}
use Rattle.fof_terms.specs.Lift.{lifted_term}
use Rattle.fof_terms.specs.declared.term.Term.{Term, Var, App}
use Rattle.fof_terms.specs.declared.form.Form.{Form, Atom, Eq, Not, And, Or, Imp, Iff, All, Ex}
use Rattle.fof_terms.specs.declared.form.Form.TheFolds.{fold-Form}
use Rattle.clause_form.specs.declared.clause.AtomOf.{AtomOf}
use Rattle.clause_form.specs.declared.clause.AtomOf.TheVariants.{Pred, Eq as Equation}
use Rattle.clause_form.specs.declared.clause.Lit.{Lit}
use Rattle.clause_form.specs.declared.clause.Clause.{Clause}
use Rattle.clause_form.specs.ClauseView.{alone_lit, stated, denied, open_clause, within}
use Rattle.clause_form.specs.Images.{image}
use Rattle.clause_form.specs.Norm.{norm_of}
use Rattle.clause_form.specs.Paths.{all_beside}
use Rattle.fof_terms.specs.declared.form.Form.TheOpen as form

-- the n nearest variables, the outermost first
abbrev pub variables : ℕ → List Term
variables zero = []
variables (suc n) = Var n ∷ variables n

-- what stands for each variable: under a universal quantifier the nearest one stands for itself
abbrev pub under_all : (ℕ → Term) → ℕ → Term
under_all s zero = Var 0
under_all s (suc k) = lifted_term 1 0 (s k)

-- under an existential one the term stands for the nearest
abbrev pub under_ex : Term → (ℕ → Term) → ℕ → Term
under_ex t s zero = t
under_ex t s (suc k) = s k

-- a formula made where the next new symbol has that number, so many universal quantifiers stand around, and each
-- variable has that term; and the number that is next behind it
abbrev pub Maker : Type 0
Maker = ℕ → ℕ → (ℕ → Term) → Form × ℕ

abbrev pub in_turn : List Maker → ℕ → ℕ → (ℕ → Term) → List Form × ℕ
in_turn [] next n s = ([], next)
in_turn (a ∷ as_) next n s = ((a next n s).0 ∷ (in_turn as_ (a next n s).1 n s).0, (in_turn as_ (a next n s).1 n s).1)

abbrev pub skolem_step : form.Form-F Maker → Maker
skolem_step (form.Atom p ts) next n s = (Atom p (map (image s) ts), next)
skolem_step (form.Eq l r) next n s = (Eq (image s l) (image s r), next)
skolem_step (form.Not a) next n s = (Not (a next n s).0, (a next n s).1)
skolem_step (form.And as_) next n s = (And (in_turn as_ next n s).0, (in_turn as_ next n s).1)
skolem_step (form.Or as_) next n s = (Or (in_turn as_ next n s).0, (in_turn as_ next n s).1)
skolem_step (form.Imp a b) next n s = (Imp (a next n s).0 (b (a next n s).1 n s).0, (b (a next n s).1 n s).1)
skolem_step (form.Iff a b) next n s = (Iff (a next n s).0 (b (a next n s).1 n s).0, (b (a next n s).1 n s).1)
skolem_step (form.All q a) next n s = (All q (a next (n + 1) (under_all s)).0, (a next (n + 1) (under_all s)).1)
skolem_step (form.Ex q a) next n s = a (next + 1) n (under_ex (App next (variables n)) s)

unfoldable pub skolem_made : Form → Maker
skolem_made = fold-Form Maker skolem_step

-- the closed formula with each existential quantifier, from the left, replaced by a new symbol, the first of that
-- number, applied to all universal variables around it, the outermost first
abbrev pub skolemized : Form → ℕ → Form
skolemized a next = (skolem_made a next 0 Var).0

-- one of each list, in lexicographic order
abbrev pub choices : {X : Type 0} → List (List X) → List (List X)
choices [] = [] ∷ []
choices (xs ∷ lists) = flat_map (λ x. map (λ rest. x ∷ rest) (choices lists)) xs

abbrev pub joined_lists : {X : Type 0} → List (List X) → List X
joined_lists [] = []
joined_lists (xs ∷ lists) = xs ++ joined_lists lists

-- the atom or equation that a formula is, where it is one, and its clauses
pub record Clausal : Type 0 where
  pub atom : Option AtomOf
  pub clauses : List Clause

abbrev pub lone_clauses : Option Lit → List Clause
lone_clauses None = []
lone_clauses (Some l) = open_clause (alone_lit l) ∷ []

abbrev pub clausal_atom : AtomOf → Clausal
clausal_atom a = record { atom = Some a; clauses = lone_clauses (Some (stated a)) }

abbrev pub clausal_of : List Clause → Clausal
clausal_of clauses = record { atom = None; clauses = clauses }

abbrev pub clausal_step : form.Form-F Clausal → Clausal
clausal_step (form.Atom p ts) = clausal_atom (Pred p ts)
clausal_step (form.Eq l r) = clausal_atom (Equation l r)
clausal_step (form.Not a) = clausal_of (lone_clauses (option_map denied a.atom))
clausal_step (form.And as_) = clausal_of (joined_lists (map (λ (a : Clausal). a.clauses) as_))
clausal_step (form.Or as_) = clausal_of (map all_beside (choices (map (λ (a : Clausal). a.clauses) as_)))
clausal_step (form.Imp a b) = clausal_of []
clausal_step (form.Iff a b) = clausal_of []
clausal_step (form.All s a) = clausal_of (map (within s) a.clauses)
clausal_step (form.Ex s a) = clausal_of []

unfoldable pub clausal : Form → Clausal
clausal = fold-Form Clausal clausal_step

-- the clauses of all paths, in lexicographic order of their choices
abbrev pub clauses_in : Form → List Clause
clauses_in a = (clausal a).clauses

-- the clauses of a closed formula, with new symbols from that number on
abbrev pub clauses_of : Form → ℕ → List Clause
clauses_of a next = clauses_in (skolemized (norm_of true a) next)
