-- The rule `split`: the line is a parent clause in which names stand for parts of it, each by a parent that says what
-- the name stands for.
use Rattle.std.specs.Prelude.{ℕ, zero, suc, ◌≡◌, ◌<◌, ◌⊎◌, List, [], ◌∷◌, ◌++◌, length, map, Some, slice_get}
use Rattle.fof_terms.specs.declared.term.Term.{Term}
use Rattle.fof_terms.specs.declared.form.Form.{Form, Atom, Iff}
use Rattle.fof_terms.specs.Vocabulary.{Vocabulary}
use Rattle.clause_form.specs.declared.clause.AtomOf.TheVariants.{Pred}
use Rattle.clause_form.specs.declared.clause.Lit.{Lit}
use Rattle.clause_form.specs.declared.clause.Clause.{Clause}
use Rattle.clause_form.specs.ClauseView.{clause_of, open_clause, stated}
use Rattle.clause_form.specs.Covers.{lit_apart, scope_of, CoversBy, HasOne}

-- the literal that states the predicate without arguments
abbrev pub name_lit : ℕ → Lit
name_lit q = stated (Pred q [])

-- the line has the predicate without arguments as a literal
abbrev pub HasName : Clause → ℕ → Type 0
HasName line q = HasOne (λ l. l ≡ name_lit q) line.lits

-- the formula says that a literal of the line stands for the clause: it is Iff(q, A), where A is the clause
pub record Names (line : Clause) (form : Form) (c : Clause) : Type 0 where
  pub name : ℕ
  pub meaning : Form
  pub is : form ≡ Iff (Atom name []) meaning
  pub in_line : HasName line name
  pub clause : clause_of meaning ≡ Some c

-- among the first i parents these, by their numbers, and no others say so, of these clauses in turn
abbrev pub AllName : List Form → Clause → ℕ → List ℕ → List Clause → Type 0
AllName parents line zero names ds = (names ≡ []) × (ds ≡ [])
AllName parents line (suc i) names ds =
    ((form : Form) × (d : Clause) × (slice_get parents i ≡ Some form) × Names line form d × ((before : List ℕ) × (others : List Clause) × (names ≡ before ++ i ∷ []) × (ds ≡ others ++ d ∷ []) × AllName parents line i before others))
    ⊎ (((form : Form) (d : Clause) → slice_get parents i ≡ Some form → Names line form d → ⊥) × AllName parents line i names ds)

-- clauses as one, the variables of each kept apart: those of the last are numbered first
abbrev pub together : List Clause → Clause
together [] = open_clause []
together (c ∷ cs) = record { sorts = c.sorts ++ (together cs).sorts; lits = map (lit_apart (length (together cs).sorts)) c.lits ++ (together cs).lits }

-- the line together with what its names stand for
abbrev pub unfolded : Clause → List Clause → Clause
unfolded line ds = together (line ∷ ds)

-- The parent of that number is a clause, and one or more parents name clauses; all that do are taken, since one that is
-- not needed does no harm. One substitution for the variables of the first covers it: each of its literals becomes one
-- of the line or of what the names stand for, up to the sides of an equation, or is false by its form. The variables of
-- the line and of what the names stand for are themselves.
pub record SplitsAt (v : Vocabulary) (parents : List Form) (line : Form) (n : ℕ) (names : List ℕ) (e c : Clause) (ds : List Clause) (more : List ℕ) (s : ℕ → Term) : Type 0 where
  pub line_clause : clause_of line ≡ Some e
  pub form : Form
  pub at : slice_get parents n ≡ Some form
  pub clause : clause_of form ≡ Some c
  pub some_name : 0 < length names
  pub named : AllName parents e (length parents) names ds
  pub covers : CoversBy v (scope_of c) c.lits (unfolded e ds) more s

abbrev pub IsSplitStep : Vocabulary → List Form → Form → Type 0
IsSplitStep v parents line = (n : ℕ) × (names : List ℕ) × (e c : Clause) × (ds : List Clause) × (more : List ℕ) × (s : ℕ → Term) × SplitsAt v parents line n names e c ds more s
