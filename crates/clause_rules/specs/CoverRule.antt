-- The rule `cover`: the line is a clause, and one substitution covers by it all literals that some path through a
-- parent's normal form reaches (subsumption, as in Bachmair and Ganzinger, of a clause of the parent).
use Rattle.std.specs.Prelude.{ℕ, ◌≡◌, ◌≤◌, true, List, Some, slice_get}
use Rattle.fof_terms.specs.declared.term.Term.{Term}
use Rattle.fof_terms.specs.declared.form.Form.{Form}
use Rattle.fof_terms.specs.Vocabulary.{Vocabulary}
use Rattle.clause_form.specs.declared.path.Parent.{Parent}
use Rattle.clause_form.specs.declared.path.Path.{Path}
use Rattle.clause_form.specs.declared.clause.Clause.{Clause}
use Rattle.clause_form.specs.ClauseView.{clause_of}
use Rattle.clause_form.specs.Covers.{scope_of, CoversBy}
use Rattle.clause_form.specs.Norm.{norm_of}
use Rattle.clause_form.specs.Paths.{reached}
use Rattle.clause_form.specs.Sizes.{norm_size_of}

-- the path reaches the clause in the normal form of the parent of that number
pub record ReachesClause (parents : List Parent) (a : ℕ) (path : Path) (c : Clause) : Type 0 where
  pub parent : Parent
  pub there : slice_get parents a ≡ Some parent
  pub small : norm_size_of parent.form ≤ 100000
  pub clause : reached path (norm_of true parent.form) ≡ Some c

-- the step is a covering of what the path reaches, by this substitution
pub record CoversReached (v : Vocabulary) (parents : List Parent) (line : Form) (a : ℕ) (path : Path) (c e : Clause) (more : List ℕ) (s : ℕ → Term) : Type 0 where
  pub reaches : ReachesClause parents a path c
  pub line_clause : clause_of line ≡ Some e
  pub covers : CoversBy v (scope_of c) c.lits e more s

abbrev pub IsCoverStep : Vocabulary → List Parent → Form → Type 0
IsCoverStep v parents line = (a : ℕ) × (path : Path) × (c e : Clause) × (more : List ℕ) × (s : ℕ → Term) × CoversReached v parents line a path c e more s
