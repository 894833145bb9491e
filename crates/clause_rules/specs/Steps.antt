-- What the rules speak of: the parents of a step and its line, the clauses that they are, and one substitution for the
-- variables of the parents, into terms over the variables of the line and further ones.
use Rattle.std.specs.Prelude.{ℕ, ◌≡◌, ◌+◌, Bool, true, false, List, [], ◌++◌, length, map, Option, Some, slice_get}
use Rattle.std.specs.List.{All as Each}
use Rattle.fof_terms.specs.declared.term.Term.{Term}
use Rattle.fof_terms.specs.declared.form.Form.{Form}
use Rattle.fof_terms.specs.Vocabulary.{Vocabulary}
use Rattle.fof_terms.specs.Sorts.{SortedTo}
use Rattle.clause_form.specs.declared.path.Parent.{Parent}
use Rattle.clause_form.specs.declared.clause.AtomOf.TheVariants.{Eq}
use Rattle.clause_form.specs.declared.clause.Lit.{Lit}
use Rattle.clause_form.specs.declared.clause.Clause.{Clause}
use Rattle.clause_form.specs.ClauseView.{clause_of, stated, denied}
use Rattle.clause_form.specs.Covers.{lit_apart, lit_image, scope_of, IsCovered}
use Rattle.unify_terms.specs.Substitution.{image_at, IsSubstitution}

-- the formula is closed and well-sorted, with at most so many quantifiers inside each other that the variables of three
-- formulas together can be numbered
abbrev pub IsReady : Vocabulary → Form → Type 0
IsReady v a = SortedTo 1000000000 v [] a

abbrev pub AreReady : Vocabulary → List Parent → Type 0
AreReady v parents = Each (λ (p : Parent). IsReady v p.form) parents

-- the clause that each parent is, if it is one
abbrev pub clauses_of : List Parent → List (Option Clause)
clauses_of parents = map (λ (p : Parent). clause_of p.form) parents

-- the parent of that number, counted from 0, is the clause
abbrev pub IsClauseAt : List Parent → ℕ → Clause → Type 0
IsClauseAt parents a c = slice_get (clauses_of parents) a ≡ Some (Some c)

-- the variables of two clauses kept apart: those of the first are numbered first
abbrev pub scope_of_both : Clause → Clause → List ℕ
scope_of_both c d = scope_of c ++ scope_of d

-- the literals of the second, kept apart from the first
abbrev pub apart_from : Clause → List Lit → List Lit
apart_from c lits = map (lit_apart (length c.sorts)) lits

-- the instances of the literals
abbrev pub instances : (ℕ → Term) → List Lit → List Lit
instances s lits = map (lit_image s) lits

-- each of the literals stands in the line, up to the sides of an equation, or is false by its form
abbrev pub AreCovered : List Lit → List Lit → Type 0
AreCovered line lits = (i : ℕ) (k : Lit) → slice_get lits i ≡ Some k → IsCovered line k

-- the positive equation that, read from left to right or flipped, is l = r
abbrev pub equation : Bool → Term → Term → Lit
equation false l r = stated (Eq l r)
equation true l r = stated (Eq r l)

-- the denied equation
abbrev pub unequal : Term → Term → Lit
unequal l r = denied (Eq l r)

-- One list of images for the variables of the line, which stand for themselves, and then for those of the parents: each
-- image is a term of its variable's sort over all these variables.
abbrev pub IsJoint : Vocabulary → Clause → List ℕ → List Term → Type 0
IsJoint v line scope images = IsSubstitution v (scope_of line ++ scope) (length line.sorts) (scope_of line ++ scope) images

-- the images of the parents' variables in such a list
abbrev pub images_of_parents : Clause → List Term → ℕ → Term
images_of_parents line images k = image_at images (k + length line.sorts)
