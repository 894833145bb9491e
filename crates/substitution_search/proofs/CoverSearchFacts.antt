-- Lemmas on what specs/code/CoverSearch defines.
use Rattle.std.specs.Prelude.{ℕ, ◌≡◌, ◌+◌, List, [], ◌∷◌, ◌++◌, length, map, reverse, Option, Some, None, slice_get}
use Rattle.std.proofs.Common.{zero, suc}
use Rattle.fof_terms.proofs.Trees.{fold-Atom, fold-Eq, fold-Not, fold-And, fold-Or, fold-Imp, fold-Iff, fold-All, fold-Ex}
use Rattle.fof_terms.specs.declared.term.Term.{Term, Var}
use Rattle.fof_terms.specs.declared.form.Form.{Form, Atom, Eq, Not, And, Or, Imp, Iff, All, Ex}
use Rattle.fof_terms.specs.declared.form.Form.TheFolds.{fold-Form}
use Rattle.clause_form.specs.declared.path.Path.{Path, Leaf, Pick, Each, Under}
use Rattle.clause_form.specs.declared.clause.Lit.{Lit}
use Rattle.clause_form.specs.Covers.{lit_image}
use Rattle.clause_form.specs.ClauseView.{View, no_view, view_step}
use Rattle.clause_form.specs.Paths.{plain}
use Rattle.unify_terms.specs.declared.goal.Goal.{Goal, All as Every, Any}
use Rattle.clause_rules.specs.Ways.{cover_ways, goal_of_need}
use Rattle.substitution_search.specs.CoverSearch.{Opening, opened_leaf, opened_and, opened_or, opened_all, opening_step, opening}
use Rattle.fof_terms.specs.declared.form.Form.TheOpen as form

-- The equations of this word.
pub opening-Atom : (line : List Lit) (p : ℕ) (ts : List Term) → opening line (Atom p ts) ≡ opened_leaf line (view_step (form.Atom p ts))
unfolding opening
opening-Atom line p ts = fold-Atom Opening (opening_step line) p ts

pub opening-Eq : (line : List Lit) (l r : Term) → opening line (Eq l r) ≡ opened_leaf line (view_step (form.Eq l r))
unfolding opening
opening-Eq line l r = fold-Eq Opening (opening_step line) l r

pub opening-Not : (line : List Lit) (a : Form) → opening line (Not a) ≡ opened_leaf line (view_step (form.Not (opening line a).view))
unfolding opening
opening-Not line a = fold-Not Opening (opening_step line) a

pub opening-And : (line : List Lit) (as_ : List Form) → opening line (And as_) ≡ opened_and (map (opening line) as_)
unfolding opening
opening-And line as_ = fold-And Opening (opening_step line) as_

pub opening-Or : (line : List Lit) (as_ : List Form) → opening line (Or as_) ≡ opened_or (map (opening line) as_)
unfolding opening
opening-Or line as_ = fold-Or Opening (opening_step line) as_

pub opening-Imp : (line : List Lit) (a b : Form) → opening line (Imp a b) ≡ opened_leaf line no_view
unfolding opening
opening-Imp line a b = fold-Imp Opening (opening_step line) a b

pub opening-Iff : (line : List Lit) (a b : Form) → opening line (Iff a b) ≡ opened_leaf line no_view
unfolding opening
opening-Iff line a b = fold-Iff Opening (opening_step line) a b

pub opening-All : (line : List Lit) (s : ℕ) (a : Form) → opening line (All s a) ≡ opened_all s (opening line a)
unfolding opening
opening-All line s a = fold-All Opening (opening_step line) s a

pub opening-Ex : (line : List Lit) (s : ℕ) (a : Form) → opening line (Ex s a) ≡ opened_leaf line no_view
unfolding opening
opening-Ex line s a = fold-Ex Opening (opening_step line) s a

pub ruleset opening_equations = (opening-Atom, opening-Eq, opening-Not, opening-And, opening-Or, opening-Imp, opening-Iff, opening-All, opening-Ex)
