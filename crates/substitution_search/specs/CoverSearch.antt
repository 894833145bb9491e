-- The search for a path through a normal form all of whose literals one substitution covers: one and-or goal over the
-- variables of all universal quantifiers that a path may go through.
use Rattle.std.specs.Prelude.{ℕ, zero, suc, ◌+◌, List, [], ◌∷◌, ◌++◌, length, map, reverse, Option, Some, None}
use Rattle.std.specs.Prelude.{slice_get}
use Rattle.fof_terms.specs.declared.term.Term.{Term, Var}
use Rattle.fof_terms.specs.declared.form.Form.{Form, Atom, Eq, Not, And, Or, Imp, Iff, All, Ex}
use Rattle.fof_terms.specs.declared.form.Form.TheFolds.{fold-Form}
use Rattle.clause_form.specs.declared.path.Path.{Path, Leaf, Pick, Each, Under}
use Rattle.clause_form.specs.declared.clause.Lit.{Lit}
use Rattle.clause_form.specs.Covers.{lit_image}
use Rattle.clause_form.specs.ClauseView.{View, no_view, view_step}
use Rattle.clause_form.specs.Paths.{plain}
use Rattle.unify_terms.specs.declared.goal.Goal.{Goal, All as Every, Any}
use Rattle.clause_rules.specs.Ways.{cover_ways, goal_of_need}
use Rattle.fof_terms.specs.declared.form.Form.TheOpen as form

-- how far the taking of a path has come: the choices to come, and the sorts and the literals of what was reached
pub record Taking : Type 0 where
  pub choices : List ℕ
  pub sorts : List ℕ
  pub lits : List Lit

pub record Taken : Type 0 where
  pub path : Path
  pub rest : Taking

-- What the search knows of a formula: its view; the sorts of the universal quantifiers that a path may go through, from
-- the left; the goal, where these are numbered from a number on and the variables around are named; and the path that
-- choices take, with what it reaches.
pub record Opening : Type 0 where
  pub view : View
  pub sorts : List ℕ
  pub goal : ℕ → List Term → Goal
  pub take : List Term → Taking → Taken

abbrev pub views : List Opening → List View
views os = map (λ (o : Opening). o.view) os

abbrev pub sorts_of_all : List Opening → List ℕ
sorts_of_all [] = []
sorts_of_all (o ∷ os) = o.sorts ++ sorts_of_all os

abbrev pub goals_from : List Opening → ℕ → List Term → List Goal
goals_from [] n env = []
goals_from (o ∷ os) n env = o.goal n env ∷ goals_from os (n + length o.sorts) env

-- the images of the first variables, the others following those of s
abbrev pub over : List Term → (ℕ → Term) → ℕ → Term
over [] s k = s k
over (x ∷ xs) s zero = x
over (x ∷ xs) s (suc k) = over xs s k

-- the literal with these names for its variables
abbrev pub named : List Term → Lit → Lit
named env = lit_image (over env Var)

-- the literal is to be covered; what is none never is
abbrev pub goal_of_lit : List Lit → List Term → Option Lit → Goal
goal_of_lit line env None = Any []
goal_of_lit line env (Some l) = goal_of_need (cover_ways line (named env l))

abbrev pub later : List ℕ → List ℕ
later [] = []
later (k ∷ choices) = choices

abbrev pub reached_lits : List Term → Option Lit → List Lit
reached_lits env None = []
reached_lits env (Some l) = named env l ∷ []

abbrev pub take_leaf : Option Lit → List Term → Taking → Taken
take_leaf l env w = record { path = Leaf; rest = record { choices = later w.choices; sorts = w.sorts; lits = w.lits ++ reached_lits env l } }

abbrev pub picked : ℕ → Taken → Taken
picked k r = record { path = Pick k r.path; rest = r.rest }

abbrev pub take_at : Option Opening → ℕ → List Term → Taking → Taken
take_at None k env w = record { path = Leaf; rest = w }
take_at (Some o) k env w = picked k (o.take env w)

abbrev pub with_choices : Taking → List ℕ → Taking
with_choices w choices = record { choices = choices; sorts = w.sorts; lits = w.lits }

abbrev pub take_pick : List Opening → List Term → Taking → List ℕ → Taken
take_pick os env w [] = record { path = Leaf; rest = w }
take_pick os env w (k ∷ choices) = take_at (slice_get os k) k env (with_choices w choices)

pub record TakenAll : Type 0 where
  pub paths : List Path
  pub rest : Taking

abbrev pub first_taken : Taken → TakenAll → TakenAll
first_taken r q = record { paths = r.path ∷ q.paths; rest = q.rest }

abbrev pub take_each : List Opening → List Term → Taking → TakenAll
take_each [] env w = record { paths = []; rest = w }
take_each (o ∷ os) env w = first_taken (o.take env w) (take_each os env (o.take env w).rest)

abbrev pub all_taken : TakenAll → Taken
all_taken q = record { path = Each q.paths; rest = q.rest }

abbrev pub within_taken : Taken → Taken
within_taken r = record { path = Under r.path; rest = r.rest }

abbrev pub with_sort : Taking → ℕ → Taking
with_sort w s = record { choices = w.choices; sorts = w.sorts ++ s ∷ []; lits = w.lits }

abbrev pub opened_leaf : List Lit → View → Opening
opened_leaf line view = record {
  view = view;
  sorts = [];
  goal = λ n env. goal_of_lit line env (plain view.lit);
  take = take_leaf (plain view.lit);
}

abbrev pub opened_and : List Opening → Opening
opened_and os = record {
  view = view_step (form.And (views os));
  sorts = sorts_of_all os;
  goal = λ n env. Any (goals_from os n env);
  take = λ env w. take_pick os env w w.choices;
}

abbrev pub opened_or : List Opening → Opening
opened_or os = record {
  view = view_step (form.Or (views os));
  sorts = sorts_of_all os;
  goal = λ n env. Every (goals_from os n env);
  take = λ env w. all_taken (take_each os env w);
}

abbrev pub opened_all : ℕ → Opening → Opening
opened_all s o = record {
  view = view_step (form.All s o.view);
  sorts = s ∷ o.sorts;
  goal = λ n env. o.goal (suc n) (Var n ∷ env);
  take = λ env w. within_taken (o.take (Var (length w.sorts) ∷ env) (with_sort w s));
}

abbrev pub opening_step : List Lit → form.Form-F Opening → Opening
opening_step line (form.Atom p ts) = opened_leaf line (view_step (form.Atom p ts))
opening_step line (form.Eq l r) = opened_leaf line (view_step (form.Eq l r))
opening_step line (form.Not o) = opened_leaf line (view_step (form.Not o.view))
opening_step line (form.And os) = opened_and os
opening_step line (form.Or os) = opened_or os
opening_step line (form.Imp a b) = opened_leaf line no_view
opening_step line (form.Iff a b) = opened_leaf line no_view
opening_step line (form.All s o) = opened_all s o
opening_step line (form.Ex s a) = opened_leaf line no_view

unfoldable pub opening : List Lit → Form → Opening
opening line = fold-Form Opening (opening_step line)

-- the names of variables, the last of which is the nearest
abbrev pub near : List ℕ → List Term
near names = map Var (reverse names)

-- the names of so many variables from a number on, the last one first
abbrev pub down : ℕ → ℕ → List Term
down m zero = []
down m (suc n) = Var (m + n) ∷ down m n
