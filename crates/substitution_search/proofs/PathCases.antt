-- The kinds of path, and what each reaches.
use Rattle.std.specs.Prelude.{ℕ, ◌≡◌, List, map, Option}
use Rattle.std.proofs.Common.{ap, subst}
use Rattle.fof_terms.specs.declared.form.Form.{Form}
use Rattle.fof_terms.specs.declared.form.Form.TheViews.{out-Form}
use Rattle.clause_form.specs.declared.path.Path.{Path, Leaf, Pick, Each, Under}
use Rattle.clause_form.specs.declared.path.Path.TheViews.{roll-Path}
use Rattle.clause_form.specs.declared.path.Path.TheFolds.{ind-Path, map-Path, fold-roll-Path}
use Rattle.clause_form.specs.declared.clause.Clause.{Clause}
use Rattle.clause_form.specs.ClauseView.{view_of, alone_lit, open_clause}
use Rattle.clause_form.specs.Paths.{path_step, pick_in, each_in, under_in, plain, reached}
use Rattle.std.specs.Option.{option_map}
use denote.Hole.Carrier.{roll}
use Rattle.clause_form.specs.declared.path.Path.TheOpen as path

pub record PathCases (P : Path → Type 0) : Type 0 where
  pub leaf : P Leaf
  pub pick : (k : ℕ) (p : Path) → P (Pick k p)
  pub each : (ps : List Path) → P (Each ps)
  pub under : (p : Path) → P (Under p)

path_layer : (P : Path → Type 0) → PathCases P → (y : path.Path-F ((p : Path) × P p)) → P (roll-Path (map-Path ((p : Path) × P p) Path (λ e. e.0) y))
unfolding roll-Path roll
path_layer P c path.Leaf = c.leaf
path_layer P c (path.Pick k e) = c.pick k e.0
path_layer P c (path.Each es) = c.each (map (λ e. e.0) es)
path_layer P c (path.Under e) = c.under e.0

pub path_cases : (P : Path → Type 0) → PathCases P → (p : Path) → P p
path_cases P c = ind-Path P (λ x y is. subst (λ z. P (roll-Path z)) is (path_layer P c y))

abbrev Way : Type 0
Way = Form → Option Clause

pub reached-Leaf : (a : Form) → reached Leaf a ≡ option_map open_clause (option_map alone_lit (plain (view_of a).lit))
unfolding reached roll-Path roll
reached-Leaf a = ap (λ (w : Way). w a) (fold-roll-Path Way path_step path.Leaf)

pub reached-Pick : (k : ℕ) (p : Path) (a : Form) → reached (Pick k p) a ≡ pick_in k (reached p) (out-Form a)
unfolding reached roll-Path roll
reached-Pick k p a = ap (λ (w : Way). w a) (fold-roll-Path Way path_step (path.Pick k p))

pub reached-Each : (ps : List Path) (a : Form) → reached (Each ps) a ≡ each_in (map reached ps) (out-Form a)
unfolding reached roll-Path roll
reached-Each ps a = ap (λ (w : Way). w a) (fold-roll-Path Way path_step (path.Each ps))

pub reached-Under : (p : Path) (a : Form) → reached (Under p) a ≡ under_in (reached p) (out-Form a)
unfolding reached roll-Path roll
reached-Under p a = ap (λ (w : Way). w a) (fold-roll-Path Way path_step (path.Under p))
