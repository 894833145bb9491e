-- Lemmas on what specs/code/Path defines.
use Rattle.std.specs.Prelude.{◌≡◌, List, [], ◌∷◌}
use Rattle.std.specs.Borrow.{Bor}
use Rattle.include_resolve.specs.declared.path.Path.{Path, Outside, Inside}
use Rattle.include_resolve.specs.declared.path.Path.TheViews.{roll-Path}
use Rattle.include_resolve.specs.declared.path.Path.TheFolds.{fold-Path, fold-roll-Path}
use Rattle.include_resolve.specs.Names.{Text}
use denote.Hole.Carrier.{roll}
use Rattle.include_resolve.specs.code.Path.{path_step, path_names}
use Rattle.include_resolve.specs.declared.path.Path.TheOpen as path

pub path_names-Outside : path_names Outside ≡ []
unfolding path_names roll-Path roll
path_names-Outside = fold-roll-Path (List Text) path_step path.Outside

pub path_names-Inside : (name : Bor Text) (others : Bor Path) → path_names (Inside name others) ≡ name.now ∷ path_names others.now
unfolding path_names roll-Path roll
path_names-Inside name others = fold-roll-Path (List Text) path_step (path.Inside name others)

pub ruleset path_equations = (path_names-Outside, path_names-Inside)
