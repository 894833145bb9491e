-- The names of the open files, as the code holds them.
use Rattle.std.specs.Prelude.{List, [], ◌∷◌}
use Rattle.include_resolve.specs.declared.path.Path.{Path, Outside, Inside}
use Rattle.include_resolve.specs.declared.path.Path.TheFolds.{fold-Path}
use Rattle.include_resolve.specs.Names.{Text}
use Rattle.include_resolve.specs.declared.path.Path.TheOpen as path

abbrev pub path_step : path.Path-F (List Text) → List Text
path_step path.Outside = []
path_step (path.Inside name others) = name.now ∷ others.now

-- the innermost file first
unfoldable pub path_names : Path → List Text
path_names = fold-Path (List Text) path_step
