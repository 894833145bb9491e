-- The paths of a formula, and the ways to choose one of each list.
use Rattle.std.specs.Prelude.{ℕ, ◌+◌, Bool, true, false, if◌then◌else◌, List, [], ◌∷◌, ◌++◌, map, flat_map}
use Rattle.fof_terms.specs.declared.form.Form.{Form}
use Rattle.fof_terms.specs.declared.form.Form.TheFolds.{fold-Form}
use Rattle.clause_form.specs.declared.path.Path.{Path, Leaf, Pick, Each, Under}
use Rattle.clause_form.specs.Clauses.{choices}
use Rattle.fof_terms.specs.declared.form.Form.TheOpen as form

-- each of the first with each of the others behind it
abbrev pub joins : {X : Type 0} → List (List X) → List (List X) → List (List X)
joins left right = flat_map (λ choice. map (λ other. choice ++ other) right) left

-- whether the formula is an atom or an equation, and its paths
pub record Ways : Type 0 where
  pub atomic : Bool
  pub paths : List Path

-- the paths through a conjunction, whose members are numbered from k on
abbrev pub picks : ℕ → List (List Path) → List Path
picks k [] = []
picks k (paths ∷ lists) = map (Pick k) paths ++ picks (k + 1) lists

abbrev pub ways_of : List Path → Ways
ways_of paths = record { atomic = false; paths = paths }

abbrev pub lone : Bool → List Path
lone b = if b then Leaf ∷ [] else []

abbrev pub ways_step : form.Form-F Ways → Ways
ways_step (form.Atom p ts) = record { atomic = true; paths = Leaf ∷ [] }
ways_step (form.Eq l r) = record { atomic = true; paths = Leaf ∷ [] }
ways_step (form.Not a) = ways_of (lone a.atomic)
ways_step (form.And as_) = ways_of (picks 0 (map (λ (a : Ways). a.paths) as_))
ways_step (form.Or as_) = ways_of (map Each (choices (map (λ (a : Ways). a.paths) as_)))
ways_step (form.Imp a b) = ways_of []
ways_step (form.Iff a b) = ways_of []
ways_step (form.All s a) = ways_of (map Under a.paths)
ways_step (form.Ex s a) = ways_of []

unfoldable pub ways : Form → Ways
ways = fold-Form Ways ways_step

abbrev pub paths_in : Form → List Path
paths_in a = (ways a).paths
