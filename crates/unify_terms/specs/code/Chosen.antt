-- The pairs that a search has chosen so far, the earlier ones first.
use Rattle.std.specs.Prelude.{◌++◌, List, []}
use Rattle.unify_terms.specs.declared.pair.Pair.{Pair}
use Rattle.unify_terms.specs.declared.chosen.Chosen.{Chosen, Nothing, Then}
use Rattle.unify_terms.specs.declared.chosen.Chosen.TheFolds.{fold-Chosen}
use Rattle.unify_terms.specs.declared.chosen.Chosen.TheOpen as chosen

abbrev pub chosen_step : chosen.Chosen-F (List Pair) → List Pair
chosen_step chosen.Nothing = []
chosen_step (chosen.Then earlier pairs) = earlier.now ++ pairs.now

-- all pairs that were chosen
unfoldable pub chosen_pairs : Chosen → List Pair
chosen_pairs = fold-Chosen (List Pair) chosen_step
