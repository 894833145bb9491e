-- Lemmas on what specs/code/Chosen defines.
use Rattle.std.specs.Prelude.{◌≡◌, ◌++◌, List, []}
use Rattle.std.specs.Borrow.{Bor}
use Rattle.unify_terms.specs.declared.pair.Pair.{Pair}
use Rattle.unify_terms.specs.declared.chosen.Chosen.{Chosen, Nothing, Then}
use Rattle.unify_terms.specs.declared.chosen.Chosen.TheViews.{roll-Chosen}
use Rattle.unify_terms.specs.declared.chosen.Chosen.TheFolds.{fold-Chosen, fold-roll-Chosen}
use Rattle.std.proofs.Common.{ap, ◌∙◌}
use denote.Hole.Carrier.{roll}
use Rattle.unify_terms.specs.code.Chosen.{chosen_step, chosen_pairs}
use Rattle.unify_terms.specs.declared.chosen.Chosen.TheOpen as chosen

pub chosen_pairs-Nothing : chosen_pairs Nothing ≡ []
unfolding chosen_pairs roll-Chosen roll
chosen_pairs-Nothing = fold-roll-Chosen (List Pair) chosen_step chosen.Nothing

pub chosen_pairs-Then : (earlier : Bor Chosen) (pairs : Bor (List Pair)) → chosen_pairs (Then earlier pairs) ≡ chosen_pairs earlier.now ++ pairs.now
unfolding chosen_pairs roll-Chosen roll
chosen_pairs-Then earlier pairs = fold-roll-Chosen (List Pair) chosen_step (chosen.Then earlier pairs)

pub ruleset chosen_equations = (chosen_pairs-Nothing, chosen_pairs-Then)

pub chosen_alone : (earlier : Bor Chosen) (pairs : Bor (List Pair)) → earlier.now ≡ Nothing → chosen_pairs (Then earlier pairs) ≡ pairs.now
chosen_alone earlier pairs e = chosen_pairs-Then earlier pairs ∙ ap (λ c. chosen_pairs c ++ pairs.now) e ∙ ap (λ ps. ps ++ pairs.now) chosen_pairs-Nothing
