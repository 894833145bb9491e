use Rattle.std.proofs.Common.{◌≡◌, ◌∷◌, [], take, map}
use Rattle.step_clauses.proofs.choosing.singles.Given as goal

abbrev pub invariant-loop-path : goal.invariant-loop-path
invariant-loop-path l = l.chosen ≡ map (λ path. path ∷ []) (take l.path-index l.paths)
