use Rattle.std.proofs.Common.{◌≡◌, [], ◌∷◌, ◌++◌, take}
use Rattle.std.specs.List.{All, flat_map}
use Rattle.proof_log.specs.LogText.{number}
use Rattle.proof_log.specs.Words.{AreInRange, small}
use Rattle.proof_log.proofs.line.put_numbers.Given as goal

abbrev pub invariant-loop-number : goal.invariant-loop-number
invariant-loop-number l = record {
  written : l.text.items ≡ (l.initial.text.items ++ flat_map number (take l.number-index l.numbers));
  in_range : All (λ n. AreInRange (small n ∷ [])) (take l.number-index l.numbers);
}
