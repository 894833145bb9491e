use Rattle.std.proofs.Common.{◌≡◌, ◌++◌, drop}
use Rattle.std.specs.List.{flat_map}
use Rattle.canon_print.specs.Words.{escaped}
use Rattle.canon_print.proofs.words.put_quoted.Given as goal

-- what is written, and what is left to write, is the whole
abbrev pub invariant-loop-char : goal.invariant-loop-char
invariant-loop-char l = l.text.items ++ flat_map (escaped l.quote) (drop l.char-index l.chars) ≡ l.initial.text.items ++ flat_map (escaped l.quote) l.chars
