use Rattle.std.proofs.Common.{◌≡◌, ◌++◌, drop}
use Rattle.canon_print.specs.Canonical.{canonical_text}
use Rattle.canon_print.proofs.printed.print.Given as goal

-- what is written, and what is left to write, is the whole
abbrev pub invariant-loop-item : goal.invariant-loop-item
invariant-loop-item l = l.text.items ++ canonical_text (drop l.item-index l.items) ≡ canonical_text l.items
