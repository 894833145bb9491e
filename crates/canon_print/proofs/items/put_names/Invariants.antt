use Rattle.std.proofs.Common.{◌≡◌, ◌++◌, map, drop, codes}
use Rattle.canon_print.specs.Words.{later, name_text}
use Rattle.canon_print.proofs.items.put_names.Given as goal

-- what is written, and what is left to write, is the whole
abbrev pub invariant-others : goal.invariant-others
invariant-others l = l.text.items ++ later (codes ",") (map name_text (drop l.other-index l.others)) ≡ l.initial.text.items ++ later (codes ",") (map name_text l.others)
