use Rattle.std.proofs.Common.{◌≡◌, ◌++◌, map, drop, codes}
use Rattle.canon_print.specs.Words.{later}
use Rattle.canon_print.specs.Canonical.{general_text}
use Rattle.canon_print.proofs.general.+put_general.Given as goal

-- what is written, and what is left to write, is the whole
abbrev pub invariant-put_generals-others : goal.invariant-put_generals-others
invariant-put_generals-others l = l.text.items ++ later (codes ",") (map general_text (drop l.other-index l.others)) ≡ l.initial.text.items ++ later (codes ",") (map general_text l.others)
