use Rattle.std.proofs.Common.{◌≡◌, ◌++◌, map, drop, codes}
use Rattle.canon_print.specs.Words.{later}
use Rattle.canon_print.specs.Canonical.{sort_text}
use Rattle.canon_print.proofs.terms.put_product.Given as goal

-- what is written, and what is left to write, is the whole
abbrev pub invariant-others : goal.invariant-others
invariant-others l = l.text.items ++ later (codes " * ") (map sort_text (drop l.other-index l.others)) ≡ l.initial.text.items ++ later (codes " * ") (map sort_text l.others)
