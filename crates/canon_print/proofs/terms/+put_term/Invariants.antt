use Rattle.std.proofs.Common.{◌≡◌, ◌++◌, map, drop, codes}
use Rattle.canon_print.specs.Words.{later}
use Rattle.canon_print.specs.Canonical.{term_text}
use Rattle.canon_print.proofs.terms.+put_term.Given as goal

-- what is written, and what is left to write, is the whole
abbrev pub invariant-put_applied-others : goal.invariant-put_applied-others
invariant-put_applied-others l = l.text.items ++ later (codes ",") (map term_text (drop l.other-index l.others)) ≡ l.initial.text.items ++ later (codes ",") (map term_text l.others)
