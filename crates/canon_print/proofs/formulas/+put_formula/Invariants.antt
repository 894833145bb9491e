use Rattle.std.proofs.Common.{◌≡◌, ◌++◌, map, drop}
use Rattle.canon_print.specs.Words.{later}
use Rattle.canon_print.specs.code.Canonical.{unit_text}
use Rattle.canon_print.proofs.formulas.+put_formula.Given as goal

-- what is written, and what is left to write, is the whole
abbrev pub invariant-put_units-others : goal.invariant-put_units-others
invariant-put_units-others l = l.text.items ++ later l.connective (map unit_text (drop l.other-index l.others)) ≡ l.initial.text.items ++ later l.connective (map unit_text l.others)
