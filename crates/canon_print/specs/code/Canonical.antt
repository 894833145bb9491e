-- What private contracts say, beside the definitions of specs/Canonical.
use Rattle.std.specs.Prelude.{Bool}
use Rattle.tptp_base.specs.declared.surface.Surface.{Surface}
use Rattle.tptp_lexer.specs.Bytes.{Text}
use Rattle.canon_print.specs.Canonical.{as_unit, shown}

abbrev pub is_compound : Surface → Bool
is_compound formula = (shown formula).0

-- <fof_unit_formula>
abbrev pub unit_text : Surface → Text
unit_text formula = as_unit (shown formula)
