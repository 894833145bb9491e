-- What private contracts say, beside the definitions of specs/Denotation.
use Rattle.std.specs.Prelude.{List}
use Rattle.tptp_base.specs.declared.surface.BoundVar.{BoundVar}
use Rattle.tptp_base.specs.declared.surface.Quant.{Quant}
use Rattle.tptp_base.specs.declared.surface.Surface.{Surface}
use Rattle.fof_terms.specs.Vocabulary.{Vocabulary}
use Rattle.sort_check.specs.code.Reach.{Reach}
use Rattle.sort_check.specs.Symbols.{Text}
use Rattle.sort_check.specs.Denotation.{Setting, State, Meaning, bind, denoted_form}

abbrev pub setting : List Text → Reach → Setting
setting declared reach = record { declared = declared; outside = reach.outside; by_place = reach.by_place }

abbrev pub state : Vocabulary → Reach → State
state v reach = record { vocabulary = v; bound = reach.bound }

-- a formula under a quantifier
abbrev pub bound : Setting → Quant → List BoundVar → Surface → Meaning
bound here quant xs a = bind quant xs (denoted_form here a)
