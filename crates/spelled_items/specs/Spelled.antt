-- Formulas that tokens spell within a nesting.
use Rattle.std.specs.Prelude.{ℕ, true, []}
use Rattle.first_fault.specs.Nesting.{Within}
use Rattle.tptp_base.specs.declared.surface.Surface.{Surface}
use Rattle.tptp_grammar.specs.Tokens.{Tokens}
use Rattle.tptp_grammar.specs.Formulas.{IsFormula}

-- some tokens spell the formula as one of language tff, and none of them is nested deeper than that
abbrev pub IsSpelledWithin : ℕ → Surface → Type 0
IsSpelledWithin limit formula = (us : Tokens) × IsFormula true 0 formula us [] × Within limit us
