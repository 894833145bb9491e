-- Faults in the text of a file, as the code answers them.
use Rattle.std.specs.Prelude.{◌≡◌, ◌⊎◌, ℕ}
use Rattle.tptp_lexer.specs.declared.token.Tokens.{Tokens}
use Rattle.tptp_grammar.specs.declared.fault.GrammarFault.{GrammarFault}
use Rattle.include_resolve.specs.declared.fault.IncludeFault.{IncludeFault}
use Rattle.include_resolve.specs.declared.fault.TextFault.{TextFault}
use Rattle.include_resolve.specs.declared.fault.TextFault.TheVariants.{Grammar}
use Rattle.include_resolve.specs.Names.{Text}
use Rattle.include_resolve.specs.Texts.{IsFaulty, IsGrammarFault}
use Rattle.include_resolve.specs.declared.fault.IncludeFault.TheVariants as fault

-- the fault of this text, or want of memory
abbrev pub IsNamed : Text → TextFault → IncludeFault → Type 0
IsNamed name text_fault cause = (cause ≡ fault.Text name text_fault) ⊎ (cause ≡ fault.Memory)

-- the first fault of the text, or want of memory
abbrev pub IsTextFault : ℕ → Text → Text → IncludeFault → Type 0
IsTextFault number name text cause = ((text_fault : TextFault) × (cause ≡ fault.Text name text_fault) × IsFaulty number text text_fault) ⊎ (cause ≡ fault.Memory)

-- the same of tokens
abbrev pub IsGrammarStop : Text → Tokens → IncludeFault → Type 0
IsGrammarStop name tokens cause = ((first : GrammarFault) × (cause ≡ fault.Text name (Grammar first)) × IsGrammarFault tokens first) ⊎ (cause ≡ fault.Memory)
