-- Want of memory among the faults of a derivation: it says nothing of the text, and is never ruled out.
use Rattle.std.specs.Prelude.{⊤, ◌≡◌}
use Rattle.tptp_lexer.specs.declared.fault.LexFault.TheVariants as lexed
use Rattle.tptp_grammar.specs.declared.fault.GrammarFault.TheVariants as parsed
use Rattle.tstp_graph.specs.declared.fault.GraphFault.TheVariants as graph
use Rattle.sort_check.specs.declared.fault.SortFault.TheVariants as sorted
use Rattle.derivation_text.specs.declared.fault.DerivationFault.{DerivationFault}
use Rattle.derivation_text.specs.declared.fault.DerivationFault.TheVariants as fault

-- the fault is want of memory, in whichever part of the reading
abbrev pub IsWant : DerivationFault → Type 0
IsWant (fault.Lex first) = first ≡ lexed.Memory
IsWant (fault.Grammar first) = first ≡ parsed.Memory
IsWant (fault.Graph first) = first ≡ graph.Memory
IsWant (fault.Sort first) = first ≡ sorted.Memory
IsWant fault.Memory = ⊤
