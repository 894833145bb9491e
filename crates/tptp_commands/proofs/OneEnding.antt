-- The commands `parse` and `format` have one ending, and that of `parse` on a problem without faults counts its formulas.
use Rattle.std.proofs.Common.{◌≡◌, inl, inr, ℕ, List, Option, Some, Ok, refl, sym, ◌∙◌, subst}
use Rattle.tptp_base.specs.Store.{Files}
use Rattle.tptp_lexer.specs.declared.fault.LexFault.{LexFault}
use Rattle.tptp_lexer.specs.declared.fault.LexFault.TheVariants as lexed
use Rattle.tptp_grammar.specs.declared.fault.GrammarFault.{GrammarFault}
use Rattle.tptp_grammar.specs.declared.fault.GrammarFault.TheVariants as parsed
use Rattle.fof_terms.specs.Vocabulary.{Vocabulary}
use Rattle.include_resolve.specs.declared.fault.IncludeFault.{IncludeFault}
use Rattle.include_resolve.specs.declared.fault.IncludeFault.TheVariants as included
use Rattle.include_resolve.specs.declared.fault.TextFault.{TextFault}
use Rattle.include_resolve.specs.declared.fault.TextFault.TheVariants.{Lex, Grammar}
use Rattle.include_resolve.specs.declared.problem.Problem.{Problem}
use Rattle.include_resolve.specs.Resolved.{Resolves}
use Rattle.sort_check.specs.declared.fault.SortFault.{SortFault}
use Rattle.sort_check.specs.declared.fault.SortFault.TheVariants as sorted
use Rattle.sort_check.specs.declared.line.Line.{Line}
use Rattle.sort_check.specs.declared.line.TextKind.TheVariants as kind
use Rattle.sort_check.specs.Texts.{denoted}
use Rattle.read_problems.specs.Denoted.{first_vocabulary, SaysTextFault, SaysIncludeFault, SaysSortFault, AfterDenoted}
use Rattle.read_problems.specs.Ending.{Ending}
use Rattle.tptp_commands.specs.Parsed.{EndsParse, counted, formula_count}
use Rattle.read_problems.specs.Spelled.{SaysLexFault, SaysGrammarFault}
use Rattle.read_problems.proofs.OneProblem.{one_sort_fault, no_sort_fault, one_problem, one_include_fault, no_include_fault}

-- ---- what is said of a fault

module _ (a b : Ending) where
  both_are : (said : Ending) → a ≡ said → b ≡ said → a ≡ b
  both_are said h k = h ∙ sym k

  pub one_lex_said : (name : List ℕ) (fault : LexFault) → SaysLexFault name fault a → SaysLexFault name fault b → a ≡ b
  one_lex_said name (lexed.Byte place) h k = both_are _ h k
  one_lex_said name (lexed.Unfinished place) h k = both_are _ h k
  one_lex_said name (lexed.Limit limit) h k = both_are _ h k
  one_lex_said name lexed.Memory h k = absurd h

  pub one_grammar_said : (name : List ℕ) (fault : GrammarFault) → SaysGrammarFault name fault a → SaysGrammarFault name fault b → a ≡ b
  one_grammar_said name (parsed.Token place) h k = both_are _ h k
  one_grammar_said name (parsed.Profile place) h k = both_are _ h k
  one_grammar_said name (parsed.End place) h k = both_are _ h k
  one_grammar_said name (parsed.Deep place) h k = both_are _ h k
  one_grammar_said name parsed.Memory h k = absurd h

  one_text_said : (name : List ℕ) (fault : TextFault) → SaysTextFault name fault a → SaysTextFault name fault b → a ≡ b
  one_text_said name (Lex fault) h k = one_lex_said name fault h k
  one_text_said name (Grammar fault) h k = one_grammar_said name fault h k

  pub one_include_said : (fault : IncludeFault) → SaysIncludeFault fault a → SaysIncludeFault fault b → a ≡ b
  one_include_said (included.Missing written) h k = both_are _ h k
  one_include_said (included.Cycle name) h k = both_are _ h k
  one_include_said (included.DeepInclude name) h k = both_are _ h k
  one_include_said (included.UnknownSelection file name) h k = both_are _ h k
  one_include_said (included.Text file fault) h k = one_text_said file fault h k
  one_include_said (included.Limit file limit) h k = both_are _ h k
  one_include_said included.Store h k = absurd h
  one_include_said included.Memory h k = absurd h

  pub one_sort_said : (files : List (List ℕ)) (fault : SortFault) → SaysSortFault files fault a → SaysSortFault files fault b → a ≡ b
  one_sort_said files (sorted.Line rule place name) h k = both_are _ h k
  one_sort_said files sorted.Memory h k = absurd h

-- ---- how `parse` ends

module _ (files : Files) (root : Option (List ℕ)) (file : List ℕ) (a b : Ending) where
  abbrev Counts : Problem → Ending → Type 0
  Counts problem = AfterDenoted problem (λ lines v ending. ending ≡ counted (formula_count problem.items))

  one_count : (problem : Problem) → Counts problem a → Counts problem b → a ≡ b
  one_count problem (inl (fault, h, says)) (inl (other, k, said)) = one_sort_said a b problem.files fault says (subst (λ (f : SortFault). SaysSortFault problem.files f b) (one_sort_fault problem.items other fault k h) said)
  one_count problem (inl (fault, h, says)) (inr (lines, v, k, is)) = absurd (no_sort_fault problem.items fault lines v h k)
  one_count problem (inr (lines, v, h, is)) (inl (fault, k, says)) = absurd (no_sort_fault problem.items fault lines v k h)
  one_count problem (inr (lines, v, h, is)) (inr (others, w, k, also)) = is ∙ sym also

  pub one_parse : EndsParse files root file a → EndsParse files root file b → a ≡ b
  one_parse (inl (fault, h, says)) (inl (other, k, said)) = one_include_said a b fault says (subst (λ (f : IncludeFault). SaysIncludeFault f b) (one_include_fault files root file other fault k h) said)
  one_parse (inl (fault, h, says)) (inr (problem, k, counts)) = absurd (no_include_fault files root file fault problem h k)
  one_parse (inr (problem, h, counts)) (inl (fault, k, says)) = absurd (no_include_fault files root file fault problem k h)
  one_parse (inr (problem, h, counts)) (inr (other, k, also)) = one_count problem counts (subst (λ (p : Problem). Counts p b) (one_problem files root file other problem k h) also)

-- a problem without faults has its formulas counted
pub parse_counts : (files : Files) (root : Option (List ℕ)) (file : List ℕ) (problem : Problem) (lines : List Line) (v : Vocabulary) (ending : Ending) → Resolves (Some files) root file (Ok problem) → denoted problem.items first_vocabulary kind.Problem ≡ Ok (lines, v)
    → EndsParse files root file ending → ending ≡ counted (formula_count problem.items)
parse_counts files root file problem lines v ending resolves denotes ends = one_parse files root file ending (counted (formula_count problem.items)) ends (inr (problem, resolves, inr (lines, v, denotes, refl)))
