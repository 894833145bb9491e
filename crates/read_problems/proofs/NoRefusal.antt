-- An ending of status 0 is no refusal.
use Rattle.std.proofs.Common.{◌≡◌, ℕ, suc, List, Option, None, Some, refl, ap, arith}
use Rattle.tptp_base.specs.Store.{Files, file_at}
use Rattle.include_resolve.specs.declared.fault.IncludeFault.{IncludeFault}
use Rattle.include_resolve.specs.declared.fault.IncludeFault.TheVariants as included
use Rattle.include_resolve.specs.declared.fault.TextFault.{TextFault}
use Rattle.include_resolve.specs.declared.fault.TextFault.TheVariants.{Lex, Grammar}
use Rattle.sort_check.specs.declared.fault.SortFault.{SortFault}
use Rattle.sort_check.specs.declared.fault.SortFault.TheVariants as sorted
use Rattle.sort_check.specs.declared.fault.SortRule.{SortRule}
use Rattle.sort_check.specs.declared.fault.SortRule.TheVariants as rule
use Rattle.tptp_lexer.specs.declared.fault.LexFault.{LexFault}
use Rattle.tptp_lexer.specs.declared.fault.LexFault.TheVariants as lexed
use Rattle.tptp_grammar.specs.declared.fault.GrammarFault.{GrammarFault}
use Rattle.tptp_grammar.specs.declared.fault.GrammarFault.TheVariants as parsed
use Rattle.read_problems.specs.Denoted.{SaysIncludeFault, SaysTextFault, SaysSortFault, rule_status}
use Rattle.read_problems.specs.Ending.{Ending, says, AfterFile}
use Rattle.read_problems.specs.Spelled.{SaysLexFault, SaysGrammarFault}

-- ---- an ending of status 0 is no refusal

pub no_refusal : {T : Type 0} (ending : Ending) (status : ℕ) (out : List ℕ) → ending.status ≡ 0 → ending ≡ says (suc status) out → T
no_refusal ending status out zero is = absurd (omega (arith, zero, ap (λ (e : Ending). e.status) is))

pub no_rule : {T : Type 0} (ending : Ending) (r : SortRule) (out : List ℕ) → ending.status ≡ 0 → ending ≡ says (rule_status r) out → T
no_rule ending rule.FreeVariable out zero is = no_refusal ending 2 out zero is
no_rule ending rule.Arity out zero is = no_refusal ending 2 out zero is
no_rule ending rule.WrongSort out zero is = no_refusal ending 2 out zero is
no_rule ending rule.Redeclared out zero is = no_refusal ending 2 out zero is
no_rule ending rule.UnknownSort out zero is = no_refusal ending 2 out zero is
no_rule ending rule.NotTyped out zero is = no_refusal ending 2 out zero is
no_rule ending rule.TwoConjectures out zero is = no_refusal ending 2 out zero is
no_rule ending rule.Variables out zero is = no_refusal ending 6 out zero is
no_rule ending (rule.Limit limit) out zero is = no_refusal ending 6 out zero is

pub no_lex : {T : Type 0} (name : List ℕ) (fault : LexFault) (ending : Ending) → ending.status ≡ 0 → SaysLexFault name fault ending → T
no_lex name (lexed.Byte place) ending zero says = no_refusal ending 2 _ zero says
no_lex name (lexed.Unfinished place) ending zero says = no_refusal ending 2 _ zero says
no_lex name (lexed.Limit limit) ending zero says = no_refusal ending 6 _ zero says
no_lex name lexed.Memory ending zero says = absurd says

pub no_grammar : {T : Type 0} (name : List ℕ) (fault : GrammarFault) (ending : Ending) → ending.status ≡ 0 → SaysGrammarFault name fault ending → T
no_grammar name (parsed.Token place) ending zero says = no_refusal ending 2 _ zero says
no_grammar name (parsed.Profile place) ending zero says = no_refusal ending 2 _ zero says
no_grammar name (parsed.End place) ending zero says = no_refusal ending 2 _ zero says
no_grammar name (parsed.Deep place) ending zero says = no_refusal ending 6 _ zero says
no_grammar name parsed.Memory ending zero says = absurd says

no_text : {T : Type 0} (name : List ℕ) (fault : TextFault) (ending : Ending) → ending.status ≡ 0 → SaysTextFault name fault ending → T
no_text name (Lex fault) ending zero says = no_lex name fault ending zero says
no_text name (Grammar fault) ending zero says = no_grammar name fault ending zero says

pub no_include : {T : Type 0} (fault : IncludeFault) (ending : Ending) → ending.status ≡ 0 → SaysIncludeFault fault ending → T
no_include (included.Missing name) ending zero says = no_refusal ending 2 _ zero says
no_include (included.Cycle name) ending zero says = no_refusal ending 2 _ zero says
no_include (included.DeepInclude name) ending zero says = no_refusal ending 6 _ zero says
no_include (included.UnknownSelection file name) ending zero says = no_refusal ending 2 _ zero says
no_include (included.Text file fault) ending zero says = no_text file fault ending zero says
no_include (included.Limit file limit) ending zero says = no_refusal ending 6 _ zero says
no_include included.Store ending zero says = absurd says
no_include included.Memory ending zero says = absurd says

pub no_sort : {T : Type 0} (files : List (List ℕ)) (fault : SortFault) (ending : Ending) → ending.status ≡ 0 → SaysSortFault files fault ending → T
no_sort files (sorted.Line r place name) ending zero says = no_rule ending r _ zero says
no_sort files sorted.Memory ending zero says = absurd says

pub file_read : (files : Files) (name : List ℕ) (budget : ℕ) (Rest : List ℕ → Ending → Type 0) (ending : Ending) → ending.status ≡ 0 → AfterFile files name budget Rest ending → (text : List ℕ) × (file_at files name ≡ Some text) × Rest text ending
file_read files name budget Rest ending zero after = go (file_at files name) refl
  where
    go : (found : Option (List ℕ)) → file_at files name ≡ found → (text : List ℕ) × (file_at files name ≡ Some text) × Rest text ending
    go None is = no_refusal ending 2 _ zero (after.missing is)
    go (Some text) is = (text, is, after.read text is (λ limit over. no_refusal ending 6 _ zero (after.limit limit text is over)))
