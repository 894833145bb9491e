use Rattle.std.proofs.Common.{List, ℕ, subst}
use Rattle.read_problems.specs.Answer.{ending_of}
use Rattle.read_problems.specs.Spelled.{SaysGrammarFault}
use Rattle.tptp_commands.proofs.Models.{model_refused}
use Rattle.tptp_commands.proofs.model_text.read_model_items.Goals as goal

pub returns-in_ok-say_grammar_fault-in-Err-clause-refused : goal.returns-in_ok-say_grammar_fault-in-Err-clause-refused
returns-in_ok-say_grammar_fault-in-Err-clause-refused c =
    model_refused c.args.name.now c.args.text.now c.in_ok-tokens.tokens c.as_words-words.result c.in-Err.fault _ c.in_ok-tokens.ensures.lexed c.as_words-words.ensures.items c.as_words-words.ensures.end c.as_words-words.ensures.style c.in-Err.ensures.answers
    (subst (λ (name : List ℕ). SaysGrammarFault name c.in-Err.fault (ending_of c.in_ok-say_grammar_fault-in-Err.field-0)) c.as_bytes.ensures.value c.in_ok-say_grammar_fault-in-Err.ensures.said)
