use Rattle.std.proofs.Common.{arith, sym}
use Rattle.function_choices.proofs.AlikeFacts.{pass_lengths}
use Rattle.function_choices.proofs.alike.+alike_term.Goals as goal

pub alike_terms-returns-then-patterns-terms : goal.alike_terms-returns-then-patterns-terms
alike_terms-returns-then-patterns-terms t c = sym (pass_lengths c.args.function c.args.variable c.args.patterns.now c.args.terms.now (λ e. omega arith))
