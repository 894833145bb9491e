use Rattle.function_choices.proofs.MatchedFacts.{nothing_matched, none_left}
use Rattle.function_choices.proofs.matched.+match_term.Goals as goal

pub match_term-returns-in-Var-term : goal.match_term-returns-in-Var-term
match_term-returns-in-Var-term t c = nothing_matched c.in-App.field-0 c.in-Var-term.field-0 c.in-App.patterns c.args.pattern.now c.args.term.now c.args.matched.now c.in-App.is c.in-Var-term.is

pub match_terms-returns-then-at-terms : goal.match_terms-returns-then-at-terms
match_terms-returns-then-at-terms t c = none_left c.loop-at.at c.args.patterns.now c.args.terms.now c.loop-at.matched _ c.if-at-terms.true c.loop-at.invariant
