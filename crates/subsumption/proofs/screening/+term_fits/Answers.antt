use Rattle.std.proofs.Common.{◌∙◌, sym, ap, arith}
use Rattle.std.proofs.lemmas.Bool.{eq-eqb}
use Rattle.fof_terms.specs.declared.term.Term.{App}
use Rattle.subsumption.proofs.MatchedFacts.{there_at, all_at, never_variable, to_args}
use Rattle.subsumption.proofs.screening.+term_fits.Goals as goal

pub term_fits-returns-in-Var-target : goal.term_fits-returns-in-Var-target
term_fits-returns-in-Var-target t c = λ _ s e. never_variable c.args.term.now c.args.target.now c.in-App.function c.in-Var-target.field-0 c.in-App.args c.in-App.is c.in-Var-target.is s e

pub term_fits-returns-then-function-other : goal.term_fits-returns-then-function-other
term_fits-returns-then-function-other t c = λ no s e.
    c.terms_fit.ensures no s
    (to_args c.args.term.now c.args.target.now c.in-App.function c.in-App-target.other c.as_slice.result.now c.as_slice-then-function-other.result.now (c.in-App.is ∙ ap (App c.in-App.function) (sym c.as_slice.ensures)) (c.in-App-target.is ∙ ap (App c.in-App-target.other) (sym c.as_slice-then-function-other.ensures)) s e).1

pub term_fits-returns-else-function-other : goal.term_fits-returns-else-function-other
term_fits-returns-else-function-other t c = λ no s e.
    let same = (to_args c.args.term.now c.args.target.now c.in-App.function c.in-App-target.other c.in-App.args c.in-App-target.others c.in-App.is c.in-App-target.is s e).0 in
    let yes = eq-eqb c.in-App.function c.in-App-target.other same in
    cc

pub terms_fit-returns-then-not-term_fits : goal.terms_fit-returns-then-not-term_fits
terms_fit-returns-then-not-term_fits t c = λ _ s e.
    c.term_fits.ensures c.if-not-term_fits.true s
    (all_at s c.args.terms.now c.args.targets.now c.loop-i.i c.index-terms-i.result c.index-targets-i.result (there_at c.args.terms.now c.loop-i.i c.index-terms-i.result (omega arith) c.index-terms-i.is) (there_at c.args.targets.now c.loop-i.i c.index-targets-i.result (omega arith) c.index-targets-i.is) e).1
