use Rattle.std.proofs.Common.{◌∙◌, sym, ap, subst, arith, length, rules}
use Rattle.std.specs.List.{All as Each}
use Rattle.fof_terms.specs.declared.term.Term.{App}
use Rattle.subsumption.specs.code.Bound.{images_of}
use Rattle.subsumption.specs.code.Matched.{IsWithin}
use Rattle.subsumption.proofs.MatchedFacts.{there_at, variable_within, matched_variable, keeps_variable, ok_as, on_ok, never_variable, to_args, matched_args, args_within, keeps_args, more_match, never_match, over_with_one, keeps_with_one}
use Rattle.subsumption.proofs.matching.+matching.Goals as goal
use Rattle.fof_terms.specs.declared.term.Term.TheViews.{the_lemmas}

pub match_term-bind-requires : goal.match_term-bind-requires
match_term-bind-requires t c = variable_within _ c.in-Var.variable c.args.term.now c.in-Var.is c.requires

pub match_term-returns-in-Var-clause-matched : goal.match_term-returns-in-Var-clause-matched
match_term-returns-in-Var-clause-matched t c =
    ok_as c.bind.result (matched_variable c.args.bindings.now c.bind.new.self c.in-Var.variable c.args.term.now c.args.target.now c.in-Var.is) c.bind.ensures.matched

pub match_term-returns-in-Var-clause-sorted : goal.match_term-returns-in-Var-clause-sorted
match_term-returns-in-Var-clause-sorted t c =
    on_ok c.bind.result (keeps_variable c.args.bindings.now c.bind.new.self c.in-Var.variable c.args.term.now c.args.target.now c.in-Var.is) c.bind.ensures.sorted

pub match_term-returns-in-Var-target-clause-matched : goal.match_term-returns-in-Var-target-clause-matched
match_term-returns-in-Var-target-clause-matched t c = λ s h e. never_variable c.args.term.now c.args.target.now c.in-App.function c.in-Var-target.field-0 c.in-App.args c.in-App.is c.in-Var-target.is s e

pub match_term-returns-then-function-other-clause-matched : goal.match_term-returns-then-function-other-clause-matched
match_term-returns-then-function-other-clause-matched t c = λ s h e.
    c.if-function-other.true (to_args c.args.term.now c.args.target.now c.in-App.function c.in-App-target.other c.in-App.args c.in-App-target.others c.in-App.is c.in-App-target.is s e).0

pub match_term-match_terms-requires : goal.match_term-match_terms-requires
match_term-match_terms-requires t c = (
  search (rules, the_lemmas),
  subst (Each (IsWithin (length (images_of c.args.bindings.now)))) (sym c.as_slice.ensures) (args_within _ c.in-App.function c.in-App.args c.args.term.now c.in-App.is c.requires),
)

pub match_term-returns-else-function-other-clause-matched : goal.match_term-returns-else-function-other-clause-matched
match_term-returns-else-function-other-clause-matched t c =
    ok_as c.match_terms.result (matched_args c.args.bindings.now c.match_terms.new.bindings c.args.term.now c.args.target.now c.in-App.function c.in-App-target.other c.as_slice.result.now c.as_slice-in-App-target.result.now (c.in-App.is ∙ ap (App c.in-App.function) (sym c.as_slice.ensures)) (c.in-App-target.is ∙ ap (App c.in-App-target.other) (sym c.as_slice-in-App-target.ensures)) c.if-function-other.false) c.match_terms.ensures.matched

pub match_term-returns-else-function-other-clause-sorted : goal.match_term-returns-else-function-other-clause-sorted
match_term-returns-else-function-other-clause-sorted t c =
    on_ok c.match_terms.result (keeps_args c.args.bindings.now c.match_terms.new.bindings c.args.term.now c.args.target.now c.in-App.function c.in-App-target.other c.as_slice.result.now c.as_slice-in-App-target.result.now (c.in-App.is ∙ ap (App c.in-App.function) (sym c.as_slice.ensures)) (c.in-App-target.is ∙ ap (App c.in-App-target.other) (sym c.as_slice-in-App-target.ensures)) c.if-function-other.false) c.match_terms.ensures.sorted

pub match_terms-returns-then-not-branch-clause-over : goal.match_terms-returns-then-not-branch-clause-over
match_terms-returns-then-not-branch-clause-over t c =
    over_with_one c.args.bindings.now c.loop-i.bindings c.match_term.new.bindings c.args.terms.now c.args.targets.now c.loop-i.i c.index-terms-i.result c.index-targets-i.result
    (there_at c.args.terms.now c.loop-i.i c.index-terms-i.result (omega arith) c.index-terms-i.is) (there_at c.args.targets.now c.loop-i.i c.index-targets-i.result (omega arith) c.index-targets-i.is) c.loop-i.invariant c.in_ok-match_term.ensures.over

pub match_terms-returns-then-not-branch-clause-matched : goal.match_terms-returns-then-not-branch-clause-matched
match_terms-returns-then-not-branch-clause-matched t c =
    never_match c.args.bindings.now c.loop-i.bindings c.match_term.new.bindings c.args.terms.now c.args.targets.now c.loop-i.i c.index-terms-i.result c.index-targets-i.result
    (there_at c.args.terms.now c.loop-i.i c.index-terms-i.result (omega arith) c.index-terms-i.is) (there_at c.args.targets.now c.loop-i.i c.index-targets-i.result (omega arith) c.index-targets-i.is) c.loop-i.invariant
    c.in_ok-match_term.field-0 c.if-not-branch.true c.in_ok-match_term.ensures.matched

pub match_terms-returns-then-not-branch-clause-sorted : goal.match_terms-returns-then-not-branch-clause-sorted
match_terms-returns-then-not-branch-clause-sorted t c =
    keeps_with_one c.args.bindings.now c.loop-i.bindings c.match_term.new.bindings c.args.terms.now c.args.targets.now c.loop-i.i c.index-terms-i.result c.index-targets-i.result
    (there_at c.args.terms.now c.loop-i.i c.index-terms-i.result (omega arith) c.index-terms-i.is) (there_at c.args.targets.now c.loop-i.i c.index-targets-i.result (omega arith) c.index-targets-i.is) c.loop-i.invariant c.in_ok-match_term.ensures.sorted

pub match_terms-loop-i-preserved : goal.match_terms-loop-i-preserved
match_terms-loop-i-preserved t c =
    more_match c.args.bindings.now c.loop-i.bindings c.match_term.new.bindings c.args.terms.now c.args.targets.now c.loop-i.i c.index-terms-i.result c.index-targets-i.result
    (there_at c.args.terms.now c.loop-i.i c.index-terms-i.result (omega arith) c.index-terms-i.is) (there_at c.args.targets.now c.loop-i.i c.index-targets-i.result (omega arith) c.index-targets-i.is) c.loop-i.invariant
    c.in_ok-match_term.field-0 c.if-not-branch.false c.in_ok-match_term.ensures.over c.in_ok-match_term.ensures.matched c.in_ok-match_term.ensures.sorted
