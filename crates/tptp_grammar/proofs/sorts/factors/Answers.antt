use Rattle.std.proofs.Common.{rules, sym, ◌∙◌, ap}
use Rattle.first_fault.proofs.Loops.{members, starts, turn, turn_smaller}
use Rattle.tptp_lexer.specs.declared.token.Mark.TheVariants as m
use Rattle.tptp_grammar.specs.code.ReadTerms.{is_mark}
use Rattle.tptp_grammar.specs.code.ReadTypes as spec
use Rattle.tptp_grammar.proofs.Loops.{sort_steps, first_fails, later_fails}
use Rattle.tptp_grammar.proofs.sorts.factors.Goals as goal

pub returns-in_err-argument_sort : goal.returns-in_err-argument_sort
returns-in_err-argument_sort c = let f = first_fails m.Star spec.argument_sort c.args.tokens.now c.argument_sort.new.tokens _ c.in_err-argument_sort.ensures in search rules

pub members-init : goal.members-init
members-init c = let first = starts (is_mark m.Star) spec.argument_sort sort_steps c.args.tokens.now c.in_ok-argument_sort.field-0 c.argument_sort.new.tokens c.in_ok-argument_sort.ensures in search rules

pub returns-in_err-argument_sort-2 : goal.returns-in_err-argument_sort-2
returns-in_err-argument_sort-2 c = let f = later_fails m.Star spec.argument_sort sort_steps c.args.tokens.now c.members.tokens c.eat.new.self c.members.found c.members.invariant (sym c.eat.ensures.found ∙ c.members-test.true) c.eat.ensures.new c.argument_sort-in-members.new.tokens _ c.in_err-argument_sort-2.ensures in search rules

pub members-smaller : goal.members-smaller
members-smaller c = turn_smaller (is_mark m.Star) spec.argument_sort sort_steps c.args.tokens.now c.members.tokens c.eat.new.self c.members.found c.members.invariant (sym c.eat.ensures.found ∙ c.members-test.true) c.eat.ensures.new c.in_ok-argument_sort-2.field-0 c.argument_sort-in-members.new.tokens c.in_ok-argument_sort-2.ensures

pub members-preserved : goal.members-preserved
members-preserved c =
    turn (is_mark m.Star) spec.argument_sort sort_steps c.args.tokens.now c.members.tokens c.eat.new.self c.members.found c.members.invariant (sym c.eat.ensures.found ∙ c.members-test.true) c.eat.ensures.new c.in_ok-argument_sort-2.field-0 c.argument_sort-in-members.new.tokens c.in_ok-argument_sort-2.ensures
    ∙ ap (λ xs. members (is_mark m.Star) spec.argument_sort xs c.argument_sort-in-members.new.tokens) (sym c.in_ok-push-2.ensures.ok)
