use Rattle.std.proofs.Common.{rules, sym, ◌∙◌, ap}
use Rattle.first_fault.proofs.Loops.{members, starts, turn, turn_smaller}
use Rattle.tptp_lexer.specs.declared.token.Mark.TheVariants as m
use Rattle.tptp_grammar.specs.code.ReadTerms.{is_mark}
use Rattle.tptp_grammar.specs.code.ReadFormulas as spec
use Rattle.tptp_grammar.proofs.Loops.{variable_steps, first_fails, later_fails}
use Rattle.tptp_grammar.proofs.formulas.variable_list.Goals as goal

pub returns-in_err-bound_variable : goal.returns-in_err-bound_variable
returns-in_err-bound_variable c = let f = first_fails m.Comma (spec.bound_variable c.args.typed) c.args.tokens.now c.bound_variable.new.tokens _ c.in_err-bound_variable.ensures in search rules

pub members-init : goal.members-init
members-init c = let first = starts (is_mark m.Comma) (spec.bound_variable c.args.typed) (variable_steps c.args.typed) c.args.tokens.now c.in_ok-bound_variable.field-0 c.bound_variable.new.tokens c.in_ok-bound_variable.ensures in search rules

pub returns-in_err-bound_variable-2 : goal.returns-in_err-bound_variable-2
returns-in_err-bound_variable-2 c = let f = later_fails m.Comma (spec.bound_variable c.args.typed) (variable_steps c.args.typed) c.args.tokens.now c.members.tokens c.eat.new.self c.members.found c.members.invariant (sym c.eat.ensures.found ∙ c.members-test.true) c.eat.ensures.new c.bound_variable-in-members.new.tokens _ c.in_err-bound_variable-2.ensures in search rules

pub members-smaller : goal.members-smaller
members-smaller c = turn_smaller (is_mark m.Comma) (spec.bound_variable c.args.typed) (variable_steps c.args.typed) c.args.tokens.now c.members.tokens c.eat.new.self c.members.found c.members.invariant (sym c.eat.ensures.found ∙ c.members-test.true) c.eat.ensures.new c.in_ok-bound_variable-2.field-0 c.bound_variable-in-members.new.tokens c.in_ok-bound_variable-2.ensures

pub members-preserved : goal.members-preserved
members-preserved c =
    turn (is_mark m.Comma) (spec.bound_variable c.args.typed) (variable_steps c.args.typed) c.args.tokens.now c.members.tokens c.eat.new.self c.members.found c.members.invariant (sym c.eat.ensures.found ∙ c.members-test.true) c.eat.ensures.new c.in_ok-bound_variable-2.field-0 c.bound_variable-in-members.new.tokens c.in_ok-bound_variable-2.ensures
    ∙ ap (λ xs. members (is_mark m.Comma) (spec.bound_variable c.args.typed) xs c.bound_variable-in-members.new.tokens) (sym c.in_ok-push-2.ensures.ok)
