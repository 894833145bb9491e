use Rattle.std.proofs.Common.{rules, sym, ◌∙◌, ap}
use Rattle.first_fault.proofs.Loops.{members, starts, turn, turn_smaller}
use Rattle.tptp_lexer.specs.declared.token.Mark.TheVariants as m
use Rattle.tptp_grammar.specs.code.ReadTerms.{is_mark}
use Rattle.tptp_grammar.specs.code.ReadItems as spec
use Rattle.tptp_grammar.proofs.Loops.{name_steps, first_fails, later_fails}
use Rattle.tptp_grammar.proofs.items.names.Goals as goal

pub returns-in_err-name : goal.returns-in_err-name
returns-in_err-name c = let f = first_fails m.Comma spec.name c.args.tokens.now c.name.new.tokens _ c.in_err-name.ensures in search rules

pub members-init : goal.members-init
members-init c = let first = starts (is_mark m.Comma) spec.name name_steps c.args.tokens.now c.in_ok-name.field-0 c.name.new.tokens c.in_ok-name.ensures in search rules

pub returns-in_err-name-2 : goal.returns-in_err-name-2
returns-in_err-name-2 c = let f = later_fails m.Comma spec.name name_steps c.args.tokens.now c.members.tokens c.eat.new.self c.members.found c.members.invariant (sym c.eat.ensures.found ∙ c.members-test.true) c.eat.ensures.new c.name-in-members.new.tokens _ c.in_err-name-2.ensures in search rules

pub members-smaller : goal.members-smaller
members-smaller c = turn_smaller (is_mark m.Comma) spec.name name_steps c.args.tokens.now c.members.tokens c.eat.new.self c.members.found c.members.invariant (sym c.eat.ensures.found ∙ c.members-test.true) c.eat.ensures.new c.in_ok-name-2.field-0 c.name-in-members.new.tokens c.in_ok-name-2.ensures

pub members-preserved : goal.members-preserved
members-preserved c =
    turn (is_mark m.Comma) spec.name name_steps c.args.tokens.now c.members.tokens c.eat.new.self c.members.found c.members.invariant (sym c.eat.ensures.found ∙ c.members-test.true) c.eat.ensures.new c.in_ok-name-2.field-0 c.name-in-members.new.tokens c.in_ok-name-2.ensures
    ∙ ap (λ xs. members (is_mark m.Comma) spec.name xs c.name-in-members.new.tokens) (sym c.in_ok-push-2.ensures.ok)
