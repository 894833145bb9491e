use Rattle.std.proofs.Common.{rules, sym, ◌∙◌, ap}
use Rattle.first_fault.proofs.Loops.{members, starts, turn, turn_smaller}
use Rattle.tptp_lexer.specs.declared.token.Mark.TheVariants as m
use Rattle.tptp_grammar.specs.code.ReadTerms as spec
use Rattle.tptp_grammar.proofs.Loops.{term_steps, first_fails, later_fails}
use Rattle.tptp_grammar.proofs.terms.+term.Goals as goal

pub terms-returns-in_err-term : goal.terms-returns-in_err-term
terms-returns-in_err-term t c = let f = first_fails m.Comma (spec.term c.args.room) c.args.tokens.now c.term.new.tokens _ c.in_err-term.ensures in search rules

pub terms-members-init : goal.terms-members-init
terms-members-init t c =
    let first = starts (spec.is_mark m.Comma) (spec.term c.args.room) (term_steps c.args.room) c.args.tokens.now c.in_ok-term.field-0 c.term.new.tokens c.in_ok-term.ensures in
    search rules

pub terms-returns-in_err-term-2 : goal.terms-returns-in_err-term-2
terms-returns-in_err-term-2 t c =
    let f = later_fails m.Comma (spec.term c.args.room) (term_steps c.args.room) c.args.tokens.now c.members.tokens c.eat.new.self c.members.found c.members.invariant (sym c.eat.ensures.found ∙ c.members-test.true) c.eat.ensures.new c.term-in-members.new.tokens _ c.in_err-term-2.ensures in
    search rules

pub terms-members-smaller : goal.terms-members-smaller
terms-members-smaller t c =
    turn_smaller (spec.is_mark m.Comma) (spec.term c.args.room) (term_steps c.args.room) c.args.tokens.now c.members.tokens c.eat.new.self c.members.found c.members.invariant (sym c.eat.ensures.found ∙ c.members-test.true) c.eat.ensures.new c.in_ok-term-2.field-0 c.term-in-members.new.tokens c.in_ok-term-2.ensures

pub terms-members-preserved : goal.terms-members-preserved
terms-members-preserved t c =
    turn (spec.is_mark m.Comma) (spec.term c.args.room) (term_steps c.args.room) c.args.tokens.now c.members.tokens c.eat.new.self c.members.found c.members.invariant (sym c.eat.ensures.found ∙ c.members-test.true) c.eat.ensures.new c.in_ok-term-2.field-0 c.term-in-members.new.tokens c.in_ok-term-2.ensures
    ∙ ap (λ xs. members (spec.is_mark m.Comma) (spec.term c.args.room) xs c.term-in-members.new.tokens) (sym c.in_ok-push-2.ensures.ok)
