use Rattle.std.proofs.Common.{rules, [], ◌∷◌, ◌++◌, sym, ◌∙◌, ap}
use Rattle.first_fault.specs.code.Reading.{tail}
use Rattle.tptp_lexer.specs.declared.token.Mark.TheVariants as m
use Rattle.tptp_grammar.specs.code.ReadClauses as spec
use Rattle.tptp_grammar.proofs.Loops.{literal_steps}
use Rattle.tptp_grammar.proofs.Adding.{second_unread, second_added, in_front_read, further_unread, further_added, further_smaller}
use Rattle.tptp_grammar.proofs.clauses.literal_list.Goals as goal

pub returns-in_err-push_read : goal.returns-in_err-push_read
returns-in_err-push_read c = let f = second_unread m.Bar (spec.literal c.args.room) c.args.first (tail c.args.tokens.now) c.skip.new.self c.literal.new.tokens c.skip.ensures c.literal.result _ _ _ c.literal.ensures c.in_err-push_read.ensures in search rules

pub members-init : goal.members-init
members-init c = second_added m.Bar (spec.literal c.args.room) c.args.first (literal_steps c.args.room) (tail c.args.tokens.now) c.skip.new.self c.literal.new.tokens c.skip.ensures c.literal.result _ _ (c.in_ok-push.ensures.ok ∙ ap (λ l. l ++ (c.args.first ∷ [])) c.short_list-found.ensures) c.literal.ensures c.in_ok-push_read.ensures

pub returns-in_err-push_read-2 : goal.returns-in_err-push_read-2
returns-in_err-push_read-2 c = let f = further_unread m.Bar (spec.literal c.args.room) c.args.first (literal_steps c.args.room) (tail c.args.tokens.now) c.members.tokens c.eat.new.self c.members.found c.members.invariant (sym c.eat.ensures.found ∙ c.members-test.true) c.eat.ensures.new c.literal-in-members.new.tokens c.literal-in-members.result _ _ c.literal-in-members.ensures c.in_err-push_read-2.ensures in search rules

pub members-smaller : goal.members-smaller
members-smaller c = further_smaller m.Bar (spec.literal c.args.room) c.args.first (literal_steps c.args.room) (tail c.args.tokens.now) c.members.tokens c.eat.new.self c.members.found c.members.invariant (sym c.eat.ensures.found ∙ c.members-test.true) c.eat.ensures.new c.literal-in-members.new.tokens c.literal-in-members.result _ c.literal-in-members.ensures c.in_ok-push_read-2.ensures

pub members-preserved : goal.members-preserved
members-preserved c = further_added m.Bar (spec.literal c.args.room) c.args.first (literal_steps c.args.room) (tail c.args.tokens.now) c.members.tokens c.eat.new.self c.members.found c.members.invariant (sym c.eat.ensures.found ∙ c.members-test.true) c.eat.ensures.new c.literal-in-members.new.tokens c.literal-in-members.result _ c.literal-in-members.ensures c.in_ok-push_read-2.ensures

pub returns : goal.returns
returns c = in_front_read m.Bar (spec.literal c.args.room) c.args.first (tail c.args.tokens.now) c.members.tokens c.eat.new.self c.members.found c.members.invariant (sym c.eat.ensures.found ∙ c.members-test.false) c.eat.ensures.new
