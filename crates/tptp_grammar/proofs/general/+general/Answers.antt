use Rattle.std.proofs.Common.{rules, arith, ◌-◌, sym, ◌∙◌}
use Rattle.first_fault.specs.code.Reading.{tail, closed, separated, mapped}
use Rattle.tptp_base.specs.declared.item.GTerm.TheVariants as gt
use Rattle.tptp_grammar.proofs.Nests.{reads_again, arguments_none, arguments_some, bracketed_none, bracketed_some, pair_none, pair_some}
use Rattle.tptp_lexer.specs.declared.token.Mark.TheVariants as m
use Rattle.tptp_grammar.specs.code.ReadTerms.{is_mark}
use Rattle.tptp_grammar.specs.code.ReadGeneral as spec
use Rattle.tptp_grammar.proofs.Loops.{general_steps}
use Rattle.tptp_grammar.proofs.Adding.{first_unread, first_added, later_unread, later_added, later_smaller, closes}
use Rattle.tptp_grammar.proofs.general.+general.Goals as goal

pub general_list-returns-in_err-push_read : goal.general_list-returns-in_err-push_read
general_list-returns-in_err-push_read t c = let f = first_unread m.Comma (spec.general c.args.room) c.args.tokens.now c.general.new.tokens c.general.result _ _ _ c.general.ensures c.in_err-push_read.ensures in search rules

pub general_list-members-init : goal.general_list-members-init
general_list-members-init t c = first_added m.Comma (spec.general c.args.room) (general_steps c.args.room) c.args.tokens.now c.general.new.tokens c.general.result _ _ c.short_list-found.ensures c.general.ensures c.in_ok-push_read.ensures

pub general_list-returns-in_err-push_read-2 : goal.general_list-returns-in_err-push_read-2
general_list-returns-in_err-push_read-2 t c = let f = later_unread m.Comma (spec.general c.args.room) (general_steps c.args.room) c.args.tokens.now c.members.tokens c.eat.new.self c.members.found c.members.invariant (sym c.eat.ensures.found ∙ c.members-test.true) c.eat.ensures.new c.general-in-members.new.tokens c.general-in-members.result _ _ c.general-in-members.ensures c.in_err-push_read-2.ensures in search rules

pub general_list-members-smaller : goal.general_list-members-smaller
general_list-members-smaller t c = later_smaller m.Comma (spec.general c.args.room) (general_steps c.args.room) c.args.tokens.now c.members.tokens c.eat.new.self c.members.found c.members.invariant (sym c.eat.ensures.found ∙ c.members-test.true) c.eat.ensures.new c.general-in-members.new.tokens c.general-in-members.result _ c.general-in-members.ensures c.in_ok-push_read-2.ensures

pub general_list-members-preserved : goal.general_list-members-preserved
general_list-members-preserved t c = later_added m.Comma (spec.general c.args.room) (general_steps c.args.room) c.args.tokens.now c.members.tokens c.eat.new.self c.members.found c.members.invariant (sym c.eat.ensures.found ∙ c.members-test.true) c.eat.ensures.new c.general-in-members.new.tokens c.general-in-members.result _ c.general-in-members.ensures c.in_ok-push_read-2.ensures

pub arguments-returns-then-room-eq0 : goal.arguments-returns-then-room-eq0
arguments-returns-then-room-eq0 t c = rw c.if-room-eq0.true (arguments_none c.args.tokens.now)

pub arguments-returns : goal.arguments-returns
arguments-returns t c =
    reads_again c.skip.new.self (tail c.args.tokens.now) c.skip.ensures (closed (is_mark m.Close) (separated (is_mark m.Comma) (spec.general (c.args.room - 1)))) _ c.closed_list.result c.closed_list.new.tokens (arguments_some c.args.room c.args.tokens.now (omega arith)) c.closed_list.ensures

pub bracketed-returns-then-room-eq0 : goal.bracketed-returns-then-room-eq0
bracketed-returns-then-room-eq0 t c = rw c.if-room-eq0.true (bracketed_none c.args.tokens.now)

pub bracketed-returns : goal.bracketed-returns
bracketed-returns t c =
    reads_again c.skip.new.self (tail c.args.tokens.now) c.skip.ensures (spec.listed (spec.general (c.args.room - 1))) _ c.listed.result c.listed.new.tokens (bracketed_some c.args.room c.args.tokens.now (omega arith)) c.listed.ensures

pub pair-returns-then-room-eq0 : goal.pair-returns-then-room-eq0
pair-returns-then-room-eq0 t c = rw c.if-room-eq0.true (pair_none c.args.left c.args.tokens.now)

pub pair-returns : goal.pair-returns
pair-returns t c =
    reads_again c.skip.new.self (tail c.args.tokens.now) c.skip.ensures (λ ts. mapped (gt.Pair c.args.left) (spec.general (c.args.room - 1) ts)) _ c.right_side.result c.right_side.new.tokens (pair_some c.args.room c.args.left c.args.tokens.now (omega arith)) c.right_side.ensures

pub closed_list-returns : goal.closed_list-returns
closed_list-returns t c = closes c.args.mark (separated (is_mark m.Comma) (spec.general c.args.room) c.args.tokens.now) c.general_list-found.new.tokens c.closed.new.self c.general_list-found.result c.closed.result c.general_list-found.ensures c.closed.ensures
