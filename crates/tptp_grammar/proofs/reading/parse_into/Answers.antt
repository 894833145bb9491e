use Rattle.std.proofs.Common.{sym, ◌∙◌, ap, subst}
use Rattle.tptp_grammar.specs.Answers as answers
use Rattle.tptp_grammar.specs.code.Answers as answers_code
use Rattle.tptp_grammar.specs.code.Dots as dots
use Rattle.tptp_grammar.proofs.Taking.{taken_first, taken_more, taken_last, starts_shorter}
use Rattle.tptp_grammar.proofs.Whole.{stops}
use Rattle.tptp_grammar.proofs.reading.parse_into.Goals as goal

pub tokens-init : goal.tokens-init
tokens-init g c = taken_first g.T.Taker.parts (g.T.Taker.kept c.args.into.now) c.args.tokens.now.style c.args.tokens.now.items c.rest-rest.result c.rest-rest.ensures

pub tokens-smaller-in-Continue-1 : goal.tokens-smaller-in-Continue-1
tokens-smaller-in-Continue-1 g c =
    starts_shorter c.args.tokens.now.style c.in-Some.first c.in-Some.place c.next_placed.new.self c.tokens.rest c.in-Ok.item c.take_turn.new.rest c.in-Some.ensures c.in-Ok.ensures.ok

pub tokens-preserved-in-Continue-1 : goal.tokens-preserved-in-Continue-1
tokens-preserved-in-Continue-1 g c =
    taken_more g.T.Taker.parts (g.T.Taker.kept c.args.into.now) c.args.tokens.now.style c.args.tokens.now.items (g.T.Taker.kept c.tokens.into) (g.T.Taker.kept c.take.new.self) c.in-Some.first c.in-Some.place c.next_placed.new.self c.tokens.rest
    c.in-Some.ensures c.tokens.invariant c.in-Ok.item c.take_turn.new.rest c.in-Ok.ensures.ok c.in_ok-take-in-Ok.ensures

pub returns-in-Err-clause-fault : goal.returns-in-Err-clause-fault
returns-in-Err-clause-fault g c =
    let style = c.args.tokens.now.style in
    let all = c.args.tokens.now.items in
    let end = c.args.tokens.now.end in
    let r = c.in-Err.refusal in
    let h = c.tokens.invariant in
    let entry = c.entry_behind-entry.ensures ∙ ap (dots.entry_behind r.taken) c.again-start.ensures in
    let is = c.fault_of.ensures ∙ ap (λ o. answers_code.fault_of r.stop o end) entry in
    subst (answers.FaultIs style all end) (sym is)
    (stops style all end h.found c.in-Some.first c.in-Some.place c.next_placed.new.self c.tokens.rest c.in-Some.ensures h.kept r.stop r.taken c.in-Err.ensures.err)

pub returns-clause-taken : goal.returns-clause-taken
returns-clause-taken g c =
    taken_last g.T.Taker.parts (g.T.Taker.kept c.args.into.now) c.args.tokens.now.style c.args.tokens.now.items (g.T.Taker.kept c.tokens.into) c.tokens.rest (c.is_empty.ensures.0 c.tokens-test.false) c.tokens.invariant
