use Rattle.std.proofs.Common.{rules, arith, ◌-◌, [], ◌∷◌, ◌++◌, sym, ◌∙◌, ap}
use Rattle.first_fault.specs.code.Reading.{tail, closed}
use Rattle.tptp_grammar.proofs.Nests.{reads_again, none_deeper, some_deeper, open_none, open_some, bracket_some}
use Rattle.tptp_lexer.specs.declared.token.Mark.TheVariants as m
use Rattle.tptp_grammar.specs.code.ReadTerms.{is_mark}
use Rattle.tptp_grammar.specs.code.ReadFormulas as spec
use Rattle.tptp_grammar.proofs.Loops.{unit_steps}
use Rattle.tptp_grammar.proofs.Adding.{second_unread, second_added, in_front_read, further_unread, further_added, further_smaller, closes}
use Rattle.tptp_grammar.proofs.formulas.+formula.Goals as goal

pub units-returns-in_err-push_read : goal.units-returns-in_err-push_read
units-returns-in_err-push_read t c = let f = second_unread c.args.mark (spec.unit c.args.typed c.args.room) c.args.first (tail c.args.tokens.now) c.skip.new.self c.unit.new.tokens c.skip.ensures c.unit.result _ _ _ c.unit.ensures c.in_err-push_read.ensures in search rules

pub units-members-init : goal.units-members-init
units-members-init t c = second_added c.args.mark (spec.unit c.args.typed c.args.room) c.args.first (unit_steps c.args.mark c.args.typed c.args.room) (tail c.args.tokens.now) c.skip.new.self c.unit.new.tokens c.skip.ensures c.unit.result _ _ (c.in_ok-push.ensures.ok ∙ ap (λ l. l ++ (c.args.first ∷ [])) c.short_list-found.ensures) c.unit.ensures c.in_ok-push_read.ensures

pub units-returns-in_err-push_read-2 : goal.units-returns-in_err-push_read-2
units-returns-in_err-push_read-2 t c = let f = further_unread c.args.mark (spec.unit c.args.typed c.args.room) c.args.first (unit_steps c.args.mark c.args.typed c.args.room) (tail c.args.tokens.now) c.members.tokens c.eat.new.self c.members.found c.members.invariant (sym c.eat.ensures.found ∙ c.members-test.true) c.eat.ensures.new c.unit-in-members.new.tokens c.unit-in-members.result _ _ c.unit-in-members.ensures c.in_err-push_read-2.ensures in search rules

pub units-members-smaller : goal.units-members-smaller
units-members-smaller t c = further_smaller c.args.mark (spec.unit c.args.typed c.args.room) c.args.first (unit_steps c.args.mark c.args.typed c.args.room) (tail c.args.tokens.now) c.members.tokens c.eat.new.self c.members.found c.members.invariant (sym c.eat.ensures.found ∙ c.members-test.true) c.eat.ensures.new c.unit-in-members.new.tokens c.unit-in-members.result _ c.unit-in-members.ensures c.in_ok-push_read-2.ensures

pub units-members-preserved : goal.units-members-preserved
units-members-preserved t c = further_added c.args.mark (spec.unit c.args.typed c.args.room) c.args.first (unit_steps c.args.mark c.args.typed c.args.room) (tail c.args.tokens.now) c.members.tokens c.eat.new.self c.members.found c.members.invariant (sym c.eat.ensures.found ∙ c.members-test.true) c.eat.ensures.new c.unit-in-members.new.tokens c.unit-in-members.result _ c.unit-in-members.ensures c.in_ok-push_read-2.ensures

pub units-returns : goal.units-returns
units-returns t c = in_front_read c.args.mark (spec.unit c.args.typed c.args.room) c.args.first (tail c.args.tokens.now) c.members.tokens c.eat.new.self c.members.found c.members.invariant (sym c.eat.ensures.found ∙ c.members-test.false) c.eat.ensures.new

pub nested-returns-then-room-levels : goal.nested-returns-then-room-levels
nested-returns-then-room-levels t c = none_deeper c.args.typed c.args.room c.args.levels c.args.tokens.now _ c.requires (omega arith)

pub nested-returns : goal.nested-returns
nested-returns t c =
    reads_again c.skip.new.self (tail c.args.tokens.now) c.skip.ensures (spec.unit c.args.typed (c.args.room - c.args.levels)) _ c.unit.result c.unit.new.tokens (some_deeper c.args.typed c.args.room c.args.levels c.args.tokens.now (tail c.args.tokens.now) c.requires (omega arith)) c.unit.ensures

pub parenthesis-returns-then-room-eq0 : goal.parenthesis-returns-then-room-eq0
parenthesis-returns-then-room-eq0 t c = rw c.if-room-eq0.true (open_none c.args.typed c.args.tokens.now)

pub parenthesis-returns : goal.parenthesis-returns
parenthesis-returns t c =
    reads_again c.skip.new.self (tail c.args.tokens.now) c.skip.ensures (closed (is_mark m.Close) (spec.formula c.args.typed (c.args.room - 1))) _ c.inner.result c.inner.new.tokens (open_some c.args.typed c.args.room c.args.tokens.now (omega arith)) c.inner.ensures

pub quantified-scope-requires : goal.quantified-scope-requires
quantified-scope-requires t c = (omega arith, bracket_some c.args.typed c.args.room c.in_ok-names.names c.args.tokens.now c.bracket.new.tokens c.in_ok-names.ensures)

pub inner-returns : goal.inner-returns
inner-returns t c = closes m.Close (spec.formula c.args.typed c.args.room c.args.tokens.now) c.formula-found.new.tokens c.closed.new.self c.formula-found.result c.closed.result c.formula-found.ensures c.closed.ensures
