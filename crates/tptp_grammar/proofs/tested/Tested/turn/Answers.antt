use Rattle.std.proofs.Common.{sym, ◌∙◌}
use Rattle.tptp_grammar.proofs.ReadTested.{no_items, read_turn, only_memory}
use Rattle.tptp_grammar.proofs.tested.Tested.turn.Goals as goal

pub returns-in_default : goal.returns-in_default
returns-in_default c =
    let none = sym c.self.view_is ∙ no_items c.self.inside.style c.self.inside.rest (sym c.again-rest.ensures ∙ c.in_default.ensures.0) in
    (none, none)

pub invariant_of-self : goal.invariant_of-self
invariant_of-self c =
    (read_turn c.self.inside.style c.in-Some.first c.in-Some.place c.next_placed.new.self c.self.inside.rest (sym c.again-rest.ensures ∙ c.in-Some.ensures) c.self.invariant c.in-Ok.item c.take_turn.new.rest c.in-Ok.ensures.ok).0

pub wanting-requires : goal.wanting-requires
wanting-requires c =
    only_memory c.self.inside.style c.in-Some.first c.in-Some.place c.next_placed.new.self c.self.inside.rest (sym c.again-rest.ensures ∙ c.in-Some.ensures) c.self.invariant c.in-Err.refusal.stop c.in-Err.refusal.taken c.in-Err.ensures.err

pub returns-in-Ok : goal.returns-in-Ok
returns-in-Ok c =
    sym c.self.view_is
    ∙ (read_turn c.self.inside.style c.in-Some.first c.in-Some.place c.next_placed.new.self c.self.inside.rest (sym c.again-rest.ensures ∙ c.in-Some.ensures) c.self.invariant c.in-Ok.item c.take_turn.new.rest c.in-Ok.ensures.ok).1
