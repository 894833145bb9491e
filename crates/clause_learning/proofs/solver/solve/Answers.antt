use Rattle.std.proofs.Common.{◌∙◌, List, map, subst}
use Rattle.clause_learning.specs.declared.literal.Literal.{Literal}
use Rattle.clause_learning.specs.declared.solver.Turn.{Turn}
use Rattle.clause_learning.specs.Literals.{complement}
use Rattle.clause_learning.specs.Refutations.{IsRefutation}
use Rattle.clause_learning.specs.Valuations.{entry_of}
use Rattle.clause_learning.specs.code.States.{AllLoose, IsOver, IsSettled, IsTurned}
use Rattle.clause_learning.proofs.Turning.{further_smaller, settled_model}
use Rattle.clause_learning.proofs.solver.solve.Goals as goal

pub turns-init : goal.turns-init
turns-init c = record { state = c.in_ok-solver.ensures.state; inputs = c.in_ok-solver.ensures.inputs; many = c.in_ok-solver.ensures.many }

pub turns-smaller : goal.turns-smaller
turns-smaller c =
    let P : Turn → Type 0 = λ t. IsTurned c.turns.solver c.turn.new.self t in
    further_smaller c.turns.solver c.turn.new.self c.turns.invariant.state (subst P c.in-Further.is c.in_ok-turn.ensures)

pub refuted-requires : goal.refuted-requires
refuted-requires c =
    let P : Turn → Type 0 = λ t. IsTurned c.turns.solver c.turn.new.self t in
    let over : IsOver c.turns.solver c.turn.new.self = subst P c.in-Refuted.is c.in_ok-turn.ensures in
    over.refuted

pub returns-in-Refuted : goal.returns-in-Refuted
returns-in-Refuted c =
    let P : Turn → Type 0 = λ t. IsTurned c.turns.solver c.turn.new.self t in
    let over : IsOver c.turns.solver c.turn.new.self = subst P c.in-Refuted.is c.in_ok-turn.ensures in
    let R : List (List Literal) → Type 0 = λ is. IsRefutation complement is (map entry_of c.in_ok-refuted-in-Refuted.field-0) in
    subst R (over.inputs ∙ c.turns.invariant.inputs) c.in_ok-refuted-in-Refuted.ensures

pub returns-in-Settled : goal.returns-in-Settled
returns-in-Settled c =
    let values = c.turn.new.self.trail.values in
    let P : Turn → Type 0 = λ t. IsTurned c.turns.solver c.turn.new.self t in
    let settled : IsSettled c.turns.solver c.turn.new.self = subst P c.in-Settled.is c.in_ok-turn.ensures in
    let L : List (List Literal) → Type 0 = λ is. AllLoose values is in
    settled_model c.args.atoms c.args.inputs values c.in_ok-signs-in-Settled.field-0 (settled.many ∙ c.turns.invariant.many) c.requires settled.valued (subst L c.turns.invariant.inputs settled.loose) c.in_ok-signs-in-Settled.ensures
