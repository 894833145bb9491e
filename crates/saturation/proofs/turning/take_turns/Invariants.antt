use Rattle.std.proofs.Common.{◌≡◌, ◌-◌, true, length}
use Rattle.saturation.specs.Lists.{bound_of}
use Rattle.saturation.specs.Members.{clauses_of}
use Rattle.saturation.specs.code.Entered.{AreEntered}
use Rattle.saturation.proofs.Passing.{IsTurning}
use Rattle.saturation.proofs.turning.take_turns.Given as goal

abbrev pub invariant-turns : goal.invariant-turns
invariant-turns g l = record {
  turn : IsTurning l.signature (g.I.Partners.is_whole l.initial.literals) l.inputs l.limit l.list l.known l.queue l.heavy;
  literals : g.I.Partners.is_whole l.literals ≡ g.I.Partners.is_whole l.initial.literals;
  terms : g.I.Partners.is_whole l.terms ≡ g.I.Partners.is_whole l.initial.literals;
  entered : g.I.Partners.is_whole l.initial.literals ≡ true → AreEntered (clauses_of l.list) (g.I.Partners.entries l.literals) (g.I.Partners.entries l.terms);
  bound : l.bound ≡ bound_of l.inputs;
}

abbrev pub decreases-turns : goal.decreases-turns
decreases-turns g l = l.limit - length l.list
