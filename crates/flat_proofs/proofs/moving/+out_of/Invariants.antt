use Rattle.std.proofs.Common.{◌≡◌, take, map}
use Rattle.clause_form.specs.Norm.{node}
use Rattle.flat_proofs.specs.code.Loose.{loose}
use Rattle.flat_proofs.specs.code.Members.{seen, bare, room_of}
use Rattle.flat_proofs.specs.code.Moving.{AreMoved}
use Rattle.flat_proofs.proofs.moving.+out_of.Given as goal

abbrev pub invariant-out_of_members-loop-number : goal.invariant-out_of_members-loop-number
invariant-out_of_members-loop-number l = record {
  members : map seen l.members ≡ map bare (map loose (take l.number l.forms));
  parts : AreMoved l.forth (room_of (node l.kind l.forms)) (take l.number l.forms) l.parts;
}
