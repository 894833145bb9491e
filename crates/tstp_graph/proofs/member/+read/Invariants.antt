use Rattle.std.proofs.Common.{◌≡◌, map, take}
use Rattle.std.specs.List.{flat_map, list_all}
use Rattle.tstp_graph.specs.code.Sources.{reading}
use Rattle.tstp_graph.proofs.member.+read.Given as goal

abbrev pub invariant-read_all-loop-term : goal.invariant-read_all-loop-term
invariant-read_all-loop-term l = l.readings ≡ map reading (take l.term-index l.terms)

abbrev pub invariant-read_list-loop-member : goal.invariant-read_list-loop-member
invariant-read_list-loop-member l = record {
  good : l.is_good ≡ list_all (λ m. (reading m).is_good) (take l.member-index l.members);
  gives : l.gives ≡ flat_map (λ m. (reading m).gives) (take l.member-index l.members);
}
