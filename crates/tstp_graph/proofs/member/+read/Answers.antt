use Rattle.std.proofs.Common.{map}
use Rattle.tstp_graph.specs.code.Sources.{reading}
use Rattle.tstp_graph.proofs.Readers.{taken_all, list_read}
use Rattle.tstp_graph.proofs.member.+read.Goals as goal

pub read_all-returns : goal.read_all-returns
read_all-returns t c = taken_all (map reading) c.args.terms.now c.loop-term.term-index c.loop-term.readings c.loop-term-test.false c.loop-term.invariant

pub read_list-returns : goal.read_list-returns
read_list-returns t c = list_read c.args.members.now c.loop-member.member-index c.loop-member.is_good c.loop-member.gives c.loop-member-test.false c.loop-member.invariant.good c.loop-member.invariant.gives
