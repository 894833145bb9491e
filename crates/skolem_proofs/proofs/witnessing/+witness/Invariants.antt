use Rattle.std.proofs.Common.{◌+◌, ◌*◌, take, drop, map, sum}
use Rattle.clause_form.specs.Sizes.{norm_size_of}
use Rattle.skolem_proofs.specs.code.Witnessing.{AreGoneSoFar}
use Rattle.skolem_proofs.proofs.witnessing.+witness.Given as goal

abbrev pub decreases-witness : goal.decreases-witness
decreases-witness l = 2 * norm_size_of l.form.now

abbrev pub decreases-witness_all : goal.decreases-witness_all
decreases-witness_all l = 2 * sum (map norm_size_of l.forms.now) + 1

abbrev pub decreases-witness_some : goal.decreases-witness_some
decreases-witness_some l = 2 * norm_size_of l.body.now + 1

abbrev pub invariant-witness_all-loop-number : goal.invariant-witness_all-loop-number
invariant-witness_all-loop-number l = AreGoneSoFar l.conjunction l.forms (take l.number l.forms) (drop l.number l.forms) l.uses l.first l.fn.entries l.entries l.made l.arms
