use Rattle.std.proofs.Common.{subst, List}
use Rattle.saturation.specs.declared.member.Member.{Member}
use Rattle.saturation.specs.Members.{clauses_of}
use Rattle.saturation.specs.code.Steps.{AreCoveredIn}
use Rattle.saturation.proofs.turning.at_end.Goals as goal

pub returns : goal.returns
returns c = λ whole inputs h kept.
    c.at_rest.ensures c.args.signature.now whole inputs c.args.heavy.now h kept
    (subst (λ (l : List Member). AreCoveredIn c.args.signature.now (clauses_of l) c.args.heavy.now c.in_ok-covered.covered) c.as_slice.ensures c.in_ok-covered.ensures)
