use Rattle.std.proofs.Common.{refl}
use Rattle.clause_learning.specs.code.Trails.{clauses_of}
use Rattle.clause_learning.proofs.Cutting.{cut_within}
use Rattle.clause_learning.proofs.Turning.{restarted}
use Rattle.clause_learning.proofs.solver.Solver.restart.Goals as goal

pub retreat-requires : goal.retreat-requires
retreat-requires c = cut_within c.args.self.now.trail.steps c.args.self.now.marks c.in-Some.keep c.in-Some.ensures

pub returns-in_default : goal.returns-in_default
returns-in_default c = restarted c.args.self.now c.args.self.now.trail c.restart.new.self c.requires.state c.restart.ensures refl c.requires.state.trail

pub returns : goal.returns
returns c =
    let old = c.args.self.now in
    let cut = c.in_ok-retreat.ensures in
    restarted old c.retreat.new.trail c.restart.new.self c.requires.state c.restart.ensures cut.many (cut.trail (clauses_of old.clauses) c.requires.state.trail)
