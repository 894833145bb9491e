use Rattle.std.proofs.Common.{ap, Err}
use Rattle.std.specs.Option.{option_copied}
use Rattle.read_problems.proofs.Absences.{walk_said}
use Rattle.read_problems.proofs.resolved.read_files.Goals as goal

pub returns-in_ok-say_include_fault-in-Err-clause-absence : goal.returns-in_ok-say_include_fault-in-Err-clause-absence
returns-in_ok-say_include_fault-in-Err-clause-absence g c =
    walk_said _ (g.S.Store.files c.args.store.now) (option_copied c.args.root) c.args.file.now _ c.in-Err.fault c.in-Err.ensures.answers c.in_ok-say_include_fault-in-Err.ensures.said
    (λ written e. c.in-Err.ensures.missing written (ap Err e))
