use Rattle.verifier.proofs.Speaking.{run_speaks}
use Rattle.verifier.proofs.laws.a_run_speaks_of_its_lines.Goals as goal

pub returns : goal.returns
returns c = run_speaks
