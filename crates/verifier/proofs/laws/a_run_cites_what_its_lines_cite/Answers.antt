use Rattle.verifier.proofs.Citing.{run_spares}
use Rattle.verifier.proofs.laws.a_run_cites_what_its_lines_cite.Goals as goal

pub returns : goal.returns
returns c = run_spares
