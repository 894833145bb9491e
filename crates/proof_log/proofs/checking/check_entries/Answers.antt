use Rattle.proof_log.proofs.OneTheory.{refuted_alone}
use Rattle.proof_log.proofs.checking.check_entries.Goals as goal

pub returns-clause-refuted : goal.returns-clause-refuted
returns-clause-refuted c = refuted_alone c.args.theory.now c.args.entries.now c.admit_all.result c.admit_all.ensures.fault
