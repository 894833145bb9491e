use Rattle.verifier.proofs.OneReport.{one_said, one_marked}
use Rattle.verifier.proofs.laws.a_run_has_one_report.Goals as goal

pub returns-clause-said : goal.returns-clause-said
returns-clause-said c = λ start d order answers others entries more end last given all direct run other. one_said start d order answers others entries more end last given all direct run other

pub returns-clause-marked : goal.returns-clause-marked
returns-clause-marked c = λ start d order answers others entries more end last marks given all direct run other short. one_marked start d order answers others entries more end last given all direct run other marks short
