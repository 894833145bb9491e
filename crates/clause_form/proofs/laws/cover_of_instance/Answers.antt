use Rattle.clause_form.specs.Covers.{scope_of}
use Rattle.clause_form.proofs.ClauseLaws.{covers_instance}
use Rattle.clause_form.proofs.laws.cover_of_instance.Goals as goal

pub returns : goal.returns
returns c = λ v m c e sorted is covers. (covers.0, _, covers_instance v (scope_of m) m.lits c e is.0 sorted is.1 covers.0 covers.1 covers.2)
