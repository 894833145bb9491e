use Rattle.std.proofs.Common.{length, map, ap, arith}
use Rattle.std.proofs.lemmas.List.{length-append, length-map}
use Rattle.clause_learning.specs.declared.clauses.Learned.{Learned}
use Rattle.clause_learning.proofs.clauses.Clauses.len.Goals as goal

pub returns : goal.returns
returns c =
    let s = c.args.self.now in
    let inputs = ap length c.as_slice.ensures in
    let log = ap length c.as_slice-2.ensures in
    omega (arith, inputs, log, length-append s.inputs (map (λ (l : Learned). l.lits) s.log), length-map s.log (λ (l : Learned). l.lits))
