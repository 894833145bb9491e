use Rattle.std.proofs.Common.{◌≡◌, List, map, sym, subst, ◌∙◌}
use Rattle.clause_learning.specs.declared.clauses.Learned.{Learned}
use Rattle.clause_learning.specs.Literals.{complement}
use Rattle.clause_learning.specs.Refutations.{IsLog}
use Rattle.clause_learning.specs.Valuations.{entry_of}
use Rattle.clause_learning.proofs.Keeping.{ended_refutes}
use Rattle.clause_learning.proofs.trimming.ended.Goals as goal

pub returns : goal.returns
returns c =
    let inputs = c.args.inputs.now in
    let L : List Learned → Type 0 = λ ls. IsLog complement inputs (map entry_of ls) in
    let same : c.args.log ≡ c.push.new.self = c.in-Some.ensures ∙ sym c.in_ok-push.ensures.ok in
    ended_refutes inputs c.push.new.self c.pop.new.self c.in-Some.last (subst L same c.requires) c.in_ok-push.ensures.ok (c.is_empty.ensures.0 c.if-not-is_empty.false)
