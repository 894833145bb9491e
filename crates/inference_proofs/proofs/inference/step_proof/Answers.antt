use Rattle.std.proofs.Common.{subst, sym}
use Rattle.clause_rules.specs.Answers.{eqfactor, paramodulation, resolution, IsAnswer}
use Rattle.rule_proofs.specs.ByRule.{GoesByClauses}
use Rattle.rule_proofs.proofs.Answered.{answer_shows}
use Rattle.inference_proofs.specs.code.Covering.{IsByCovering}
use Rattle.inference_proofs.proofs.Covered.{line_is_clause, none_gives}
use Rattle.inference_proofs.proofs.inference.step_proof.Goals as goal

pub clause_proof-requires-clause-shown : goal.clause_proof-requires-clause-shown
clause_proof-requires-clause-shown c = (answer_shows c.args.signature.now c.args.parents.now c.args.line.now resolution c.in_ok-just.field-0 c.in-Some.just c.in-Some.is c.in_ok-just.ensures).1

pub clause_proof-requires-clause-clauses : goal.clause_proof-requires-clause-clauses
clause_proof-requires-clause-clauses c =
    subst GoesByClauses (sym (answer_shows c.args.signature.now c.args.parents.now c.args.line.now resolution c.in_ok-just.field-0 c.in-Some.just c.in-Some.is c.in_ok-just.ensures).0) tt

pub clause_proof-requires-in-Some-2-clause-shown : goal.clause_proof-requires-in-Some-2-clause-shown
clause_proof-requires-in-Some-2-clause-shown c = (answer_shows c.args.signature.now c.args.parents.now c.args.line.now paramodulation c.in_ok-just-2.field-0 c.in-Some-2.just c.in-Some-2.is c.in_ok-just-2.ensures).1

pub clause_proof-requires-in-Some-2-clause-clauses : goal.clause_proof-requires-in-Some-2-clause-clauses
clause_proof-requires-in-Some-2-clause-clauses c =
    subst GoesByClauses (sym (answer_shows c.args.signature.now c.args.parents.now c.args.line.now paramodulation c.in_ok-just-2.field-0 c.in-Some-2.just c.in-Some-2.is c.in_ok-just-2.ensures).0) tt

pub clause_proof-requires-in-Some-3-clause-shown : goal.clause_proof-requires-in-Some-3-clause-shown
clause_proof-requires-in-Some-3-clause-shown c = (answer_shows c.args.signature.now c.args.parents.now c.args.line.now eqfactor c.in_ok-just-3.field-0 c.in-Some-3.just c.in-Some-3.is c.in_ok-just-3.ensures).1

pub clause_proof-requires-in-Some-3-clause-clauses : goal.clause_proof-requires-in-Some-3-clause-clauses
clause_proof-requires-in-Some-3-clause-clauses c =
    subst GoesByClauses (sym (answer_shows c.args.signature.now c.args.parents.now c.args.line.now eqfactor c.in_ok-just-3.field-0 c.in-Some-3.just c.in-Some-3.is c.in_ok-just-3.ensures).0) tt

pub by_covering-requires-clause-clause : goal.by_covering-requires-clause-clause
by_covering-requires-clause-clause c = line_is_clause c.args.signature.now c.args.parents.now c.args.line.now c.requires.step

pub unreachable-requires : goal.unreachable-requires
unreachable-requires c =
    none_gives c.args.signature.now c.args.parents.now c.args.line.now c.requires.step
    (subst (IsAnswer c.args.signature.now c.args.parents.now c.args.line.now resolution) c.in_default.is c.in_ok-just.ensures)
    (subst (IsAnswer c.args.signature.now c.args.parents.now c.args.line.now paramodulation) c.in_default-2.is c.in_ok-just-2.ensures)
    (subst (IsAnswer c.args.signature.now c.args.parents.now c.args.line.now eqfactor) c.in_default-3.is c.in_ok-just-3.ensures)
    (subst (IsByCovering c.args.signature.now c.args.parents.now c.args.line.now) c.in-None.is c.in_ok-proof.ensures)
