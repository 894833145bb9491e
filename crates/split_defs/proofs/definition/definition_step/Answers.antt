use Rattle.std.proofs.Common.{arith}
use Rattle.derive_kit.proofs.Built.{ok_map}
use Rattle.split_defs.proofs.DefinitionEnds.{joins_at, joins_shallow, joined_found, equation_found, nothing_found}
use Rattle.split_defs.proofs.definition.definition_step.Goals as goal

pub relation-requires-clause-left : goal.relation-requires-clause-left
relation-requires-clause-left c =
    let joins = joins_at c.body_of.result.now c.in-Iff.left c.in-Iff.right c.get.result.now c.get-in-Iff.result.now c.in-Iff.is c.get.ensures c.get-in-Iff.ensures in
    omega (arith, c.requires.few_binders, (joins_shallow c.body_of.result.now c.get.result.now c.get-in-Iff.result.now _ joins c.body_of.ensures.shallow).0)

pub relation-requires-clause-right : goal.relation-requires-clause-right
relation-requires-clause-right c =
    let joins = joins_at c.body_of.result.now c.in-Iff.left c.in-Iff.right c.get.result.now c.get-in-Iff.result.now c.in-Iff.is c.get.ensures c.get-in-Iff.ensures in
    omega (arith, c.requires.few_binders, (joins_shallow c.body_of.result.now c.get.result.now c.get-in-Iff.result.now _ joins c.body_of.ensures.shallow).1)

pub returns-in-Iff : goal.returns-in-Iff
returns-in-Iff c =
    let joins = joins_at c.body_of.result.now c.in-Iff.left c.in-Iff.right c.get.result.now c.get-in-Iff.result.now c.in-Iff.is c.get.ensures c.get-in-Iff.ensures in
    ok_map c.relation.result (λ o h. joined_found c.args.theory.now c.args.line.now c.body_of.result.now c.body_of.ensures.body c.get.result.now c.get-in-Iff.result.now o joins h) c.relation.ensures

pub returns-in-Eq : goal.returns-in-Eq
returns-in-Eq c = ok_map c.equation.result (λ o h. equation_found c.args.theory.now c.args.line.now c.body_of.result.now c.body_of.ensures.body c.in-Eq.left c.in-Eq.right o c.in-Eq.is h) c.equation.ensures

pub returns-in_default : goal.returns-in_default
returns-in_default c = nothing_found c.args.theory.now c.args.line.now c.body_of.result.now c.body_of.ensures.body c.in_default.not-Iff c.in_default.not-Imp c.in_default.not-Eq
