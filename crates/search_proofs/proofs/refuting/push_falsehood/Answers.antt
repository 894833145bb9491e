use Rattle.std.proofs.Common.{subst, sym}
use Rattle.std.specs.Prelude.{OnOk}
use Rattle.search_proofs.specs.code.Ended.{IsEnded, IsSound}
use Rattle.search_proofs.proofs.refuting.push_falsehood.Goals as goal

pub push_contradicted-requires-clause-contradicts : goal.push_contradicted-requires-clause-contradicts
push_contradicted-requires-clause-contradicts c = subst (IsSound c.args.members.now) c.in-Some.is c.requires.sound

pub returns-in-Some : goal.returns-in-Some
returns-in-Some c =
    subst (λ found. OnOk c.push_contradicted.result (IsEnded c.args.signature.now c.args.start c.args.members.now c.args.numbers.now c.args.of_inputs.now c.args.empty.now found c.args.proofs.now c.push_contradicted.new.proofs)) (sym c.in-Some.is) c.push_contradicted.ensures

pub returns-in-None : goal.returns-in-None
returns-in-None c =
    subst (λ found. OnOk c.push_last.result (IsEnded c.args.signature.now c.args.start c.args.members.now c.args.numbers.now c.args.of_inputs.now c.args.empty.now found c.args.proofs.now c.push_last.new.proofs)) (sym c.in-None.is) c.push_last.ensures
