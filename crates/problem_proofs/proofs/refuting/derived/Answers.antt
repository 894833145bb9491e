use Rattle.std.proofs.Common.{ap, arith, sym, ◌∙◌, ℕ}
use Rattle.step_clauses.specs.Inputs.{clauses_from}
use Rattle.problem_proofs.specs.Posed.{with_functions}
use Rattle.problem_proofs.proofs.Finding.{found, made_over}
use Rattle.problem_proofs.proofs.PosedFacts.{clauses_are, counts_fit, formulas, shallow}
use Rattle.problem_proofs.proofs.refuting.derived.Goals as goal

pub derivation_of-requires-clause-depth : goal.derivation_of-requires-clause-depth
derivation_of-requires-clause-depth c = shallow c.args.sig.now c.args.given.now c.requires.ready

pub derivation_of-requires-clause-room : goal.derivation_of-requires-clause-room
derivation_of-requires-clause-room c =
    let fit = counts_fit c.args.sig.now c.args.given.now c.requires.ready c.requires.narrow c.requires.room in
    let first = c.symbol_count-first.ensures.value in
    omega arith

pub derivation_of-requires-clause-inputs : goal.derivation_of-requires-clause-inputs
derivation_of-requires-clause-inputs c =
    c.requires.clauses ∙ clauses_are c.args.sig.now c.args.given.now ∙ ap (λ (n : ℕ). clauses_from n (formulas c.args.given.now)) (sym c.symbol_count-first.ensures.value)

pub derivation_of-requires-clause-made : goal.derivation_of-requires-clause-made
derivation_of-requires-clause-made c =
    let made =
    made_over c.args.sig.now c.args.given.now c.args.members.now c.args.last.now c.requires.narrow c.requires.made c.requires.last c.symbol_count-first.result c.args.clauses.now c.symbol_count-first.ensures.value c.requires.clauses c.in_ok-prefix.prefix c.as_slice.result.now c.as_slice.ensures c.in_ok-prefix.ensures
    in
    (with_functions c.args.sig.now c.args.given.now, made.0, made.1)

pub returns : goal.returns
returns c =
    found c.args.sig.now c.args.given.now c.args.members.now c.args.last.now c.requires.narrow c.requires.made c.requires.last c.symbol_count-first.result c.args.clauses.now c.symbol_count-first.ensures.value c.requires.clauses c.in_ok-prefix.prefix c.as_slice.result.now c.as_slice.ensures c.in_ok-prefix.ensures
    c.derivation_of.result c.derivation_of.ensures
