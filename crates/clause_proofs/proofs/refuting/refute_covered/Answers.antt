use Rattle.fof_terms.specs.Scope.{scope_sorts}
use Rattle.derive_kit.proofs.Built.{ok_map}
use Rattle.clause_proofs.specs.Refuting.{body}
use Rattle.clause_proofs.proofs.CoveredPremises.{truth_sorted, truth_refutes}
use Rattle.clause_proofs.proofs.refuting.refute_covered.Goals as goal

pub refuted-requires-clause-other : goal.refuted-requires-clause-other
refuted-requires-clause-other c = truth_sorted c.args.signature.now (scope_sorts c.args.scope.now) c.true_lit-other.result c.requires.goal.sorted.scope_fits c.true_lit-other.ensures

pub returns : goal.returns
returns c =
    ok_map c.cut_under.result
    (λ made build formulas shows. truth_refutes c.args.signature.now (scope_sorts c.args.scope.now) (body c.args.line.now) c.true_lit-other.result c.in_ok-form_of_lit.field-0 c.in_ok-fact.fact c.in_ok-rest.rest made c.requires.goal.sorted.scope_fits c.true_lit-other.ensures c.in_ok-form_of_lit.ensures c.in_ok-fact.ensures build formulas (λ h. c.in_ok-rest.ensures formulas h (shows _)))
    c.cut_under.ensures
