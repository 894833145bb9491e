use Rattle.rule_steps.specs.code.EqFactorSearch.{NoneRead}
use Rattle.rule_steps.proofs.Factoring.{either_way, none_found}
use Rattle.rule_steps.proofs.eqfactor_rule.factor_with.Goals as goal

pub returns : goal.returns
returns c =
    either_way (λ f. NoneRead c.args.search.now.sig.now c.args.clause.now c.args.search.now.line.now c.args.i f c.args.j) (none_found c.args.search.now.sig.now c.args.clause.now c.args.search.now.line.now _ c.in_ok-straight.straight c.in_default.is c.in_ok-straight.ensures)
    (none_found c.args.search.now.sig.now c.args.clause.now c.args.search.now.line.now _ c.in_ok-flipped.flipped c.in_default-flipped.is c.in_ok-flipped.ensures)
