use Rattle.std.proofs.Common.{below_more, subst, sym, arith}
use Rattle.clause_form.specs.declared.path.Parent.{Parent}
use Rattle.clause_rules.proofs.Firsts.{there_at}
use Rattle.split_defs.specs.code.SplitSearch.{IsCovering}
use Rattle.clause_form.specs.Paths.{forms_of}
use Rattle.split_defs.proofs.NamedParents.{form_at, as_many}
use Rattle.split_defs.proofs.SplitEnds.{none_covered_at, none_covered}
use Rattle.split_defs.proofs.covering.covered_among.Goals as goal

pub loop-n-preserved : goal.loop-n-preserved
loop-n-preserved c =
    below_more _ _ c.loop-n.invariant
    (none_covered_at c.args.sig.now c.args.whole.now (forms_of c.args.parents.now) c.loop-n.n c.index-parents-n.result.form
    (form_at c.args.parents.now c.loop-n.n c.index-parents-n.result (there_at c.args.parents.now c.loop-n.n c.index-parents-n.result c.loop-n-test.true c.index-parents-n.is)) c.in_ok-found.found c.in_default.is
    (subst (λ (p : Parent). IsCovering c.args.sig.now c.args.whole.now p.form c.in_ok-found.found) (sym c.index-parents-n.is) c.in_ok-found.ensures))

pub returns : goal.returns
returns c = none_covered c.args.sig.now c.args.whole.now (forms_of c.args.parents.now) c.loop-n.n (omega (arith, as_many c.args.parents.now, c.loop-n-test.false)) c.loop-n.invariant
