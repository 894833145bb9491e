use Rattle.std.proofs.Common.{sym, subst, ap, ◌∙◌}
use Rattle.fof_terms.specs.Scope.{scope_sorts}
use Rattle.derive_kit.proofs.Built.{ok_map}
use Rattle.clause_form.specs.ClauseView.{form_of_lit}
use Rattle.clause_proofs.specs.Refuting.{body}
use Rattle.clause_proofs.proofs.Refutations.{clash_positive, clash_negative}
use Rattle.clause_proofs.proofs.refuting.clash.Goals as goal

pub returns-then-lit : goal.returns-then-lit
returns-then-lit c =
    ok_map c.not_e.result
    (λ made e. rw e (rw c.in_ok-hyp.ensures (clash_positive c.args.signature.now (scope_sorts c.args.scope.now) (body c.args.line.now) c.args.lit.now c.args.other.now c.in_ok-own.own c.if-lit.true c.requires.complementary c.requires.other c.in_ok-own.ensures)))
    c.not_e.ensures

pub returns : goal.returns
returns c =
    ok_map c.not_e-2.result
    (λ made e. rw e (rw c.in_ok-hyp-2.ensures (clash_negative c.args.signature.now (scope_sorts c.args.scope.now) (body c.args.line.now) c.args.lit.now c.args.other.now c.in_ok-own-2.own c.if-lit.false c.requires.complementary c.requires.sorted c.in_ok-own-2.ensures)))
    c.not_e-2.ensures
