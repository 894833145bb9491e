use Rattle.std.proofs.Common.{ap, sym, ◌∙◌}
use Rattle.kernel.specs.declared.proof.Proof.{Proof, NotE}
use Rattle.derive_kit.proofs.Built.{ok_map}
use Rattle.search_proofs.specs.code.Clashes.{clash_tree}
use Rattle.search_proofs.proofs.opposing.denied.Goals as goal

pub returns-then-positive : goal.returns-then-positive
returns-then-positive c =
    ok_map c.not_e.result
    (λ made e. e ∙ (ap (λ (q : Proof). NotE c.args.opposite q) c.in_ok-own.ensures ∙ ap (λ b. clash_tree b c.args.opposite) (sym c.if-positive.true)))
    c.not_e.ensures

pub returns : goal.returns
returns c =
    ok_map c.not_e-2.result
    (λ made e. e ∙ (ap (λ (p : Proof). NotE p c.args.opposite) c.in_ok-own.ensures ∙ ap (λ b. clash_tree b c.args.opposite) (sym c.if-positive.false)))
    c.not_e-2.ensures
