use Rattle.std.proofs.Common.{List, ap, sym, subst, ◌∙◌}
use Rattle.clause_form.specs.declared.clause.Lit.{Lit}
use Rattle.derive_kit.proofs.Built.{ok_map}
use Rattle.chain_proofs.specs.Facts.{all_false}
use Rattle.chain_proofs.specs.Stretches.{IsStretchProof}
use Rattle.chain_proofs.proofs.Stepping.{finished}
use Rattle.chain_proofs.proofs.finishing.stretch_proof.Goals as goal

pub returns : goal.returns
returns c =
    ok_map c.not_i.result
    (λ p e. subst (IsStretchProof c.args.stretch c.args.last.now) (sym e)
    (finished c.args.stretch c.args.last.now c.len-base.result c.len-count.result c.in_ok-denied.denied c.in_ok-refuted.refuted c.in_ok-part.part c.len-base.ensures c.len-count.ensures (c.in_ok-denied.ensures ∙ ap (λ (ls : List Lit). all_false ls) c.as_slice.ensures)
    c.in_ok-refuted.ensures c.in_ok-part.ensures))
    c.not_i.ensures
