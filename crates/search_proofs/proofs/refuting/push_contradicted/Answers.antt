use Rattle.std.proofs.Common.{ap, ◌∙◌, [], ◌∷◌, ◌++◌}
use Rattle.kernel.specs.declared.proof.Proof.{Proof}
use Rattle.search_proofs.proofs.refuting.push_contradicted.Goals as goal

pub returns : goal.returns
returns c = record {
  proof = c.in_ok-falsehood.falsehood;
  falsehood = c.in_ok-falsehood.ensures;
  is = c.in_ok-push.ensures.ok ∙ ap (λ (q : Proof). c.args.proofs.now ++ q ∷ []) c.into_inner.ensures;
}
