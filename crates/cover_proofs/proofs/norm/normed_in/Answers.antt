use Rattle.derive_kit.proofs.Built.{ok_map}
use Rattle.clause_proofs.specs.Refuting.{theory_of}
use Rattle.clause_proofs.proofs.ReadyParents.{of_theory, parent_ready}
use Rattle.cover_proofs.proofs.NormLines.{alike_at, norm_there}
use Rattle.cover_proofs.proofs.norm.normed_in.Goals as goal

pub normed-requires-clause-parent : goal.normed-requires-clause-parent
normed-requires-clause-parent c =
    parent_ready c.args.signature.now c.args.parents.now c.likest-parent.result c.index-parents-parent.result c.requires.ready
    (norm_there c.args.parents.now c.args.line.now c.likest-parent.result c.index-parents-parent.result c.likest-parent.ensures c.index-parents-parent.is)

pub normed-requires-clause-alike : goal.normed-requires-clause-alike
normed-requires-clause-alike c = alike_at c.args.parents.now c.args.line.now c.likest-parent.result c.index-parents-parent.result c.likest-parent.ensures c.index-parents-parent.is

pub returns : goal.returns
returns c =
    ok_map c.normed.result
    (λ made shows formulas all.
    shows formulas
    (of_theory (theory_of c.args.signature.now formulas) c.args.parents.now c.likest-parent.result c.index-parents-parent.result all
    (norm_there c.args.parents.now c.args.line.now c.likest-parent.result c.index-parents-parent.result c.likest-parent.ensures c.index-parents-parent.is)))
    c.normed.ensures
