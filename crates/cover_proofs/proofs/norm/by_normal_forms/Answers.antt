use Rattle.std.proofs.Common.{true}
use Rattle.clause_form.specs.Norm.{norm_of}
use Rattle.derive_kit.proofs.Built.{ok_map}
use Rattle.cover_proofs.proofs.NormLines.{through}
use Rattle.cover_proofs.proofs.norm.by_normal_forms.Goals as goal

pub returns : goal.returns
returns c =
    ok_map c.apply-2.result
    (λ made two. through c.args.parent.now (norm_of true c.args.parent.now) (norm_of true c.args.line.now) c.args.line.now c.args.own c.in_ok-forth.forth c.in_ok-middle.middle c.in_ok-back.back made c.requires.norms c.in_ok-forth.ensures c.in_ok-back.ensures c.in_ok-middle.ensures two)
    c.apply-2.ensures
