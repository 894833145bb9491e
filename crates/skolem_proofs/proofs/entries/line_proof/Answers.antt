use Rattle.skolem_fresh.proofs.Opened.{on_ok}
use Rattle.skolem_proofs.proofs.Lines.{line_shown}
use Rattle.skolem_proofs.proofs.entries.line_proof.Goals as goal

pub returns : goal.returns
returns c =
    on_ok c.apply-3.result
    (λ made e. line_shown c.args.parent.now c.args.form.now c.args.line.now c.args.proof c.in_ok-cited.cited c.in_ok-norm_forth.field-0 c.in_ok-norm.norm c.in_ok-made.made c.in_ok-norm_forth-2.field-0 c.in_ok-normed.normed c.in_ok-norm_back.field-0 made c.in_ok-cited.ensures c.in_ok-norm_forth.ensures c.in_ok-norm.ensures c.in_ok-made.ensures c.in_ok-norm_forth-2.ensures c.in_ok-normed.ensures c.in_ok-norm_back.ensures e)
    c.apply-3.ensures
