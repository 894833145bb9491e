use Rattle.std.proofs.Common.{ap, ◌∙◌, ◌++◌, map, List, ℕ}
use Rattle.fof_terms.specs.declared.form.Form.{Form}
use Rattle.clause_form.specs.ClauseView.{closed_by}
use Rattle.norm_parts.specs.Parts.{parts_of}
use Rattle.norm_parts.proofs.ClosedParts.{closed_by_none}
use Rattle.norm_parts.proofs.splitting.parts.Goals as goal

pub returns : goal.returns
returns c =
    c.in_ok-split.ensures.0
    ∙ ap (λ (xs : List Form). xs ++ map (closed_by c.new-sorts.result) (parts_of c.args.form.now)) c.new-made.ensures
    ∙ ap (λ (ss : List ℕ). map (closed_by ss) (parts_of c.args.form.now)) c.new-sorts.ensures
    ∙ closed_by_none (parts_of c.args.form.now)
