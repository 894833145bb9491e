use Rattle.std.proofs.Common.{◌≡◌, ◌∷◌, ◌∙◌, ap, rules}
use Rattle.split_defs.specs.SplitRule.{together}
use Rattle.split_defs.proofs.OneClause.{together_fit}
use Rattle.split_defs.proofs.SplitEnds.{ok_both}
use Rattle.split_defs.proofs.split.unfolded.Goals as goal

pub returns : goal.returns
returns c =
    let all : c.as_slice.result.now ≡ c.args.line ∷ c.args.parts = search rules in
    ok_both c.together.result
    (λ whole is few. (is ∙ ap together all, together_fit c.args.sig.now (c.args.line ∷ c.args.parts) whole c.requires (is ∙ ap together all) few))
    c.together.ensures.is c.together.ensures.few
