use Rattle.std.proofs.Common.{ℕ, List, ap, ◌∙◌}
use Rattle.fi_model.specs.code.Adding.{told}
use Rattle.fi_model.proofs.IndexFacts.{told_is}
use Rattle.fi_model.proofs.index.Index.find.Goals as goal

pub returns : goal.returns
returns c =
    c.copied.ensures ∙ (c.get.ensures.value ∙ (told_is (λ k. k.items) c.args.key.now c.self.inside.values.entries ∙ ap (λ (es : List (List ℕ × ℕ)). told es c.args.key.now) c.self.view_is))
