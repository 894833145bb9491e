use Rattle.std.proofs.Common.{ℕ, List, ap, ◌∙◌}
use Rattle.std.specs.Prelude.{position}
use Rattle.std.specs.Str.{bytes_eq}
use Rattle.fi_model.proofs.IndexFacts.{position_is}
use Rattle.fi_model.proofs.elements.Elements.place.Goals as goal

pub returns : goal.returns
returns c =
    c.get_index_of.ensures.index ∙ position_is (λ k. k.items) c.args.name.now c.self.inside.known.keys ∙ ap (λ (names : List (List ℕ)). position (bytes_eq c.args.name.now) names) c.self.view_is
