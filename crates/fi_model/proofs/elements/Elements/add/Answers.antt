use Rattle.std.proofs.Common.{ℕ, List, ap, ◌∙◌, not}
use Rattle.std.specs.List.{list_any}
use Rattle.std.specs.Str.{bytes_eq}
use Rattle.fi_model.proofs.IndexFacts.{any_is}
use Rattle.fi_model.proofs.elements.Elements.add.Goals as goal

pub returns-clause-told : goal.returns-clause-told
returns-clause-told c =
    c.in_ok-added.ensures.added
    ∙ ap not (any_is (λ k. k.items) c.in_ok-name.name.items c.self.inside.known.keys
    ∙ ap (λ (names : List (List ℕ)). list_any (bytes_eq c.in_ok-name.name.items) names) c.self.view_is
    ∙ ap (λ (name : List ℕ). list_any (bytes_eq name) c.args.self.now) c.in_ok-name.ensures.items)
