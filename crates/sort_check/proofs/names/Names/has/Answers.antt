use Rattle.std.proofs.Common.{ℕ, List, ap, ◌∙◌}
use Rattle.sort_check.specs.Symbols.{is_among}
use Rattle.sort_check.proofs.NameLists.{among}
use Rattle.sort_check.proofs.names.Names.has.Goals as goal

pub returns : goal.returns
returns c =
    c.contains.ensures ∙ among (λ k. k.items) c.args.name.now c.self.inside.known.keys ∙ ap (λ (names : List (List ℕ)). is_among c.args.name.now names) c.self.view_is
