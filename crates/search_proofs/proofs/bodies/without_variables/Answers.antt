use Rattle.std.proofs.Common.{ap, ◌∙◌, List, ℕ}
use Rattle.clause_proofs.specs.Closed.{inhabit_tree}
use Rattle.derive_kit.proofs.Built.{ok_map}
use Rattle.search_proofs.proofs.bodies.without_variables.Goals as goal

pub returns : goal.returns
returns c =
    ok_map c.inhabited.result
    (λ made e. e ∙ ap (λ (more : List ℕ). inhabit_tree more c.args.part) (c.as_slice.ensures ∙ c.in_ok-nearest_first.ensures))
    c.inhabited.ensures
