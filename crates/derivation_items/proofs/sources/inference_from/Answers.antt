use Rattle.std.proofs.Common.{[], ◌∷◌}
use Rattle.derivation_items.proofs.SourceFacts.{of_names, one_name}
use Rattle.derivation_items.proofs.sources.inference_from.Goals as goal

pub returns : goal.returns
returns c =
    of_names c.inference.result c.args.rule.now c.args.status.now c.push.new.self (c.args.line.now ∷ []) c.inference.ensures
    (one_name c.new-parents.result c.push.new.self c.in_ok-word.field-0 c.as_slice.result.now c.args.line.now c.new-parents.ensures c.in_ok-push.ensures.ok c.in_ok-word.ensures c.as_slice.ensures)
