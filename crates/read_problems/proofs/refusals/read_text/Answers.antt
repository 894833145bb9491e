use Rattle.std.proofs.Common.{ap, Err, ◌∙◌, List, ℕ}
use Rattle.read_problems.specs.Ending.{over_limit}
use Rattle.read_problems.proofs.Stages.{limit_refusal}
use Rattle.read_problems.proofs.refusals.read_text.Goals as goal

pub returns-in_ok-over_limit-in-Err-Limit-clause-refused :
    goal.returns-in_ok-over_limit-in-Err-Limit-clause-refused
returns-in_ok-over_limit-in-Err-Limit-clause-refused g c =
    limit_refusal (g.S.Store.files c.args.store.now) c.args.name.now c.args.budget c.in-Err-Limit.limit _ (c.in-Err-Limit.ensures.limit c.in-Err-Limit.limit (ap Err c.in-Err-Limit.field-0-is))
    (c.in_ok-over_limit-in-Err-Limit.ensures ∙ ap (λ (name : List ℕ). over_limit name c.in-Err-Limit.limit) c.as_bytes-in-Err-Limit.ensures.value)
