use Rattle.std.proofs.Common.{ℕ, ◌-◌, List, subst}
use Rattle.tptp_commands.proofs.Models.{file_said}
use Rattle.read_problems.specs.Answer.{ending_of}
use Rattle.read_problems.specs.Stop.{IfAnswer}
use Rattle.tptp_commands.specs.Modelled.{SaysModel}
use Rattle.read_problems.specs.declared.refusals.TheConstants.{TOTAL_SIZE}
use Rattle.tptp_commands.proofs.modelled.model_file.Goals as goal

pub returns-clause-ends : goal.returns-clause-ends
returns-clause-ends g c =
    file_said (g.S.Store.files c.args.store.now) c.args.file.now c.args.posed.now.signature c.args.posed.now.given (TOTAL_SIZE - c.args.posed.now.read) c.in_ok-text.text c.model_text.result c.in_ok-text.ensures.whole c.in_ok-text.ensures.in_budget c.in_ok-text.ensures.in_limit
    (subst (λ (text : List ℕ). IfAnswer c.model_text.result (λ answer. SaysModel c.args.file.now c.args.posed.now.signature c.args.posed.now.given text (ending_of answer))) c.as_slice.ensures c.model_text.ensures.said)
