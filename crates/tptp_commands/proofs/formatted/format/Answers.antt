use Rattle.std.proofs.Common.{◌≡◌, ℕ, List, subst}
use Rattle.read_problems.specs.Answer.{ending_of}
use Rattle.tptp_commands.specs.Formatted.{SaysText}
use Rattle.read_problems.specs.Spelled.{IsTextRefusal}
use Rattle.read_problems.specs.Stop.{IfAnswer}
use Rattle.tptp_commands.proofs.Absences.{file_said}
use Rattle.tptp_commands.proofs.Formats.{text_ends}
use Rattle.tptp_commands.proofs.formatted.format.Goals as goal

pub returns-clause-ends : goal.returns-clause-ends
returns-clause-ends g c =
    text_ends (g.S.Store.files c.args.store.now) c.args.file.now c.in_ok-text.text c.in_ok-text.ensures.whole c.in_ok-text.ensures.in_budget c.in_ok-text.ensures.in_limit c.format_text.result (subst (λ (t : List ℕ). IfAnswer c.format_text.result (λ answer. SaysText c.args.file.now t (ending_of answer))) c.as_slice.ensures c.format_text.ensures.said)

pub returns-clause-absence : goal.returns-clause-absence
returns-clause-absence g c =
    file_said _ (g.S.Store.files c.args.store.now) c.args.file.now c.in_ok-text.text c.format_text.result c.in_ok-text.ensures.whole
    (subst (λ (t : List ℕ). IfAnswer c.format_text.result (λ answer. answer.status ≡ 3 → IsTextRefusal c.args.file.now t (ending_of answer))) c.as_slice.ensures c.format_text.ensures.refused)
