use Rattle.std.proofs.Common.{List, ℕ, ◌∙◌, ap, sym, subst}
use Rattle.read_problems.specs.Answer.{ending_of}
use Rattle.read_problems.specs.Stop.{IfAnswer}
use Rattle.tptp_commands.specs.Presented.{proof_text}
use Rattle.tptp_run.specs.Proving.{SaysProof}
use Rattle.tptp_run.specs.code.Printing.{IsProofFrom}
use Rattle.tptp_run.proofs.prove.say_items.Goals as goal

pub returns-clause-said : goal.returns-clause-said
returns-clause-said c =
    let source = c.args.source.now in
    subst (λ (text : List ℕ). IfAnswer c.say_text.result (λ answer. SaysProof c.args.problem.now c.args.limit source.read source.theory source.names source.marks source.has_conjecture text (ending_of answer)))
    ((rw c.as_bytes.ensures.value at c.in_ok-text.ensures) ∙ ap (λ (status : List ℕ). proof_text c.args.problem.now status c.args.items.now) c.status_word-status.ensures) c.say_text.ensures.said

pub say_text-requires-clause-proof : goal.say_text-requires-clause-proof
say_text-requires-clause-proof c =
    subst (IsProofFrom c.args.problem.now c.args.limit c.args.source.now)
    (sym ((rw c.as_bytes.ensures.value at c.in_ok-text.ensures) ∙ ap (λ (status : List ℕ). proof_text c.args.problem.now status c.args.items.now) c.status_word-status.ensures)) c.requires.proof
