use Rattle.std.proofs.Common.{List, ◌<◌, ◌^◌, ◌∙◌, ap, sym, subst, arith}
use Rattle.tptp_base.specs.declared.item.Item.{Item}
use Rattle.read_problems.specs.Answer.{ending_of}
use Rattle.read_problems.specs.Stop.{IfAnswer}
use Rattle.read_problems.specs.Sources.{have_conjecture}
use Rattle.tptp_commands.specs.Presented.{not_proved}
use Rattle.proofs_are_verified.specs.code.Texts.{IsProofText}
use Rattle.tptp_run.specs.code.Printing.{text_of}
use Rattle.tptp_run.proofs.Printing.{proof_printed}
use Rattle.tptp_run.proofs.Proves.{Proves, open_said, open_search, over_said, over_search, posed_ready, proof_said, proofs_search}
use Rattle.tptp_run.proofs.prove.prove_posed.Goals as goal

pub prove-requires : goal.prove-requires
prove-requires c = posed_ready c.args.posed.signature c.args.posed.given _ c.as_slice-given.ensures c.requires.sorted

pub say_proof-requires : goal.say_proof-requires
say_proof-requires c =
    let posed = c.args.posed in
    let limit = c.args.limit in
    let file = c.args.problem.now in
    let conjecture = have_conjecture posed.given in
    let proved = rw c.in-Ok-Proof.field-0-is at (rw c.as_bytes.ensures.value at (rw c.as_slice-given.ensures at c.in-Ok-Proof.ensures.proved)) in
    let small : limit < 2 ^ 32 = omega arith in
    let printed = proof_printed posed.signature posed.given limit file c.in-Ok-Proof.items c.requires.posed small c.requires.named proved in
    record {
      proof = subst (λ (items : List Item). IsProofText posed.signature posed.given limit file conjecture (text_of file conjecture items)) (sym c.as_slice.ensures) printed;
      budget = c.requires.budget;
      few = c.requires.few;
      sorted = c.requires.sorted;
      declared = c.requires.declared;
    }

pub returns-in-Ok-Proof-clause-said : goal.returns-in-Ok-Proof-clause-said
returns-in-Ok-Proof-clause-said c =
    proof_said c.args.limit c.args.problem.now c.args.posed (rw c.as_slice-given.ensures at c.in-Ok-Proof.ensures.room) c.in-Ok-Proof.items
    (rw c.in-Ok-Proof.field-0-is at (rw c.as_bytes.ensures.value at (rw c.as_slice-given.ensures at c.in-Ok-Proof.ensures.proved))) c.say_proof.result
    (subst (λ (items : List Item). IfAnswer c.say_proof.result (λ answer. Proves c.args.limit c.args.problem.now c.args.posed items (ending_of answer))) c.as_slice.ensures c.say_proof.ensures.said)

pub returns-in-Ok-Proof-clause-status : goal.returns-in-Ok-Proof-clause-status
returns-in-Ok-Proof-clause-status c = proofs_search c.say_proof.result c.say_proof.ensures.status

pub returns-in-Ok-Open-clause-said : goal.returns-in-Ok-Open-clause-said
returns-in-Ok-Open-clause-said c =
    open_said c.args.limit c.args.problem.now c.args.posed (rw c.as_slice-given.ensures at c.in-Ok-Open.ensures.room) (ending_of c.in_ok-not_proved-in-Ok-Open.field-0) c.in-Ok-Open.why
    (rw c.in-Ok-Open.field-0-is at (rw c.as_bytes.ensures.value at (rw c.as_slice-given.ensures at c.in-Ok-Open.ensures.proved))) (c.in_ok-not_proved-in-Ok-Open.ensures ∙ ap not_proved c.why_word.ensures)

pub returns-in-Ok-Open-clause-status : goal.returns-in-Ok-Open-clause-status
returns-in-Ok-Open-clause-status c = open_search c.in_ok-not_proved-in-Ok-Open.field-0 _ c.in_ok-not_proved-in-Ok-Open.ensures

pub returns-in-Err-Limit-clause-said : goal.returns-in-Err-Limit-clause-said
returns-in-Err-Limit-clause-said c =
    over_said c.args.limit c.args.problem.now c.args.posed (ending_of c.in_ok-say_over-in-Err-Limit.field-0) c.in-Err-Limit.name
    (rw c.in-Err-Limit.field-0-is at (rw c.as_slice-given.ensures at c.in-Err-Limit.ensures.limit)) c.in_ok-say_over-in-Err-Limit.ensures

pub returns-in-Err-Limit-clause-status : goal.returns-in-Err-Limit-clause-status
returns-in-Err-Limit-clause-status c = over_search c.in_ok-say_over-in-Err-Limit.field-0 c.args.problem.now c.in-Err-Limit.name c.in_ok-say_over-in-Err-Limit.ensures
