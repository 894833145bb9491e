use Rattle.std.proofs.Common.{◌≡◌, ◌+◌, ◌≤◌, Err, arith, rules, subst}
use Rattle.proof_log.specs.LogChecks.{IsCheckOf}
use Rattle.proof_log.specs.declared.log_check.LogCheckFault.TheVariants as fault
use Rattle.read_problems.specs.Answer.{ending_of}
use Rattle.tptp_commands.proofs.Checks.{number_fits, fault_said, deep_said, illegal_said}
use Rattle.tptp_commands.proofs.checked.check_text.Goals as goal

pub overflow_add-number : goal.overflow_add-number
overflow_add-number c =
    let same : c.in-Err-Illegal.field-0 ≡ fault.Illegal c.in-Err-Illegal.number = search (rules, c.in-Err-Illegal.field-0-is, c.in-Err-Illegal.number-is) in
    let answers = subst (λ e. IsCheckOf 4000 c.args.theory.now c.args.text.now (Err e)) same c.in-Err-Illegal.ensures.answers in
    let fits : c.in-Err-Illegal.number + 1 ≤ 67108864 = number_fits c.args.theory.now c.args.text.now c.in-Err-Illegal.number answers c.requires in
    grind (arith, fits)

pub returns-in_ok-say_log_fault-in-Err-Text-clause-said : goal.returns-in_ok-say_log_fault-in-Err-Text-clause-said
returns-in_ok-say_log_fault-in-Err-Text-clause-said c =
    let same : c.in-Err-Text.field-0 ≡ fault.Text c.in-Err-Text.offset = search (rules, c.in-Err-Text.field-0-is, c.in-Err-Text.offset-is) in
    let answers = subst (λ e. IsCheckOf 4000 c.args.theory.now c.args.text.now (Err e)) same c.in-Err-Text.ensures.answers in
    fault_said c.args.theory.now c.args.text.now (ending_of c.in_ok-say_log_fault-in-Err-Text.field-0) c.in-Err-Text.offset answers c.in_ok-say_log_fault-in-Err-Text.ensures

pub returns-in_ok-say_log_fault-in-Err-Deep-clause-said : goal.returns-in_ok-say_log_fault-in-Err-Deep-clause-said
returns-in_ok-say_log_fault-in-Err-Deep-clause-said c =
    let same : c.in-Err-Deep.field-0 ≡ fault.Deep c.in-Err-Deep.offset = search (rules, c.in-Err-Deep.field-0-is, c.in-Err-Deep.offset-is) in
    let answers = subst (λ e. IsCheckOf 4000 c.args.theory.now c.args.text.now (Err e)) same c.in-Err-Deep.ensures.answers in
    deep_said c.args.theory.now c.args.text.now (ending_of c.in_ok-say_log_fault-in-Err-Deep.field-0) c.in-Err-Deep.offset answers c.in_ok-say_log_fault-in-Err-Deep.ensures

pub returns-in_ok-say_illegal-in-Err-Illegal-clause-said : goal.returns-in_ok-say_illegal-in-Err-Illegal-clause-said
returns-in_ok-say_illegal-in-Err-Illegal-clause-said c =
    let same : c.in-Err-Illegal.field-0 ≡ fault.Illegal c.in-Err-Illegal.number = search (rules, c.in-Err-Illegal.field-0-is, c.in-Err-Illegal.number-is) in
    let answers = subst (λ e. IsCheckOf 4000 c.args.theory.now c.args.text.now (Err e)) same c.in-Err-Illegal.ensures.answers in
    illegal_said c.args.theory.now c.args.text.now (ending_of c.in_ok-say_illegal-in-Err-Illegal.field-0) c.in-Err-Illegal.number answers c.in_ok-say_illegal-in-Err-Illegal.ensures
