use Rattle.std.proofs.Common.{◌≡◌, ◌-◌, length, Ok, refl, sym, ◌∙◌, ap, subst}
use Rattle.proof_log.specs.code.Answers.{fault_of}
use Rattle.proof_log.specs.code.Names.{version_line}
use Rattle.proof_log.specs.code.Outcomes.{Fails}
use Rattle.proof_log.specs.code.ReadWords.{name}
use Rattle.proof_log.specs.Answers.{Tells}
use Rattle.proof_log.proofs.WholeReader.{versions}
use Rattle.proof_log.proofs.Steps.{first_read, no_first}
use Rattle.proof_log.proofs.log_entries.LogEntries.new.Goals as goal

pub returns-in-Ok-clause-read : goal.returns-in-Ok-clause-read
returns-in-Ok-clause-read c =
    let k : name version_line versions c.args.text.now ≡ Ok (c.in-Ok.field-0, c.text.result.now) =
    ap (name version_line versions) (sym c.new-rest.ensures) ∙ c.in-Ok.ensures ∙ ap (λ l. Ok (c.in-Ok.field-0, l)) (sym c.text.ensures) in
    (first_read 4000 c.args.text.now c.in-Ok.field-0 c.text.result.now k, refl)

pub returns-in-Err-clause-fault : goal.returns-in-Err-clause-fault
returns-in-Err-clause-fault c =
    let is : c.fault_of.result ≡ fault_of c.in-Err.stop (length c.args.text.now - length c.name.new.text) =
    c.fault_of.ensures ∙ ap (λ l. fault_of c.in-Err.stop (length c.args.text.now - length l)) c.text-in-Err.ensures in
    subst (Tells 4000 c.args.text.now) (sym is)
    (no_first 4000 c.args.text.now c.in-Err.stop c.name.new.text (subst (λ l. Fails (name version_line versions l) c.in-Err.stop c.name.new.text) c.new-rest.ensures c.in-Err.ensures))
