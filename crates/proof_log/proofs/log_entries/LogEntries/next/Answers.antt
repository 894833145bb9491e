use Rattle.std.proofs.Common.{◌≡◌, ℕ, ◌<◌, ◌-◌, List, length, Ok, sym, ◌∙◌, ap, subst, arith}
use Rattle.std.proofs.lemmas.Bool.Decides.{nat_tests}
use Rattle.kernel.specs.declared.entry.Entry.{Entry}
use Rattle.proof_log.specs.code.Answers.{fault_of}
use Rattle.proof_log.specs.code.Outcomes.{Fails}
use Rattle.proof_log.specs.code.ReadEntries.{entry}
use Rattle.proof_log.specs.Answers.{Tells}
use Rattle.proof_log.specs.Reading.{Reading, HasRead}
use Rattle.proof_log.proofs.Steps.{one_more, no_more, one_line}
use Rattle.proof_log.proofs.log_entries.LogEntries.next.Goals as goal

-- what the reader of entries gave
given : (ts start new rest : List ℕ) (e : Entry) → start ≡ ts → entry 4000 start ≡ Ok (e, new) → rest ≡ new → entry 4000 ts ≡ Ok (e, rest)
given ts start new rest e from k to = ap (entry 4000) (sym from) ∙ k ∙ ap (λ l. Ok (e, l)) (sym to)

pub returns-in-Ok-clause-next : goal.returns-in-Ok-clause-next
returns-in-Ok-clause-next c = λ entries read.
    let old : Reading = record { text = c.self.inside.text.now; rest = c.self.inside.rest.now } in
    one_more 4000 entries old c.in-Ok.found c.text-self-inside.result.now (subst (HasRead 4000 entries) (sym c.self.view_is) read) (given c.self.inside.rest.now c.new-rest.result c.entry.new.text c.text-self-inside.result.now c.in-Ok.found c.new-rest.ensures c.in-Ok.ensures c.text-self-inside.ensures)

pub returns-in-Ok-clause-one : goal.returns-in-Ok-clause-one
returns-in-Ok-clause-one c =
    ap (λ (r : Reading). r.rest) (sym c.self.view_is) ∙ one_line 4000 c.self.inside.rest.now c.in-Ok.found c.text-self-inside.result.now (given c.self.inside.rest.now c.new-rest.result c.entry.new.text c.text-self-inside.result.now c.in-Ok.found c.new-rest.ensures c.in-Ok.ensures c.text-self-inside.ensures)

pub returns-in-Err-clause-next : goal.returns-in-Err-clause-next
returns-in-Err-clause-next c = λ entries read.
    let old : Reading = record { text = c.self.inside.text.now; rest = c.self.inside.rest.now } in
    let some : 0 < length c.self.inside.rest.now = grind (arith, nat_tests, c.is_empty.ensures, c.if-is_empty.false) in
    let is : c.fault_of.result ≡ fault_of c.in-Err.stop (length c.self.inside.text.now - length c.entry.new.text) =
    c.fault_of.ensures ∙ ap (λ l. fault_of c.in-Err.stop (length c.self.inside.text.now - length l)) c.text.ensures in
    let fails : Fails (entry 4000 c.self.inside.rest.now) c.in-Err.stop c.entry.new.text =
    subst (λ l. Fails (entry 4000 l) c.in-Err.stop c.entry.new.text) c.new-rest.ensures c.in-Err.ensures in
    subst (λ (r : Reading). Tells 4000 r.text c.fault_of.result) c.self.view_is
    (subst (Tells 4000 c.self.inside.text.now) (sym is) (no_more 4000 entries old (subst (HasRead 4000 entries) (sym c.self.view_is) read) some c.in-Err.stop c.entry.new.text fails))
