use Rattle.std.proofs.Common.{◌≡◌, ◌+◌, ◌≤◌, List, ◌∷◌, [], ◌++◌, length, Ok, rules, arith, subst}
use Rattle.kernel.specs.Entries.{Legal, After}
use Rattle.kernel.specs.declared.entry.Entry.{Entry}
use Rattle.proof_log.specs.Answers.{GoesOn}
use Rattle.proof_log.specs.Reading.{HasRead}
use Rattle.proof_log.proofs.OneCheck.{admitted_more, count_fits, illegal_here}
use Rattle.proof_log.proofs.log_check.check_all.Goals as goal

pub overflow_add-count : goal.overflow_add-count
overflow_add-count c =
    let on : (es : List Entry) → HasRead 4000 es c.entries.log → HasRead 4000 (es ++ (c.in-Some.entry ∷ [])) c.next.new.self = λ es h.
    subst (λ o. GoesOn 4000 es c.entries.log (Ok o) c.next.new.self) c.in-Some.is (c.in_ok-entry.ensures.next es h) in
    let fits : c.entries.count + 1 ≤ length c.args.text.now =
    count_fits 4000 c.args.theory.now c.args.text.now c.entries.log c.next.new.self c.entries.theory c.entries.count c.in-Some.entry c.entries.invariant c.in_ok-entry.ensures.text on in
    grind (arith, fits)

pub returns-in-Err-Illegal-clause-answers : goal.returns-in-Err-Illegal-clause-answers
returns-in-Err-Illegal-clause-answers c =
    let on : (es : List Entry) → HasRead 4000 es c.entries.log → HasRead 4000 (es ++ (c.in-Some.entry ∷ [])) c.next.new.self = λ es h.
    subst (λ o. GoesOn 4000 es c.entries.log (Ok o) c.next.new.self) c.in-Some.is (c.in_ok-entry.ensures.next es h) in
    let same : c.get.result.now ≡ c.in-Some.entry = c.get.ensures in
    let illegal : Legal c.entries.theory c.in-Some.entry → ⊥ = subst (λ e. Legal c.entries.theory e → ⊥) same (search (rules, c.in-Err-Illegal.ensures.illegal)) in
    illegal_here 4000 c.args.theory.now c.args.text.now c.entries.log c.next.new.self c.entries.theory c.entries.count c.in-Some.entry c.entries.invariant c.in_ok-entry.ensures.text on
    c.in_ok-read_rest-in-Err-Illegal.ensures illegal

pub entries-preserved : goal.entries-preserved
entries-preserved c =
    let on : (es : List Entry) → HasRead 4000 es c.entries.log → HasRead 4000 (es ++ (c.in-Some.entry ∷ [])) c.next.new.self = λ es h.
    subst (λ o. GoesOn 4000 es c.entries.log (Ok o) c.next.new.self) c.in-Some.is (c.in_ok-entry.ensures.next es h) in
    let same : c.get.result.now ≡ c.in-Some.entry = c.get.ensures in
    admitted_more 4000 c.args.theory.now c.args.text.now c.entries.log c.next.new.self c.entries.theory c.admit.new.self c.entries.count c.in-Some.entry c.entries.invariant c.in_ok-entry.ensures.text on
    (subst (λ e. Legal c.entries.theory e) same c.in-Ok.ensures.ok.0) (subst (λ e. After c.entries.theory e c.admit.new.self) same c.in-Ok.ensures.ok.1)
