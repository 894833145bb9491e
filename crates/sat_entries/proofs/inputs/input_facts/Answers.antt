use Rattle.std.proofs.Common.{ap, refl, sym, ◌∙◌, false, arith, get_or}
use Rattle.std.proofs.lemmas.Option.{slice_get-get_or}
use Rattle.clause_form.specs.declared.clause.Clause.{Clause}
use Rattle.sat_entries.proofs.InputFacts.{stated_more}
use Rattle.sat_entries.proofs.inputs.input_facts.Goals as goal

pub loop-at-preserved : goal.loop-at-preserved
loop-at-preserved c =
    let lt = c.loop-at-test.true in
    let marks = c.requires.wanted in
    let many = c.requires.numbers in
    let own = c.as_slice-lits.ensures ∙ ap (λ (d : Clause). d.lits) (sym c.index-clauses-at.is) in
    stated_more c.args.start c.args.clauses.now c.args.wanted.now c.args.numbers.now c.loop-at.at c.loop-at.facts c.args.proofs.now c.loop-at.proofs c.loop-at.invariant c.index-clauses-at.result lt c.index-clauses-at.is (get_or c.args.wanted.now c.loop-at.at false)
    (slice_get-get_or c.args.wanted.now c.loop-at.at false (omega arith)) (get_or c.args.numbers.now c.loop-at.at 0) (slice_get-get_or c.args.numbers.now c.loop-at.at 0 (omega arith)) c.as_slice-lits.result.now own c.in_ok-number.number c.stated_if.new.proofs
    c.in_ok-number.ensures (record { number = c.in_ok-number.number; lits = c.in_ok-lits.lits }) refl (c.in_ok-lits.ensures ∙ own) c.push.new.self c.in_ok-push.ensures.ok
