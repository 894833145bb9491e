use Rattle.std.proofs.Common.{List, sym, ◌∙◌, ap}
use Rattle.fi_model.specs.Sentences.{Text}
use Rattle.fi_model.specs.Models.{domains}
use Rattle.fi_model.specs.code.Slots.{first_empty, IsOfDomains}
use Rattle.fi_model.proofs.DomainFacts.{are_domains}
use Rattle.fi_model.proofs.DomainLoops.{turn, turn_fails, all_taken, lacking, err_told}
use Rattle.fi_model.proofs.domains.domains.Goals as goal

pub loop-sentence-preserved : goal.loop-sentence-preserved
loop-sentence-preserved c =
    turn c.args.signature.now c.args.said.now c.loop-sentence.sentence-index c.sentence-item.result c.loop-sentence.slots c.loop-sentence-test.true c.sentence-item.is c.loop-sentence.invariant c.take_sentence.new.slots c.in_ok-take_sentence.ensures.ok

pub returns-in_err-take_sentence-clause-fault : goal.returns-in_err-take_sentence-clause-fault
returns-in_err-take_sentence-clause-fault c =
    err_told (λ f. IsOfDomains c.args.signature.now (domains c.args.said.now) f) c.from_residual-in_err-take_sentence.result c.in_err-take_sentence.field-0.0 c.from_residual-in_err-take_sentence.ensures.1
    (turn_fails c.args.signature.now c.args.said.now c.loop-sentence.sentence-index c.sentence-item.result c.loop-sentence.slots c.loop-sentence-test.true c.sentence-item.is c.loop-sentence.invariant
    c.sort_count.ensures.some c.in_err-take_sentence.field-0.0 c.in_err-take_sentence.ensures.err)

pub returns-in-Some-clause-fault : goal.returns-in-Some-clause-fault
returns-in-Some-clause-fault c =
    lacking c.args.signature.now (domains c.args.said.now) c.loop-sentence.slots c.in-Some.sort c.no_domain.result
    (all_taken c.args.signature.now c.args.said.now c.loop-sentence.sentence-index c.loop-sentence.slots c.loop-sentence-test.false c.loop-sentence.invariant)
    (ap (λ (xs : List (List Text)). first_empty xs) (sym c.as_slice.ensures) ∙ sym c.first_empty.ensures ∙ c.in-Some.is)
    c.no_domain.ensures

pub returns-in-None-clause-are : goal.returns-in-None-clause-are
returns-in-None-clause-are c =
    are_domains c.args.signature.now (domains c.args.said.now) c.loop-sentence.slots
    (all_taken c.args.signature.now c.args.said.now c.loop-sentence.sentence-index c.loop-sentence.slots c.loop-sentence-test.false c.loop-sentence.invariant)
    (ap (λ (xs : List (List Text)). first_empty xs) (sym c.as_slice.ensures) ∙ sym c.first_empty.ensures ∙ c.in-None.is)
