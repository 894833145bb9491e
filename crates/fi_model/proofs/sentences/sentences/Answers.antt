use Rattle.fi_model.specs.Sentences.{sentences}
use Rattle.fi_model.proofs.SentenceFacts.{begins, turn, ends}
use Rattle.fi_model.proofs.sentences.sentences.Goals as goal

pub loop-item-init : goal.loop-item-init
loop-item-init c = rw c.new-found.ensures (begins (sentences c.args.items.now))

pub loop-item-preserved : goal.loop-item-preserved
loop-item-preserved c =
    turn c.args.items.now c.loop-item.item-index c.item-item.result c.loop-item.found c.loop-item-test.true c.item-item.is c.loop-item.invariant c.add_sentence.new.found c.in_ok-add_sentence.ensures.added

pub returns-clause-all : goal.returns-clause-all
returns-clause-all c = ends c.args.items.now c.loop-item.item-index c.loop-item.found c.loop-item-test.false c.loop-item.invariant
