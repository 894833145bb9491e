use Rattle.std.proofs.Common.{◌≡◌, drop}
use Rattle.fi_model.specs.Sentences.{sentences}
use Rattle.fi_model.proofs.SentenceFacts.{behind}
use Rattle.fi_model.proofs.sentences.sentences.Given as goal

abbrev pub invariant-loop-item : goal.invariant-loop-item
invariant-loop-item l = sentences l.items ≡ behind l.found (sentences (drop l.item-index l.items))
