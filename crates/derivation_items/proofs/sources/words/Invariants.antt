use Rattle.std.proofs.Common.{◌≡◌, take, map}
use Rattle.tptp_base.specs.declared.item.GTerm.TheVariants as general
use Rattle.derivation_items.proofs.sources.words.Given as goal

abbrev pub invariant-loop-text : goal.invariant-loop-text
invariant-loop-text l = l.terms ≡ map general.Word (take l.text-index l.texts)
