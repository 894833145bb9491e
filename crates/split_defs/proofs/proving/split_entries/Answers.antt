use Rattle.std.proofs.Common.{sym, subst, List}
use Rattle.kernel.specs.declared.entry.Entry.{Entry}
use Rattle.derive_kit.specs.Derived.{IsDerivedFrom, numbers_of}
use Rattle.derive_kit.proofs.Built.{ok_map}
use Rattle.split_defs.proofs.Unfolding.{derived}
use Rattle.split_defs.proofs.proving.split_entries.Goals as goal

pub returns : goal.returns
returns c =
    ok_map c.lemma.result
    (λ entries e. subst (λ (es : List Entry). IsDerivedFrom c.args.theory.now (numbers_of c.args.parents.now) es c.args.line.now) (sym e)
    (derived c.args.theory.now c.args.parents.now c.args.line.now c.in_ok-proof-in-Split.proof c.requires.parents (rw c.signature.ensures at c.in_ok-proof-in-Split.ensures)))
    c.lemma.ensures
