use Rattle.std.proofs.Common.{ℕ, ◌<◌, List, false, get_or, sym, subst}
use Rattle.clause_learning.specs.declared.literal.Literal.{Literal}
use Rattle.std.proofs.lemmas.List.Elements.{Contains-get_or}
use Rattle.clause_learning.specs.code.Marked.{AreMarked}
use Rattle.clause_learning.proofs.Marking.{marked_none, marked_more, taken_all, read_again}
use Rattle.clause_learning.proofs.marks.Marks.mark_all.Goals as goal

none : Literal
none = record { atom = 0; positive = false }

pub loop-lit-init : goal.loop-lit-init
loop-lit-init c = marked_none c.args.self.now

pub loop-lit-preserved : goal.loop-lit-preserved
unfolding none
loop-lit-preserved c =
    let lits = c.args.lits.now in
    let i = c.loop-lit.lit-index in
    marked_more c.args.self.now c.loop-lit.self c.mark.new.self lits i (get_or lits i none) c.loop-lit-test.true (read_again lits i none c.loop-lit-test.true) c.loop-lit.invariant c.in_ok-mark.ensures

pub mark-requires : goal.mark-requires
unfolding none
mark-requires c =
    let lits = c.args.lits.now in
    let i = c.loop-lit.lit-index in
    subst (λ (n : ℕ). (get_or lits i none).atom < n) (sym c.loop-lit.invariant.many) (c.requires (get_or lits i none) (Contains-get_or lits i none c.loop-lit-test.true))

pub returns : goal.returns
returns c = subst (λ (ls : List Literal). AreMarked c.args.self.now ls c.loop-lit.self) (taken_all c.args.lits.now c.loop-lit.lit-index c.loop-lit-test.false) c.loop-lit.invariant
