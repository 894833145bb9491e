use Rattle.std.proofs.Common.{ap, ◌∙◌, Some, below_more, refl, arith}
use Rattle.std.proofs.lemmas.Option.{slice_get_within}
use Rattle.clause_proofs.proofs.TurnedSides.{yes, no_then}
use Rattle.search_proofs.proofs.Once.{lit_there, other_lit}
use Rattle.search_proofs.proofs.merging.stands_in.Goals as goal

pub loop-i-preserved : goal.loop-i-preserved
loop-i-preserved c =
    below_more _ _ c.loop-i.invariant (other_lit c.args.lits.now c.loop-i.i c.index-lits-i.result c.args.lit.now c.loop-i-test.true c.index-lits-i.is (no_then _ c.if-equal_lit.false c.equal_lit.ensures))

pub returns-then-equal_lit : goal.returns-then-equal_lit
returns-then-equal_lit c =
    (λ _. (c.loop-i.i, lit_there c.args.lits.now c.loop-i.i c.index-lits-i.result c.loop-i-test.true c.index-lits-i.is ∙ ap Some (yes _ c.if-equal_lit.true c.equal_lit.ensures)), λ _. refl)

pub returns : goal.returns
returns c =
    (λ e. cc, λ s. absurd (c.loop-i.invariant s.0 (let lt = slice_get_within c.args.lits.now s.0 c.args.lit.now s.1 in let end = c.loop-i-test.false in omega arith) s.1))
