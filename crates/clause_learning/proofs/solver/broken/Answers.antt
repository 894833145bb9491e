use Rattle.std.proofs.Common.{◌≡◌, List, Some, slice_get, length, map, refl, sym, ap, subst, ◌∙◌}
use Rattle.clause_learning.specs.declared.literal.Literal.{Literal}
use Rattle.std.proofs.lemmas.Option.{slice_get_read}
use Rattle.clause_learning.specs.code.Trails.{AllFail}
use Rattle.clause_learning.specs.code.States.{AllLoose}
use Rattle.clause_learning.proofs.Members.{nothing_in, got_left}
use Rattle.clause_learning.proofs.Marking.{loose_more, loose_all}
use Rattle.clause_learning.proofs.solver.broken.Goals as goal

pub loop-number-init : goal.loop-number-init
loop-number-init c = λ d there. absurd (nothing_in d there)

pub loop-number-preserved : goal.loop-number-preserved
loop-number-preserved c =
    loose_more c.args.trail.now.values c.as_slice-inputs.result.now c.loop-number.number c.index-inputs-number.result c.as_slice.result.now c.examine.result c.loop-number-test.true c.index-inputs-number.is c.as_slice.ensures c.examine.ensures
    c.in_default.not-Broken c.loop-number.invariant

pub returns : goal.returns
returns c =
    subst (λ (cs : List (List Literal)). AllLoose c.args.trail.now.values cs) c.as_slice-inputs.ensures
    (loose_all c.args.trail.now.values c.as_slice-inputs.result.now c.loop-number.number c.loop-number-test.false c.loop-number.invariant)

pub returns-in-Broken : goal.returns-in-Broken
returns-in-Broken c =
    let inputs = c.args.clauses.now.inputs in
    let q = c.index-inputs-number.result in
    let read : slice_get c.as_slice-inputs.result.now c.loop-number.number ≡ Some q = slice_get_read c.as_slice-inputs.result.now (length c.as_slice-inputs.result.now) c.loop-number.number q refl c.loop-number-test.true c.index-inputs-number.is in
    let got : slice_get inputs c.loop-number.number ≡ Some q = ap (λ (cs : List (List Literal)). slice_get cs c.loop-number.number) (sym c.as_slice-inputs.ensures) ∙ read in
    (q, got_left inputs (map (λ l. l.lits) c.args.clauses.now.log) c.loop-number.number q got, subst (λ (ls : List Literal). AllFail c.args.trail.now.values ls) c.as_slice.ensures c.in-Broken.ensures)
