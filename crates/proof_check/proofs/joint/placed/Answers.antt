use Rattle.std.proofs.Common.{◌≡◌, ◌+◌, ◌-◌, ◌<◌, ◌∙◌, sym, ap, arith, length, reverse, Some, None, slice_get}
use Rattle.std.proofs.lemmas.Option.{slice_get_past, slice_get-get_or}
use Rattle.std.proofs.lemmas.List.{get_or-reverse, length-reverse}
use Rattle.fof_terms.specs.declared.term.Term.{Var}
use Rattle.fof_terms.specs.Lift.{lifted_term}
use Rattle.proof_check.specs.code.JointInstance.{joint_instance_term}
use Rattle.proof_check.proofs.Concluded.{ok_map}
use Rattle.proof_check.proofs.JointFacts.{within, filled, beyond}
use Rattle.proof_check.proofs.joint.placed.Goals as goal

pub returns-then-distance-depth : goal.returns-then-distance-depth
returns-then-distance-depth c = sym (within (reverse c.args.terms.now) c.args.depth c.args.distance c.if-distance-depth.true)

pub returns-then-place-terms : goal.returns-then-place-terms
returns-then-place-terms c =
    let d = c.index-terms-terms.result in
    let place = c.args.distance - c.args.depth in
    let below : place < length (reverse c.args.terms.now) = rw length-reverse (omega (arith, c.if-place-terms.true)) in
    let at : slice_get (reverse c.args.terms.now) place ≡ Some d = slice_get-get_or (reverse c.args.terms.now) place d below ∙ ap Some (get_or-reverse c.args.terms.now place d (omega (arith, c.if-place-terms.true)) ∙ sym c.index-terms-terms.is) in
    let same = filled (reverse c.args.terms.now) c.args.depth c.args.distance d (omega (arith, c.if-distance-depth.false)) at in
    ok_map c.lift_term.result (λ x e. e ∙ sym same) c.lift_term.ensures

pub returns-else-place-terms : goal.returns-else-place-terms
returns-else-place-terms c =
    let long : length (reverse c.args.terms.now) ≡ length c.args.terms.now = length-reverse c.args.terms.now in
    let none = slice_get_past (reverse c.args.terms.now) (c.args.distance - c.args.depth) (omega (arith, long, c.if-place-terms.false)) in
    sym (beyond (reverse c.args.terms.now) c.args.depth c.args.distance (omega (arith, c.if-distance-depth.false)) none ∙ ap (λ n. Var (c.args.distance - n)) long)
