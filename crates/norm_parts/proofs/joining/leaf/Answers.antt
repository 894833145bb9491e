use Rattle.std.proofs.Common.{ap, arith, ◌∙◌, ℕ, ◌≡◌, ◌+◌, ◌-◌}
use Rattle.fof_terms.specs.declared.term.Term.{Var}
use Rattle.kernel.specs.declared.proof.Proof.{AndE, AllE}
use Rattle.norm_proofs.specs.Numbering.{near}
use Rattle.norm_proofs.proofs.RoutesFacts.{near_next, near_end}
use Rattle.norm_parts.proofs.joining.leaf.Goals as goal

pub loop-i-init : goal.loop-i-init
loop-i-init c =
    let same : c.args.depth - 0 ≡ c.args.depth = omega arith in
    ap (λ (n : ℕ). near 0 n c.in_ok-made.made) same ∙ ap (near 0 c.args.depth) (c.in_ok-made.ensures ∙ ap (AndE c.args.number) c.in_ok-own.ensures)

pub loop-i-preserved : goal.loop-i-preserved
loop-i-preserved c =
    let same : c.args.depth - 1 - c.loop-i.i ≡ 0 + (c.args.depth - 1 - c.loop-i.i) = omega arith in
    near_next 0 c.args.depth c.loop-i.i c.loop-i.made c.in_ok-made-2.made _ c.loop-i-test.true (c.in_ok-made-2.ensures ∙ ap (λ (n : ℕ). AllE (Var n) c.loop-i.made) same) c.loop-i.invariant

pub returns : goal.returns
returns c = near_end 0 c.args.depth c.loop-i.i c.loop-i.made _ c.loop-i-test.false c.loop-i.invariant
