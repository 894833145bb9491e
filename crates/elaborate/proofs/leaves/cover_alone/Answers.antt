use Rattle.std.proofs.Common.{ap, arith, ℕ, ◌≡◌, ◌+◌, ◌-◌, take, drop}
use Rattle.derive_kit.proofs.Built.{ok_map}
use Rattle.elaborate.proofs.StepAnswers.{cover_alone_is}
use Rattle.elaborate.proofs.leaves.cover_alone.Goals as goal

pub returns : goal.returns
returns c =
    let one : c.args.at + 1 - c.args.at ≡ 1 = omega arith in
    ok_map c.by_cover.result (λ o h. cover_alone_is c.args.signature.now c.args.candidates.now c.args.line.now c.args.at c.requires.at _ o (ap (λ (n : ℕ). take n (drop c.args.at c.args.candidates.now)) one) h) c.by_cover.ensures
