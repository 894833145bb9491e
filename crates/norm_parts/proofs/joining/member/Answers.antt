use Rattle.std.proofs.Common.{ap, arith, ℕ, ◌≡◌, ◌+◌, ◌-◌, take, drop}
use Rattle.derive_kit.proofs.Built.{ok_map}
use Rattle.norm_parts.proofs.Gathered.{member_leaf, member_narrowed}
use Rattle.norm_parts.proofs.joining.member.Goals as goal

pub returns-then-is_part : goal.returns-then-is_part
returns-then-is_part c =
    ok_map c.leaf.result (λ made e. member_leaf c.args.form.now c.args.depth c.args.rest.now c.args.first c.in_ok-number.field-0 made (c.is_part.ensures c.if-is_part.true) c.in_ok-number.ensures e) c.leaf.ensures

pub returns : goal.returns
returns c =
    let some : c.args.first + c.args.made.count - c.args.first ≡ c.args.made.count = omega arith in
    ok_map c.narrowed.result
    (λ made f. member_narrowed c.args.form.now c.args.depth c.args.rest.now _ c.args.first c.args.made.count c.args.made.part made (ap (λ (n : ℕ). take n (drop c.args.first c.args.rest.now)) some) c.requires.made f) c.narrowed.ensures
