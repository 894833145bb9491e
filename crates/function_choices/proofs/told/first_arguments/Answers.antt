use Rattle.std.proofs.Common.{arith, sym, ◌≡◌, length, length-take, min, take, take_all}
use Rattle.function_choices.proofs.told.first_arguments.Goals as goal

pub slice_bounds-result-end : goal.slice_bounds-result-end
slice_bounds-result-end c =
    let most : length (take 100 c.args.args.now) ≡ min 100 (length c.args.args.now) = length-take 100 c.args.args.now in
    omega (arith, most, c.if-args-gt-MAX_ARGUMENTS.true)

pub returns-else-args-gt-MAX_ARGUMENTS : goal.returns-else-args-gt-MAX_ARGUMENTS
returns-else-args-gt-MAX_ARGUMENTS c = sym (take_all 100 c.args.args.now c.if-args-gt-MAX_ARGUMENTS.false)
