use Rattle.std.proofs.Common.{arith}
use Rattle.clause_form.proofs.Ok.{ok_map}
use Rattle.clause_form.proofs.SizeLaws.{depth_within_size}
use Rattle.step_clauses.proofs.RoomFacts.{none_wanted, own_wanted}
use Rattle.step_clauses.proofs.room.wanted.Goals as goal

pub returns-then-norm_size-gt-MAX_NORM_SIZE : goal.returns-then-norm_size-gt-MAX_NORM_SIZE
returns-then-norm_size-gt-MAX_NORM_SIZE c = none_wanted c.args.positive c.args.form.now c.norm_size.result c.norm_size.ensures c.if-norm_size-gt-MAX_NORM_SIZE.true

pub norm_signed-requires : goal.norm_signed-requires
norm_signed-requires c = let deep = depth_within_size c.args.form.now in omega (arith, deep, c.norm_size.ensures, c.if-norm_size-gt-MAX_NORM_SIZE.false)

pub returns : goal.returns
returns c = ok_map c.count_existentials.result (λ count e. own_wanted c.args.positive c.args.form.now c.in_ok-norm.norm c.norm_size.result count c.norm_size.ensures c.if-norm_size-gt-MAX_NORM_SIZE.false c.in_ok-norm.ensures e) c.count_existentials.ensures
