use Rattle.std.proofs.Common.{ap, sym, ◌∙◌, List, ℕ, ◌++◌}
use Rattle.std.proofs.lemmas.Result.{on_ok_weaker}
use Rattle.packed_clauses.proofs.Spelled.{one_digit, are_two_digits, are_five_digits}
use Rattle.packed_clauses.proofs.writing.write_number.Goals as goal

pub returns-then-number-lt128 : goal.returns-then-number-lt128
returns-then-number-lt128 c = c.in_ok-push.ensures.ok ∙ ap (λ (xs : List ℕ). c.args.bytes.now ++ xs) (sym (one_digit c.args.number c.if-number-lt128.true))

pub returns-then-number-lt16384 : goal.returns-then-number-lt16384
returns-then-number-lt16384 c =
    on_ok_weaker c.write_two.result (λ e. e ∙ ap (λ (xs : List ℕ). c.args.bytes.now ++ xs) (sym (are_two_digits c.args.number c.if-number-lt128.false c.if-number-lt16384.true))) c.write_two.ensures

pub returns : goal.returns
returns c =
    on_ok_weaker c.write_five.result (λ e. e ∙ ap (λ (xs : List ℕ). c.args.bytes.now ++ xs) (sym (are_five_digits c.args.number c.if-number-lt16384.false))) c.write_five.ensures
