use Rattle.std.proofs.Common.{ℕ, ◌+◌, List, [], take, get_or, sym, subst}
use Rattle.std.proofs.lemmas.List.Elements.{all_zip_more}
use Rattle.clause_learning.specs.code.Trims.{IsNumber, IsRenumbered}
use Rattle.clause_learning.proofs.Marking.{read_again, taken_all}
use Rattle.clause_learning.proofs.trimming.renumber.Goals as goal

pub loop-number-init : goal.loop-number-init
loop-number-init c = subst (λ (ns : List ℕ). IsRenumbered c.args.given c.args.numbers.now [] ns) (sym c.new-renumbered.ensures) tt

pub loop-number-preserved : goal.loop-number-preserved
loop-number-preserved c =
    let given = c.args.given in
    let numbers = c.args.numbers.now in
    let from = c.args.from.now in
    let i = c.loop-number.number-index in
    let lt = c.loop-number-test.true in
    subst (λ (ns : List ℕ). IsRenumbered given numbers (take (i + 1) from) ns) (sym c.in_ok-push.ensures.ok)
    (all_zip_more (IsNumber given numbers) from c.loop-number.renumbered i (get_or from i 0) c.in-Some.next lt (read_again from i 0 lt) c.loop-number.invariant c.in-Some.ensures)

pub returns : goal.returns
returns c =
    let P : List ℕ → Type 0 = λ ks. IsRenumbered c.args.given c.args.numbers.now ks c.loop-number.renumbered in
    subst P (taken_all c.args.from.now c.loop-number.number-index c.loop-number-test.false) c.loop-number.invariant
