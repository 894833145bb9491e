use Rattle.std.proofs.Common.{ap, ◌∙◌, ◌++◌, ◌∷◌, [], List, ℕ, refl}
use Rattle.clause_form.specs.ClauseView.{closed_by}
use Rattle.clause_form.proofs.Ok.{ok_map}
use Rattle.norm_parts.proofs.PartsFacts.{only_part}
use Rattle.norm_parts.proofs.ClosedParts.{split_and, split_all, split_alone, popped}
use Rattle.norm_parts.proofs.splitting.+split.Goals as goal

pub split-returns-in-And : goal.split-returns-in-And
split-returns-in-And t c =
    ok_map c.split_all.result (λ done f. (split_and c.args.sorts.now c.args.form.now c.in-And.members c.as_slice.result.now c.args.made.now c.split_all.new.made c.in-And.is c.as_slice.ensures f.0, f.1)) c.split_all.ensures

pub split-returns-in_ok-split-in-All : goal.split-returns-in_ok-split-in-All
split-returns-in_ok-split-in-All t c =
    let pushed = c.in_ok-push-in-All.ensures.ok in
    let made = c.in_ok-split-in-All.ensures in (
      split_all c.args.sorts.now c.push.new.self c.in-All.sort c.args.form.now c.in-All.body c.get.result.now c.args.made.now c.split.new.made c.in-All.is c.get.ensures pushed made.0,
      popped c.pop.result c.split.new.sorts c.pop.new.self c.args.sorts.now c.in-All.sort c.pop.ensures (made.1 ∙ pushed),
    )

pub split-returns-in-Atom : goal.split-returns-in-Atom
split-returns-in-Atom t c =
    let one = only_part c.args.form.now c.in-Atom.is in
    ok_map c.push_closed.result (λ done e. (split_alone c.args.sorts.now c.args.form.now c.args.made.now c.push_closed.new.made one (e ∙ ap (λ (ss : List ℕ). c.args.made.now ++ closed_by ss c.args.form.now ∷ []) c.as_slice-in-Atom.ensures), refl)) c.push_closed.ensures
