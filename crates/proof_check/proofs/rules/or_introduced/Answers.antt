use Rattle.std.proofs.Common.{rules, ◌≡◌, ap, refl, Some}
use Rattle.proof_check.proofs.Concluded.{not_true, or_i_yes, or_i_no}
use Rattle.fof_terms.specs.Sorts.{Sorted}
use Rattle.fof_terms.specs.Scope.{scope_sorts}
use Rattle.fof_terms.specs.declared.form.Form.{Or}
use Rattle.proof_check.proofs.rules.or_introduced.Goals as goal

pub returns-then-not-is_chosen : goal.returns-then-not-is_chosen
returns-then-not-is_chosen c = λ h p cp. or_i_no c.args.theory.now _ h c.args.members.now c.args.chosen p c.args.shown.now cp (λ fits b. absurd (not_true (c.if-not-is_chosen.ensures.1 b)))

pub returns-then-well_sorted_in : goal.returns-then-well_sorted_in
returns-then-well_sorted_in c =
    let same : c.in_ok-whole.whole ≡ Or c.args.members.now = search (rules, c.in_ok-whole.ensures, c.in_ok-copy_all.ensures) in
    let fits : Sorted c.args.theory.now.vocabulary (scope_sorts c.args.scope.now) (Or c.args.members.now) = rw (← same, ← c.get.ensures, ← c.signature.ensures) (c.if-well_sorted_in.ensures.0 refl) in
    λ h p cp. or_i_yes c.args.theory.now _ h c.args.members.now c.args.chosen p c.args.shown.now (Some c.made.result) (search (rules, same)) cp fits (c.if-not-is_chosen.ensures.0 refl)

pub returns : goal.returns
returns c =
    let same : c.in_ok-whole.whole ≡ Or c.args.members.now = search (rules, c.in_ok-whole.ensures, c.in_ok-copy_all.ensures) in
    λ h p cp. or_i_no c.args.theory.now _ h c.args.members.now c.args.chosen p c.args.shown.now cp (λ fits b. absurd (not_true (c.if-well_sorted_in.ensures.1 (rw (c.signature.ensures, c.get.ensures, same) fits))))
