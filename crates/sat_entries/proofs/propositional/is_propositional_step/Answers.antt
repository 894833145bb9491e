use Rattle.std.proofs.Common.{List, sym, subst, ◌∙◌}
use Rattle.std.proofs.lemmas.Bool.{false≢true}
use Rattle.chain_proofs.proofs.Parting.{take_all}
use Rattle.derive_kit.proofs.Built.{ok_map}
use Rattle.sat_entries.proofs.PropositionalFacts.{ArePropositional, is_step, line_of_step, not_step}
use Rattle.sat_entries.proofs.propositional.is_propositional_step.Goals as goal

pub returns-then-not-own : goal.returns-then-not-own
returns-then-not-own c = (
  λ e. absurd (false≢true e),
  λ step. absurd (not_step c.args.parents.now c.args.line.now c.parent-item.result (c.loop-parent.parent-index, c.loop-parent-test.true, sym c.parent-item.is) (sym c.in_ok-own.ensures ∙ c.if-not-own.true) step),
)

pub returns : goal.returns
returns c =
    let all = subst ArePropositional (take_all c.args.parents.now c.loop-parent.parent-index c.loop-parent-test.false) c.loop-parent.invariant in
    ok_map c.has_propositional_norm-2.result (λ b e. (λ t. is_step c.args.parents.now c.args.line.now all (sym e ∙ t), λ step. e ∙ line_of_step c.args.parents.now c.args.line.now step)) c.has_propositional_norm-2.ensures
