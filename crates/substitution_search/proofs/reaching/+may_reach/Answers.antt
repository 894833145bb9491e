use Rattle.std.proofs.Common.{Some, arith, below_more, slice_get, subst, ◌≡◌}
use Rattle.std.proofs.lemmas.Option.{slice_get_within}
use Rattle.fof_terms.specs.declared.form.Form.{Form}
use Rattle.substitution_search.specs.Screens.{NeverReached}
use Rattle.clause_rules.proofs.Firsts.{ok_map, one_at, there_at}
use Rattle.substitution_search.proofs.Unreached.{and_told, or_told, all_told, leaf_told}
use Rattle.substitution_search.proofs.reaching.+may_reach.Goals as goal

pub may_reach-returns-in-And : goal.may_reach-returns-in-And
may_reach-returns-in-And t c = ok_map c.may_reach_one.result (λ b h e. and_told c.args.line.now c.args.form.now c.in-And.members c.as_slice.result.now c.in-And.is c.as_slice.ensures (h e)) c.may_reach_one.ensures

pub may_reach-returns-in-Or : goal.may_reach-returns-in-Or
may_reach-returns-in-Or t c = ok_map c.may_reach_each.result (λ b h e. or_told c.args.line.now c.args.form.now c.in-Or.members c.as_slice-in-Or.result.now c.in-Or.is c.as_slice-in-Or.ensures (h e)) c.may_reach_each.ensures

pub may_reach-returns-in-All : goal.may_reach-returns-in-All
may_reach-returns-in-All t c = ok_map c.may_reach.result (λ b h e. all_told c.args.line.now c.args.form.now c.in-All.body c.get.result.now c.in-All.is c.get.ensures (h e)) c.may_reach.ensures

pub may_reach-returns-in-Atom : goal.may_reach-returns-in-Atom
may_reach-returns-in-Atom t c = ok_map c.may_reach_leaf.result (λ b h e. leaf_told c.args.line.now c.args.form.now c.in-Atom.is (h e)) c.may_reach_leaf.ensures

pub may_reach_one-loop-at-preserved : goal.may_reach_one-loop-at-preserved
may_reach_one-loop-at-preserved t c =
    below_more (λ i. (a : Form) → slice_get c.args.forms.now i ≡ Some a → NeverReached c.args.line.now a) _ c.loop-at.invariant
    (λ a e. subst (NeverReached c.args.line.now) (one_at c.args.forms.now c.loop-at.at c.index-forms-at.result a (there_at c.args.forms.now c.loop-at.at c.index-forms-at.result c.loop-at-test.true c.index-forms-at.is) e) (c.in_ok-is_open.ensures c.if-is_open.false))

pub may_reach_one-returns : goal.may_reach_one-returns
may_reach_one-returns t c = λ _ i a e. let lt = slice_get_within c.args.forms.now i a e in let end = c.loop-at-test.false in c.loop-at.invariant i (omega arith) a e

pub may_reach_each-returns-then-not-is_open : goal.may_reach_each-returns-then-not-is_open
may_reach_each-returns-then-not-is_open t c = λ _. (c.loop-at.at, c.index-forms-at.result, there_at c.args.forms.now c.loop-at.at c.index-forms-at.result c.loop-at-test.true c.index-forms-at.is, c.in_ok-is_open.ensures c.if-not-is_open.true)
