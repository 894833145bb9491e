use Rattle.std.proofs.Common.{◌≡◌, ◌∙◌, sym, subst, reverse, Some}
use Rattle.fof_terms.specs.Sorts.{sort_of_term}
use Rattle.subsumption.proofs.BoundFacts.{over_then}
use Rattle.subsumption.proofs.MatchedFacts.{on_ok, ok_all}
use Rattle.subsumption.proofs.BecomingFacts.{sorts_differ, both_tried}
use Rattle.subsumption.proofs.becoming.both_become.Goals as goal

pub returns-then-not-is_one_sort-clause-tried : goal.returns-then-not-is_one_sort-clause-tried
returns-then-not-is_one_sort-clause-tried c =
    sorts_differ c.args.task.now c.args.bindings.now c.args.bindings.now c.args.bindings.now c.args.one.now c.args.first.now c.args.other.now c.args.second.now c.requires.table
    c.sort_by_head-sort.result c.sort_by_head-wanted.result c.requires.sorted c.requires.targets
    (λ x e. c.sort_by_head-sort.ensures x (subst (λ xs. sort_of_term c.args.task.now.signature.now (reverse xs) c.args.one.now ≡ Some x) (sym c.as_slice.ensures) e))
    (λ x e. c.sort_by_head-wanted.ensures x (subst (λ xs. sort_of_term c.args.task.now.signature.now (reverse xs) c.args.first.now ≡ Some x) (sym c.as_slice-2.ensures) e))
    (sym c.is_one_sort.ensures ∙ c.if-not-is_one_sort.true)

pub returns-clause-over : goal.returns-clause-over
returns-clause-over c = on_ok c.match_term-2.result (over_then c.args.bindings.now c.match_term.new.bindings c.match_term-2.new.bindings c.in_ok-match_term.ensures.over) c.match_term-2.ensures.over

pub returns-clause-tried : goal.returns-clause-tried
returns-clause-tried c =
    ok_all c.match_term-2.result c.match_term-2.ensures.over c.match_term-2.ensures.sorted c.match_term-2.ensures.matched (λ over keeps.
    both_tried c.args.task.now c.args.bindings.now c.match_term.new.bindings c.match_term-2.new.bindings c.args.one.now c.args.first.now c.args.other.now c.args.second.now c.requires.table
    c.sort_by_head-sort.result c.sort_by_head-wanted.result c.requires.sorted c.requires.targets
    (λ x e. c.sort_by_head-sort.ensures x (subst (λ xs. sort_of_term c.args.task.now.signature.now (reverse xs) c.args.one.now ≡ Some x) (sym c.as_slice.ensures) e))
    (λ x e. c.sort_by_head-wanted.ensures x (subst (λ xs. sort_of_term c.args.task.now.signature.now (reverse xs) c.args.first.now ≡ Some x) (sym c.as_slice-2.ensures) e))
    (sym c.is_one_sort.ensures ∙ c.if-not-is_one_sort.false)
    c.in_ok-match_term.ensures.over over c.in_ok-match_term.ensures.sorted keeps c.in_ok-match_term.field-0 c.if-not-branch.false c.in_ok-match_term.ensures.matched)
