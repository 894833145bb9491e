use Rattle.std.specs.Prelude.{List}
use Rattle.std.proofs.Common.{sym, subst}
use Rattle.fof_terms.specs.Scope.{scope_sorts}
use Rattle.fof_terms.proofs.Scoped.{sorted_of_eq}
use Rattle.clause_form.specs.declared.clause.Lit.{Lit}
use Rattle.kernel.specs.Proves.{Proves}
use Rattle.clause_proofs.specs.Bodies.{body_of}
use Rattle.clause_proofs.specs.Refuting.{theory_of}
use Rattle.rule_proofs.proofs.Fillings.{images_reach, filled_shows}
use Rattle.rule_proofs.proofs.rewriting.filled.Goals as goal

pub known_sort-sort-requires : goal.known_sort-sort-requires
known_sort-sort-requires c = let sides = sorted_of_eq c.args.signature.now (scope_sorts c.args.scope.now) 2147483647 c.args.left.now c.args.right.now c.requires.sorted in (c.requires.sorted.scope_fits, sides.0, sides.1)

pub hole_of-requires : goal.hole_of-requires
hole_of-requires c = images_reach c.args.signature.now (scope_sorts c.args.scope.now) c.requires.sorted.scope_fits c.requires.is_marked.sorts c.args.images.now c.requires.is_marked.size c.requires.is_marked.images_sorted

pub returns-clause-shows : goal.returns-clause-shows
returns-clause-shows c formulas h at shown =
    subst (λ (ls : List Lit). Proves (theory_of c.args.signature.now formulas) (scope_sorts c.args.scope.now) h c.in_ok-part.part (body_of c.args.into.is_or ls)) (sym c.in_ok-lits.ensures)
    (filled_shows c.args.signature.now (scope_sorts c.args.scope.now) c.args.images.now c.args.marked.now c.args.left.now c.requires.is_marked formulas h c.args.into.is_or c.args.right.now c.args.into.lits c.known_sort-sort.result c.in_ok-hole.hole c.in_ok-own.own c.args.into.part c.in_ok-part.part
    c.requires.sorted.scope_fits c.requires.room c.known_sort-sort.ensures.sort c.known_sort-sort.ensures.there c.in_ok-hole.ensures c.requires.before (c.in_ok-own.ensures formulas h at) shown c.in_ok-part.ensures)
