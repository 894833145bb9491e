use Rattle.std.proofs.Common.{rules, arith, ap, ◌≡◌, ◌+◌, ◌∙◌}
use Rattle.step_clauses.specs.declared.skolemizing.Bound.TheViews.{the_lemmas}
use Rattle.step_clauses.specs.code.Bound.{count_in}
use Rattle.step_clauses.proofs.SkolemizingFacts.{count_in-Universal, count_in-Existential}
use Rattle.step_clauses.proofs.skolemizing.+universals.Goals as goal

pub universals-requires : goal.universals-requires
universals-requires t c =
    let e : count_in c.args.bound.now ≡ count_in c.in-Universal.outer.now + 1 = ap count_in c.in-Universal.is ∙ count_in-Universal c.in-Universal.outer in
    (search (rules, the_lemmas), omega (arith, e, c.requires))

pub universals-requires-in-Existential : goal.universals-requires-in-Existential
universals-requires-in-Existential t c =
    let e : count_in c.args.bound.now ≡ count_in c.in-Existential.outer.now = ap count_in c.in-Existential.is ∙ count_in-Existential c.in-Existential.field-0 c.in-Existential.outer in
    (search (rules, the_lemmas), omega (arith, e, c.requires))
