use Rattle.std.proofs.Common.{rules, arith, ap, refl, ◌≡◌, ◌+◌, ◌∙◌, map}
use Rattle.fof_terms.specs.Lift.{lifted_term}
use Rattle.clause_form.specs.Clauses.{variables}
use Rattle.clause_form.proofs.Ok.{ok_map}
use Rattle.step_clauses.specs.declared.skolemizing.Bound.TheViews.{the_lemmas}
use Rattle.step_clauses.specs.code.Bound.{count_in}
use Rattle.step_clauses.proofs.SkolemizingFacts.{count_in-Universal, count_in-Existential, outside_all, first_universal, next_universal, first_existential}
use Rattle.step_clauses.proofs.skolemizing.+term_at.Goals as goal

pub term_at-requires : goal.term_at-requires
term_at-requires t c =
    let e : count_in c.args.bound.now ≡ count_in c.in-Universal.outer.now + 1 = ap count_in c.in-Universal.is ∙ count_in-Universal c.in-Universal.outer in
    (search (rules, the_lemmas), (omega (arith, c.requires.distance, c.if-distance-eq0.false), omega (arith, e, c.requires.count)))

pub term_at-requires-else-distance-eq0-2 : goal.term_at-requires-else-distance-eq0-2
term_at-requires-else-distance-eq0-2 t c =
    let e : count_in c.args.bound.now ≡ count_in c.in-Existential.outer.now = ap count_in c.in-Existential.is ∙ count_in-Existential c.in-Existential.symbol c.in-Existential.outer in
    (search (rules, the_lemmas), (omega (arith, c.requires.distance), omega (arith, e, c.requires.count)))

pub returns-in-Outside : goal.returns-in-Outside
returns-in-Outside t c = outside_all c.args.bound.now c.args.distance c.args.further _ c.in-Outside.is refl

pub returns-then-distance-eq0 : goal.returns-then-distance-eq0
returns-then-distance-eq0 t c = first_universal c.args.bound.now c.args.distance c.args.further _ c.in-Universal.outer c.in-Universal.is c.if-distance-eq0.true refl

pub returns-else-distance-eq0 : goal.returns-else-distance-eq0
returns-else-distance-eq0 t c = ok_map c.term_at.result (λ made e. next_universal c.args.bound.now c.args.distance c.args.further made c.in-Universal.outer c.in-Universal.is c.if-distance-eq0.false e) c.term_at.ensures

pub returns-in_ok-args-in-Existential : goal.returns-in_ok-args-in-Existential
returns-in_ok-args-in-Existential t c =
    first_existential c.args.bound.now c.args.distance c.args.further _ c.in-Existential.outer c.in-Existential.symbol c.in_ok-args-in-Existential.args c.in-Existential.is c.if-distance-eq0-2.true (c.in_ok-args-in-Existential.ensures ∙ ap (λ n. map (lifted_term c.args.further 0) (variables n)) c.universals.ensures) refl
