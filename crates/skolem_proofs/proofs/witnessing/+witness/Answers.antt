use Rattle.std.proofs.Common.{arith, ap, sym, subst, refl, ◌≡◌, ◌∙◌, ◌+◌, ◌∷◌, true, false, length, drop, get_or}
use Rattle.fof_terms.specs.declared.form.Form.{Atom, Eq, Not, And, Or, All}
use Rattle.fof_terms.specs.Instance.{instance_of}
use Rattle.clause_form.specs.Sizes.{norm_size_of}
use Rattle.kernel.specs.declared.proof.Proof.{Hyp, OrE, ImpI}
use Rattle.skolem_fresh.specs.Renamed.{renamed}
use Rattle.skolem_fresh.specs.Uses.{value_of}
use Rattle.skolem_fresh.proofs.WalkCode.{node_size, all_size, one_size, instance_size}
use Rattle.skolem_proofs.specs.code.Witnessed.{cases, StepShows}
use Rattle.skolem_proofs.proofs.ExistentialFacts.{not_here, has_existential-Atom, has_existential-Eq, has_existential-Not}
use Rattle.skolem_proofs.proofs.Walked.{ok_both, no_implication, no_equivalence, plain_went, members_may, conjunction_went, disjunction_went, under_may, all_went, some_size, some_may, there_is, its_reach, its_room, next_may, some_went}
use Rattle.skolem_proofs.proofs.Looped.{few_there, few_results, starts, one_goes, one_may, goes_on, numbered_on, ends}
use Rattle.skolem_proofs.proofs.witnessing.+witness.Goals as goal

pub witness-witness_all-requires : goal.witness-witness_all-requires
witness-witness_all-requires t c =
    let size = node_size true c.args.form.now c.as_slice-members.result.now c.in-And.members c.in-And.is c.as_slice-members.ensures in
    (omega (arith, size, c.decreases), (c.requires.0, c.requires.1, members_may true c.args.form.now c.as_slice-members.result.now c.in-And.members c.in-And.is c.as_slice-members.ensures c.requires.0 c.requires.1 (drop (length c.args.entries.now) c.args.uses.now) c.requires.2))

pub witness-witness_all-requires-in-Or : goal.witness-witness_all-requires-in-Or
witness-witness_all-requires-in-Or t c =
    let size = node_size false c.args.form.now c.as_slice-members-in-Or.result.now c.in-Or.members c.in-Or.is c.as_slice-members-in-Or.ensures in
    (omega (arith, size, c.decreases), (c.requires.0, c.requires.1, members_may false c.args.form.now c.as_slice-members-in-Or.result.now c.in-Or.members c.in-Or.is c.as_slice-members-in-Or.ensures c.requires.0 c.requires.1 (drop (length c.args.entries.now) c.args.uses.now) c.requires.2))

pub witness-disjunction-requires-clause-few : goal.witness-disjunction-requires-clause-few
witness-disjunction-requires-clause-few t c =
    let m = members_may false c.args.form.now c.as_slice-members-in-Or.result.now c.in-Or.members c.in-Or.is c.as_slice-members-in-Or.ensures c.requires.0 c.requires.1 (drop (length c.args.entries.now) c.args.uses.now) c.requires.2 in
    (few_results c.requires.0 c.requires.1 false c.as_slice-members-in-Or.result.now (drop (length c.args.entries.now) c.args.uses.now) (drop (length c.witness_all-in-Or.new.entries) c.args.uses.now) (c.args.first + length c.args.entries.now) c.args.entries.now c.witness_all-in-Or.new.entries c.in_ok-made-in-Or.made.forms c.as_slice.result.now c.in_ok-made-in-Or.made.arms c.as_slice.ensures m (c.in_ok-made-in-Or.ensures c.requires.0 c.requires.1 m.go)).0

pub witness-disjunction-requires-clause-each : goal.witness-disjunction-requires-clause-each
witness-disjunction-requires-clause-each t c =
    let m = members_may false c.args.form.now c.as_slice-members-in-Or.result.now c.in-Or.members c.in-Or.is c.as_slice-members-in-Or.ensures c.requires.0 c.requires.1 (drop (length c.args.entries.now) c.args.uses.now) c.requires.2 in
    (few_results c.requires.0 c.requires.1 false c.as_slice-members-in-Or.result.now (drop (length c.args.entries.now) c.args.uses.now) (drop (length c.witness_all-in-Or.new.entries) c.args.uses.now) (c.args.first + length c.args.entries.now) c.args.entries.now c.witness_all-in-Or.new.entries c.in_ok-made-in-Or.made.forms c.as_slice.result.now c.in_ok-made-in-Or.made.arms c.as_slice.ensures m (c.in_ok-made-in-Or.ensures c.requires.0 c.requires.1 m.go)).1

pub witness-witness-requires : goal.witness-witness-requires
witness-witness-requires t c =
    let size = all_size c.in-All.sort c.args.form.now c.get-body.result.now c.in-All.body c.in-All.is c.get-body.ensures in
    (omega (arith, size, c.decreases), (c.requires.0, c.in-All.sort ∷ c.requires.1, under_may c.args.form.now c.get-body.result.now c.in-All.body c.in-All.sort c.in-All.is c.get-body.ensures c.requires.0 c.requires.1 (drop (length c.args.entries.now) c.args.uses.now) c.requires.2))

pub witness-witness_some-requires : goal.witness-witness_some-requires
witness-witness_some-requires t c =
    let size = some_size c.args.form.now c.get.result.now c.in-Ex.body c.in-Ex.sort c.in-Ex.is c.get.ensures in
    (omega (arith, size, c.decreases), (c.requires.0, c.requires.1, some_may c.args.form.now c.get.result.now c.in-Ex.body c.in-Ex.sort c.in-Ex.is c.get.ensures c.requires.0 c.requires.1 (drop (length c.args.entries.now) c.args.uses.now) c.requires.2))

pub witness-returns-then-not-has_existential : goal.witness-returns-then-not-has_existential
witness-returns-then-not-has_existential t c =
    ok_both c.itself.result
    (λ made ef ep v scope g. plain_went c.args.form.now v scope (drop (length c.args.entries.now) c.args.uses.now) g (c.args.first + length c.args.entries.now) c.args.entries.now made.form made.part ef ep (sym c.has_existential.ensures ∙ c.if-not-has_existential.true)) c.itself.ensures.form c.itself.ensures.part

pub witness-unreachable-requires : goal.witness-unreachable-requires
witness-unreachable-requires t c = not_here c.args.form.now (Atom c.in-Atom.field-0 c.in-Atom.field-1) c.has_existential.result c.has_existential.ensures c.if-not-has_existential.false c.in-Atom.is (has_existential-Atom c.in-Atom.field-0 c.in-Atom.field-1)

pub witness-unreachable-requires-in-Eq : goal.witness-unreachable-requires-in-Eq
witness-unreachable-requires-in-Eq t c = not_here c.args.form.now (Eq c.in-Eq.field-0 c.in-Eq.field-1) c.has_existential.result c.has_existential.ensures c.if-not-has_existential.false c.in-Eq.is (has_existential-Eq c.in-Eq.field-0 c.in-Eq.field-1)

pub witness-unreachable-requires-in-Not : goal.witness-unreachable-requires-in-Not
witness-unreachable-requires-in-Not t c = not_here c.args.form.now (Not c.in-Not.field-0) c.has_existential.result c.has_existential.ensures c.if-not-has_existential.false c.in-Not.is (has_existential-Not c.in-Not.field-0)

pub witness-unreachable-requires-in-Imp : goal.witness-unreachable-requires-in-Imp
witness-unreachable-requires-in-Imp t c = no_implication c.args.form.now c.requires.0 c.requires.1 (drop (length c.args.entries.now) c.args.uses.now) c.requires.2.goes c.in-Imp.field-0 c.in-Imp.field-1 c.in-Imp.is

pub witness-unreachable-requires-in-Iff : goal.witness-unreachable-requires-in-Iff
witness-unreachable-requires-in-Iff t c = no_equivalence c.args.form.now c.requires.0 c.requires.1 (drop (length c.args.entries.now) c.args.uses.now) c.requires.2.goes c.in-Iff.field-0 c.in-Iff.field-1 c.in-Iff.is

pub witness-returns-in_ok-part-in-And : goal.witness-returns-in_ok-part-in-And
witness-returns-in_ok-part-in-And t c v scope g =
    conjunction_went c.args.form.now c.as_slice-members.result.now c.in-And.members c.as_slice-members.ensures v scope (drop (length c.args.entries.now) c.args.uses.now) (drop (length c.witness_all.new.entries) c.args.uses.now) g (c.args.first + length c.args.entries.now) c.args.entries.now c.witness_all.new.entries c.in_ok-made-in-And.made.forms c.in_ok-made-in-And.made.arms (And c.in_ok-made-in-And.made.forms) c.in_ok-part-in-And.part c.in-And.is refl c.in_ok-part-in-And.ensures (λ x. c.in_ok-made-in-And.ensures v scope x)

pub witness-returns-in_ok-part-in-Or : goal.witness-returns-in_ok-part-in-Or
witness-returns-in_ok-part-in-Or t c v scope g =
    disjunction_went c.args.form.now c.as_slice-members-in-Or.result.now c.in-Or.members c.as_slice-members-in-Or.ensures v scope (drop (length c.args.entries.now) c.args.uses.now) (drop (length c.witness_all-in-Or.new.entries) c.args.uses.now) g (c.args.first + length c.args.entries.now) c.args.entries.now c.witness_all-in-Or.new.entries c.in_ok-made-in-Or.made.forms c.in_ok-made-in-Or.made.arms (Or c.in_ok-made-in-Or.made.forms) c.in_ok-part-in-Or.part c.in-Or.is refl
    (c.in_ok-part-in-Or.ensures ∙ ap (λ fs. ImpI (Or c.as_slice-members-in-Or.result.now) (OrE (Or fs) (Hyp 0) (cases fs 0 c.in_ok-made-in-Or.made.arms))) c.as_slice.ensures) (λ x. c.in_ok-made-in-Or.ensures v scope x)

pub witness-returns-in_ok-new-in-All : goal.witness-returns-in_ok-new-in-All
witness-returns-in_ok-new-in-All t c v scope g =
    all_went c.args.form.now c.get-body.result.now c.in-All.body c.in-All.sort c.in-All.is c.get-body.ensures v scope (drop (length c.args.entries.now) c.args.uses.now) (drop (length c.witness.new.entries) c.args.uses.now) g (c.args.first + length c.args.entries.now) c.args.entries.now c.witness.new.entries c.in_ok-inner-in-All.inner.form (All c.in-All.sort c.in_ok-new-in-All.field-0) c.in_ok-inner-in-All.inner.part c.in_ok-part-in-All.part (ap (All c.in-All.sort) c.in_ok-new-in-All.ensures) c.in_ok-part-in-All.ensures (λ x. c.in_ok-inner-in-All.ensures v (c.in-All.sort ∷ scope) x)

pub witness_all-loop-number-init : goal.witness_all-loop-number-init
witness_all-loop-number-init t c = starts c.args.conjunction c.args.forms.now c.args.uses.now c.args.first c.args.entries.now c.new-made.result c.new-arms.result c.new-made.ensures c.new-arms.ensures

pub witness_all-witness-requires : goal.witness_all-witness-requires
witness_all-witness-requires t c =
    let v = c.requires.0 in
    let scope = c.requires.1 in
    let m = c.requires.2 in
    let small = one_size c.args.forms.now c.loop-number.number c.index-forms-number.result c.loop-number-test.true c.index-forms-number.is in
    let goes = one_goes c.args.conjunction c.args.forms.now c.loop-number.number c.index-forms-number.result c.loop-number-test.true c.index-forms-number.is v scope m.go.taken m.go.after m.go.results c.args.uses.now (c.args.first + length c.args.entries.now) c.args.entries.now c.loop-number.entries c.loop-number.made c.loop-number.arms (c.loop-number.invariant v scope m.go) in
    (omega (arith, small, c.decreases), (v, scope, one_may c.args.forms.now c.loop-number.number c.index-forms-number.result v scope (drop (length c.args.entries.now) c.args.uses.now) (drop (length c.loop-number.entries) c.args.uses.now) c.loop-number-test.true c.index-forms-number.is m goes))

pub witness_all-overflow_cast-number : goal.witness_all-overflow_cast-number
witness_all-overflow_cast-number t c = omega (arith, few_there c.requires.0 c.requires.1 c.args.forms.now (drop (length c.args.entries.now) c.args.uses.now) c.loop-number.number c.loop-number-test.true c.requires.2)

pub witness_all-loop-number-preserved : goal.witness_all-loop-number-preserved
witness_all-loop-number-preserved t c v scope g =
    let s = c.loop-number.invariant v scope g in
    let goes = one_goes c.args.conjunction c.args.forms.now c.loop-number.number c.index-forms-number.result c.loop-number-test.true c.index-forms-number.is v scope g.taken g.after g.results c.args.uses.now (c.args.first + length c.args.entries.now) c.args.entries.now c.loop-number.entries c.loop-number.made c.loop-number.arms s in
    goes_on c.args.conjunction c.args.forms.now c.loop-number.number c.index-forms-number.result c.loop-number-test.true c.index-forms-number.is v scope g.taken g.after g.results c.args.uses.now (c.args.first + length c.args.entries.now) c.args.entries.now c.loop-number.entries c.loop-number.made c.loop-number.arms s c.witness.new.entries c.in_ok-one.one.form c.in_ok-one.one.part c.push.new.self c.push-in-loop-number.new.self c.loop-number.number c.into_inner.result c.in_ok-push.ensures.ok c.in_ok-push-2.ensures.ok
    (c.into_inner.ensures ∙ c.in_ok-arm.ensures) refl (c.args.first + length c.loop-number.entries) (numbered_on c.args.first c.args.entries.now c.loop-number.entries s.told s.gained) (c.in_ok-one.ensures v scope goes)

pub witness_all-returns : goal.witness_all-returns
witness_all-returns t c v scope g =
    ends c.args.conjunction c.args.forms.now c.loop-number.number c.loop-number-test.false v scope g.taken g.after (drop (length c.loop-number.entries) c.args.uses.now) g.results (c.args.first + length c.args.entries.now) c.args.entries.now c.loop-number.entries c.loop-number.made c.loop-number.arms (c.loop-number.invariant v scope g)

pub witness_some-prove-unreachable-requires : goal.witness_some-prove-unreachable-requires
witness_some-prove-unreachable-requires t c =
    let lt = there_is c.args.body.now c.args.sort c.requires.0 c.requires.1 c.args.uses.now c.args.entries.now c.requires.2.goes in
    omega (arith, lt, c.if-prove.true, c.len-at.ensures)

pub witness_some-rename-requires : goal.witness_some-rename-requires
witness_some-rename-requires t c =
    let chosen = c.index-uses-at.result in
    let room = its_room c.args.body.now c.args.sort c.requires.0 c.requires.1 c.args.uses.now c.args.entries.now chosen (c.index-uses-at.is ∙ ap (λ k. get_or c.args.uses.now k chosen) c.len-at.ensures) c.requires.2 in
    let same : length c.as_slice.result.now ≡ length chosen.variables = ap length c.as_slice.ensures in
    omega (arith, room, same)

pub witness_some-next_of-requires : goal.witness_some-next_of-requires
witness_some-next_of-requires t c =
    let chosen = c.index-uses-at.result in
    its_reach c.args.body.now c.args.sort c.requires.0 c.requires.1 c.args.uses.now c.args.entries.now chosen (c.index-uses-at.is ∙ ap (λ k. get_or c.args.uses.now k chosen) c.len-at.ensures) c.requires.2

pub witness_some-witness-requires : goal.witness_some-witness-requires
witness_some-witness-requires t c =
    let chosen = c.index-uses-at.result in
    let body = c.args.body.now in
    let is_next : c.get.result.now ≡ instance_of body (value_of chosen) = c.get.ensures ∙ c.in_ok-next.ensures in
    let size : norm_size_of c.get.result.now ≡ norm_size_of body = ap norm_size_of is_next ∙ instance_size (value_of chosen) body in
    let is_told : c.in_ok-told.told ≡ renamed chosen.variables 1 body = c.in_ok-told.ensures ∙ ap (λ xs. renamed xs 1 body) c.as_slice.ensures in
    (omega (arith, size, c.decreases), (c.requires.0, c.requires.1, next_may body c.args.sort c.requires.0 c.requires.1 c.args.uses.now c.args.entries.now chosen (c.index-uses-at.is ∙ ap (λ k. get_or c.args.uses.now k chosen) c.len-at.ensures) c.get.result.now is_next c.push.new.self c.in_ok-told.told is_told c.in_ok-push.ensures.ok c.requires.2))

pub witness_some-returns : goal.witness_some-returns
witness_some-returns t c v scope g =
    let chosen = c.index-uses-at.result in
    let body = c.args.body.now in
    let is_next : c.get.result.now ≡ instance_of body (value_of chosen) = c.get.ensures ∙ c.in_ok-next.ensures in
    let is_told : c.in_ok-told.told ≡ renamed chosen.variables 1 body = c.in_ok-told.ensures ∙ ap (λ xs. renamed xs 1 body) c.as_slice.ensures in
    let number : c.in-Some.number ≡ c.args.first + length c.args.entries.now = c.in-Some.ensures.1 ∙ ap (λ k. c.args.first + k) c.len-at.ensures in
    let shows : StepShows chosen.variables c.in-Some.number (Hyp 0) c.in_ok-step.step = subst (λ p. StepShows chosen.variables c.in-Some.number p c.in_ok-step.step) c.in_ok-hyp.ensures c.in_ok-step.ensures in
    some_went body c.args.sort v scope c.args.uses.now c.args.entries.now chosen (c.index-uses-at.is ∙ ap (λ k. get_or c.args.uses.now k chosen) c.len-at.ensures) c.get.result.now is_next c.push.new.self c.in_ok-told.told is_told c.in_ok-push.ensures.ok g c.args.first c.in-Some.number c.witness.new.entries c.in_ok-inner.inner.form c.in_ok-inner.inner.part c.in_ok-step.step c.in_ok-imp_i.field-0 number shows
    (c.in_ok-imp_i.ensures ∙ (rw (c.in_ok-new.ensures, c.in_ok-copy.ensures, c.in_ok-whole.ensures) refl)) (λ x. c.in_ok-inner.ensures v scope x)
