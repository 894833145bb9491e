use Rattle.std.proofs.Common.{rules, arith, sym, ◌∙◌, true, false}
use Rattle.fof_terms.specs.declared.form.Form.TheViews.{the_lemmas}
use Rattle.clause_form.proofs.NormFacts.{norm_of-Atom, norm_of-Eq}
use Rattle.norm_proofs.proofs.NormsFacts.{room, small_member}
use Rattle.norm_proofs.proofs.Places.{at_index}
use Rattle.norm_proofs.proofs.RecursionFacts.{body_small, node_small}
use Rattle.norm_proofs.proofs.Standing.{first_normal, node_normal, negation_normal, quantifier_normal}
use Rattle.norm_proofs.proofs.normal.+is_normal.Goals as goal

pub is_normal-are_normal-requires : goal.is_normal-are_normal-requires
is_normal-are_normal-requires t c =
    (search (rules, the_lemmas), node_small true c.args.form.now c.in-And.members c.as_slice.result.now c.in-And.is c.as_slice.ensures c.requires)

pub is_normal-are_normal-requires-in-Or : goal.is_normal-are_normal-requires-in-Or
is_normal-are_normal-requires-in-Or t c =
    (search (rules, the_lemmas), node_small false c.args.form.now c.in-Or.members c.as_slice-in-Or.result.now c.in-Or.is c.as_slice-in-Or.ensures c.requires)

pub is_normal-is_normal-requires : goal.is_normal-is_normal-requires
is_normal-is_normal-requires t c =
    (search (rules, the_lemmas), body_small true c.in-All.field-0 c.args.form.now c.in-All.body c.in-All.is c.get-in-All.result.now c.get-in-All.ensures c.requires)

pub is_normal-is_normal-requires-in-Ex : goal.is_normal-is_normal-requires-in-Ex
is_normal-is_normal-requires-in-Ex t c =
    (search (rules, the_lemmas), body_small false c.in-Ex.field-0 c.args.form.now c.in-Ex.body c.in-Ex.is c.get-in-Ex.result.now c.get-in-Ex.ensures c.requires)

pub is_normal-has_variable-requires : goal.is_normal-has_variable-requires
is_normal-has_variable-requires t c =
    omega (arith, room c.get-then-is_normal.result.now (body_small true c.in-All.field-0 c.args.form.now c.in-All.body c.in-All.is c.get-then-is_normal.result.now c.get-then-is_normal.ensures c.requires))

pub is_normal-has_variable-requires-then-is_normal-2 : goal.is_normal-has_variable-requires-then-is_normal-2
is_normal-has_variable-requires-then-is_normal-2 t c =
    omega (arith, room c.get-then-is_normal-2.result.now (body_small false c.in-Ex.field-0 c.args.form.now c.in-Ex.body c.in-Ex.is c.get-then-is_normal-2.result.now c.get-then-is_normal-2.ensures c.requires))

pub is_normal-returns-in-Atom : goal.is_normal-returns-in-Atom
is_normal-returns-in-Atom t c = λ yes. rw c.in-Atom.is (norm_of-Atom true c.in-Atom.field-0 c.in-Atom.field-1)

pub is_normal-returns-in-Eq : goal.is_normal-returns-in-Eq
is_normal-returns-in-Eq t c = λ yes. rw c.in-Eq.is (norm_of-Eq true c.in-Eq.field-0 c.in-Eq.field-1)

pub is_normal-returns-in-Not : goal.is_normal-returns-in-Not
is_normal-returns-in-Not t c = λ yes. negation_normal c.args.form.now c.in-Not.body c.get.result.now c.in-Not.is c.get.ensures (c.is_plain.ensures yes)

pub is_normal-returns-in-And : goal.is_normal-returns-in-And
is_normal-returns-in-And t c = λ yes. node_normal true c.args.form.now c.in-And.members c.as_slice.result.now c.in-And.is c.as_slice.ensures (c.are_normal.ensures yes)

pub is_normal-returns-in-Or : goal.is_normal-returns-in-Or
is_normal-returns-in-Or t c = λ yes. node_normal false c.args.form.now c.in-Or.members c.as_slice-in-Or.result.now c.in-Or.is c.as_slice-in-Or.ensures (c.are_normal-in-Or.ensures yes)

pub is_normal-returns-then-is_normal : goal.is_normal-returns-then-is_normal
is_normal-returns-then-is_normal t c = λ yes.
    quantifier_normal true c.in-All.field-0 c.args.form.now c.in-All.body c.get-in-All.result.now c.get-then-is_normal.result.now c.in-All.is c.get-in-All.ensures (c.is_normal.ensures c.if-is_normal.true) c.get-then-is_normal.ensures
    (sym c.has_variable.ensures ∙ yes)

pub is_normal-returns-then-is_normal-2 : goal.is_normal-returns-then-is_normal-2
is_normal-returns-then-is_normal-2 t c = λ yes.
    quantifier_normal false c.in-Ex.field-0 c.args.form.now c.in-Ex.body c.get-in-Ex.result.now c.get-then-is_normal-2.result.now c.in-Ex.is c.get-in-Ex.ensures (c.is_normal-in-Ex.ensures c.if-is_normal-2.true) c.get-then-is_normal-2.ensures
    (sym c.has_variable-then-is_normal-2.ensures ∙ yes)

pub are_normal-is_normal-requires : goal.are_normal-is_normal-requires
are_normal-is_normal-requires t c =
    let at = at_index c.args.forms.now c.loop-form.form-index c.form-item.result c.loop-form-test.true c.form-item.is in
    (search (rules, the_lemmas), omega (arith, small_member c.args.kind c.args.forms.now c.loop-form.form-index c.form-item.result at, c.requires))

pub are_normal-returns : goal.are_normal-returns
are_normal-returns t c = λ several. first_normal c.args.kind c.args.forms.now c.loop-form.form-index c.loop-form-test.false c.loop-form.invariant several
