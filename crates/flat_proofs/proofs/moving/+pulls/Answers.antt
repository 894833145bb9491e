use Rattle.std.proofs.Common.{◌≡◌, true, false}
use Rattle.flat_proofs.proofs.LooseFacts.{loose-Atom, loose-Eq, kept-Not, kept-Imp, kept-Iff, kept-Ex}
use Rattle.flat_proofs.proofs.Together.{of_node, none_pulled, kept_more}
use Rattle.flat_proofs.proofs.moving.+pulls.Goals as goal

pub pulls-returns-in-And : goal.pulls-returns-in-And
pulls-returns-in-And t c = λ no. of_node true c.args.form.now c.in-And.members c.as_slice.result.now c.in-And.is c.as_slice.ensures (c.any_pulls.ensures no)

pub pulls-returns-in-Or : goal.pulls-returns-in-Or
pulls-returns-in-Or t c = λ no. of_node false c.args.form.now c.in-Or.members c.as_slice-in-Or.result.now c.in-Or.is c.as_slice-in-Or.ensures (c.any_pulls-in-Or.ensures no)

pub pulls-returns-in-All : goal.pulls-returns-in-All
pulls-returns-in-All t c = λ no. absurd (let never : true ≡ false = no in cc)

pub pulls-returns-in-Atom : goal.pulls-returns-in-Atom
pulls-returns-in-Atom t c = λ no. rw c.in-Atom.is (loose-Atom c.in-Atom.field-0 c.in-Atom.field-1)

pub pulls-returns-in-Eq : goal.pulls-returns-in-Eq
pulls-returns-in-Eq t c = λ no. rw c.in-Eq.is (loose-Eq c.in-Eq.field-0 c.in-Eq.field-1)

pub pulls-returns-in-Not : goal.pulls-returns-in-Not
pulls-returns-in-Not t c = λ no. rw c.in-Not.is (kept-Not c.in-Not.field-0)

pub pulls-returns-in-Imp : goal.pulls-returns-in-Imp
pulls-returns-in-Imp t c = λ no. rw c.in-Imp.is (kept-Imp c.in-Imp.field-0 c.in-Imp.field-1)

pub pulls-returns-in-Iff : goal.pulls-returns-in-Iff
pulls-returns-in-Iff t c = λ no. rw c.in-Iff.is (kept-Iff c.in-Iff.field-0 c.in-Iff.field-1)

pub pulls-returns-in-Ex : goal.pulls-returns-in-Ex
pulls-returns-in-Ex t c = λ no. rw c.in-Ex.is (kept-Ex c.in-Ex.field-0 c.in-Ex.field-1)

pub any_pulls-loop-form-preserved : goal.any_pulls-loop-form-preserved
any_pulls-loop-form-preserved t c = kept_more c.args.forms.now c.loop-form.form-index c.form-item.result c.loop-form-test.true c.form-item.is (c.pulls.ensures c.if-pulls.false) c.loop-form.invariant

pub any_pulls-returns-then-pulls : goal.any_pulls-returns-then-pulls
any_pulls-returns-then-pulls t c = λ no. absurd (let never : true ≡ false = no in cc)

pub any_pulls-returns : goal.any_pulls-returns
any_pulls-returns t c = λ no. none_pulled c.args.kind c.args.forms.now c.loop-form.form-index c.loop-form-test.false c.loop-form.invariant
