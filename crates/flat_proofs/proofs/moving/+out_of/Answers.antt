use Rattle.std.proofs.Common.{rules, true, false, ap, [], ◌∷◌, ◌++◌, ◌∙◌, ◌≡◌, sym, subst}
use Rattle.fof_terms.specs.declared.form.Form.TheViews.{the_lemmas}
use Rattle.derive_kit.proofs.Built.{ok_map}
use Rattle.flat_proofs.specs.code.Loose.{loose}
use Rattle.clause_form.specs.Norm.{node}
use Rattle.flat_form.proofs.Lists.{take_end}
use Rattle.flat_proofs.specs.code.Members.{room_of}
use Rattle.flat_proofs.specs.code.Moving.{AreMoved, IsLed}
use Rattle.flat_proofs.proofs.LooseFacts.{loose-Atom, loose-Eq, kept-Not, kept-Imp, kept-Iff, kept-Ex, all_body}
use Rattle.flat_proofs.proofs.Together.{node_size_here, node_space_here, all_size_here, all_space_here, here_node, here_all, body_small, spacious_body, member_small, spacious_member, members_more, parts_more, all_sorts_are, none_left_members}
use Rattle.flat_proofs.proofs.moving.+out_of.Goals as goal

pub out_of-kept-requires : goal.out_of-kept-requires
out_of-kept-requires t c = c.pulls.ensures c.if-not-pulls.true

pub out_of-returns-then-not-pulls-clause-part : goal.out_of-returns-then-not-pulls-clause-part
out_of-returns-then-not-pulls-clause-part t c = ok_map c.kept.result (λ made f. f c.args.forth) c.kept.ensures.part

pub out_of-out_of_members-requires : goal.out_of-out_of_members-requires
out_of-out_of_members-requires t c = (search (rules, the_lemmas), (node_size_here true c.args.form.now c.in-And.members c.as_slice.result.now c.in-And.is c.as_slice.ensures c.requires.size, node_space_here true c.args.form.now c.in-And.members c.as_slice.result.now c.in-And.is c.as_slice.ensures c.requires.spacious))

pub out_of-returns-in-And-clause-sorts : goal.out_of-returns-in-And-clause-sorts
out_of-returns-in-And-clause-sorts t c = ok_map c.out_of_members.result (λ made e. here_node (λ b. made.pulled.sorts ≡ (loose b).sorts) true c.args.form.now c.in-And.members c.as_slice.result.now c.in-And.is c.as_slice.ensures e) c.out_of_members.ensures.sorts

pub out_of-returns-in-And-clause-body : goal.out_of-returns-in-And-clause-body
out_of-returns-in-And-clause-body t c = ok_map c.out_of_members.result (λ made e. here_node (λ b. made.pulled.body ≡ (loose b).body) true c.args.form.now c.in-And.members c.as_slice.result.now c.in-And.is c.as_slice.ensures e) c.out_of_members.ensures.body

pub out_of-returns-in-And-clause-part : goal.out_of-returns-in-And-clause-part
out_of-returns-in-And-clause-part t c = ok_map c.out_of_members.result (λ made e. here_node (λ b. IsLed c.args.forth b made.part) true c.args.form.now c.in-And.members c.as_slice.result.now c.in-And.is c.as_slice.ensures e) c.out_of_members.ensures.part

pub out_of-out_of_members-requires-in-Or : goal.out_of-out_of_members-requires-in-Or
out_of-out_of_members-requires-in-Or t c = (search (rules, the_lemmas), (node_size_here false c.args.form.now c.in-Or.members c.as_slice-in-Or.result.now c.in-Or.is c.as_slice-in-Or.ensures c.requires.size, node_space_here false c.args.form.now c.in-Or.members c.as_slice-in-Or.result.now c.in-Or.is c.as_slice-in-Or.ensures c.requires.spacious))

pub out_of-returns-in-Or-clause-sorts : goal.out_of-returns-in-Or-clause-sorts
out_of-returns-in-Or-clause-sorts t c = ok_map c.out_of_members-in-Or.result (λ made e. here_node (λ b. made.pulled.sorts ≡ (loose b).sorts) false c.args.form.now c.in-Or.members c.as_slice-in-Or.result.now c.in-Or.is c.as_slice-in-Or.ensures e) c.out_of_members-in-Or.ensures.sorts

pub out_of-returns-in-Or-clause-body : goal.out_of-returns-in-Or-clause-body
out_of-returns-in-Or-clause-body t c = ok_map c.out_of_members-in-Or.result (λ made e. here_node (λ b. made.pulled.body ≡ (loose b).body) false c.args.form.now c.in-Or.members c.as_slice-in-Or.result.now c.in-Or.is c.as_slice-in-Or.ensures e) c.out_of_members-in-Or.ensures.body

pub out_of-returns-in-Or-clause-part : goal.out_of-returns-in-Or-clause-part
out_of-returns-in-Or-clause-part t c = ok_map c.out_of_members-in-Or.result (λ made e. here_node (λ b. IsLed c.args.forth b made.part) false c.args.form.now c.in-Or.members c.as_slice-in-Or.result.now c.in-Or.is c.as_slice-in-Or.ensures e) c.out_of_members-in-Or.ensures.part

pub out_of-out_of_body-requires : goal.out_of-out_of_body-requires
out_of-out_of_body-requires t c = (search (rules, the_lemmas), (all_size_here c.in-All.sort c.args.form.now c.in-All.body c.get.result.now c.in-All.is c.get.ensures c.requires.size, all_space_here c.in-All.sort c.args.form.now c.in-All.body c.get.result.now c.in-All.is c.get.ensures c.requires.spacious))

pub out_of-returns-in-All-clause-sorts : goal.out_of-returns-in-All-clause-sorts
out_of-returns-in-All-clause-sorts t c = ok_map c.out_of_body.result (λ made e. here_all (λ b. made.pulled.sorts ≡ (loose b).sorts) c.in-All.sort c.args.form.now c.in-All.body c.get.result.now c.in-All.is c.get.ensures e) c.out_of_body.ensures.sorts

pub out_of-returns-in-All-clause-body : goal.out_of-returns-in-All-clause-body
out_of-returns-in-All-clause-body t c = ok_map c.out_of_body.result (λ made e. here_all (λ b. made.pulled.body ≡ (loose b).body) c.in-All.sort c.args.form.now c.in-All.body c.get.result.now c.in-All.is c.get.ensures e) c.out_of_body.ensures.body

pub out_of-returns-in-All-clause-part : goal.out_of-returns-in-All-clause-part
out_of-returns-in-All-clause-part t c = ok_map c.out_of_body.result (λ made e. here_all (λ b. IsLed c.args.forth b made.part) c.in-All.sort c.args.form.now c.in-All.body c.get.result.now c.in-All.is c.get.ensures e) c.out_of_body.ensures.part

pub out_of-kept-requires-in-Atom : goal.out_of-kept-requires-in-Atom
out_of-kept-requires-in-Atom t c = rw c.in-Atom.is (loose-Atom c.in-Atom.field-0 c.in-Atom.field-1)

pub out_of-returns-in-Atom-clause-part : goal.out_of-returns-in-Atom-clause-part
out_of-returns-in-Atom-clause-part t c = ok_map c.kept-in-Atom.result (λ made f. f c.args.forth) c.kept-in-Atom.ensures.part

pub out_of-kept-requires-in-Eq : goal.out_of-kept-requires-in-Eq
out_of-kept-requires-in-Eq t c = rw c.in-Eq.is (loose-Eq c.in-Eq.field-0 c.in-Eq.field-1)

pub out_of-returns-in-Eq-clause-part : goal.out_of-returns-in-Eq-clause-part
out_of-returns-in-Eq-clause-part t c = ok_map c.kept-in-Eq.result (λ made f. f c.args.forth) c.kept-in-Eq.ensures.part

pub out_of-kept-requires-in-Not : goal.out_of-kept-requires-in-Not
out_of-kept-requires-in-Not t c = rw c.in-Not.is (kept-Not c.in-Not.field-0)

pub out_of-returns-in-Not-clause-part : goal.out_of-returns-in-Not-clause-part
out_of-returns-in-Not-clause-part t c = ok_map c.kept-in-Not.result (λ made f. f c.args.forth) c.kept-in-Not.ensures.part

pub out_of-kept-requires-in-Imp : goal.out_of-kept-requires-in-Imp
out_of-kept-requires-in-Imp t c = rw c.in-Imp.is (kept-Imp c.in-Imp.field-0 c.in-Imp.field-1)

pub out_of-returns-in-Imp-clause-part : goal.out_of-returns-in-Imp-clause-part
out_of-returns-in-Imp-clause-part t c = ok_map c.kept-in-Imp.result (λ made f. f c.args.forth) c.kept-in-Imp.ensures.part

pub out_of-kept-requires-in-Iff : goal.out_of-kept-requires-in-Iff
out_of-kept-requires-in-Iff t c = rw c.in-Iff.is (kept-Iff c.in-Iff.field-0 c.in-Iff.field-1)

pub out_of-returns-in-Iff-clause-part : goal.out_of-returns-in-Iff-clause-part
out_of-returns-in-Iff-clause-part t c = ok_map c.kept-in-Iff.result (λ made f. f c.args.forth) c.kept-in-Iff.ensures.part

pub out_of-kept-requires-in-Ex : goal.out_of-kept-requires-in-Ex
out_of-kept-requires-in-Ex t c = rw c.in-Ex.is (kept-Ex c.in-Ex.field-0 c.in-Ex.field-1)

pub out_of-returns-in-Ex-clause-part : goal.out_of-returns-in-Ex-clause-part
out_of-returns-in-Ex-clause-part t c = ok_map c.kept-in-Ex.result (λ made f. f c.args.forth) c.kept-in-Ex.ensures.part

pub out_of_body-out_of-requires : goal.out_of_body-out_of-requires
out_of_body-out_of-requires t c = (search (rules, the_lemmas), (body_small c.args.sort c.args.form.now c.requires.size, spacious_body c.args.sort c.args.form.now c.requires.spacious))

pub out_of_body-returns-clause-sorts : goal.out_of_body-returns-clause-sorts
out_of_body-returns-clause-sorts t c = all_sorts_are c.args.sort c.args.form.now c.in_ok-pulled.field-0.pulled.sorts c.push.new.self c.append.new.self c.in_ok-pulled.ensures.sorts (c.in_ok-push.ensures.ok ∙ ap (λ ss. ss ++ (c.args.sort ∷ [])) c.new-sorts.ensures) c.in_ok-append.ensures

pub out_of_body-returns-clause-body : goal.out_of_body-returns-clause-body
out_of_body-returns-clause-body t c = c.in_ok-pulled.ensures.body ∙ sym (all_body c.args.sort c.args.form.now)

pub out_of_members-out_of-requires : goal.out_of_members-out_of-requires
out_of_members-out_of-requires t c = (search (rules, the_lemmas), (member_small c.args.kind c.args.forms.now c.loop-number.number c.index-forms-number.result c.loop-number-test.true c.index-forms-number.is c.requires.size, spacious_member c.args.kind c.args.forms.now c.loop-number.number c.index-forms-number.result c.loop-number-test.true c.index-forms-number.is c.requires.spacious))

pub out_of_members-loop-number-preserved : goal.out_of_members-loop-number-preserved
out_of_members-loop-number-preserved t c = record {
  members = members_more c.args.kind c.args.forth c.args.forms.now c.loop-number.number c.index-forms-number.result c.loop-number-test.true c.index-forms-number.is c.loop-number.members c.push.new.self c.in_ok-pulled.field-0.pulled c.in_ok-push.ensures.ok c.in_ok-pulled.ensures.sorts c.in_ok-pulled.ensures.body c.loop-number.invariant.members;
  parts = parts_more c.args.kind c.args.forth c.args.forms.now c.loop-number.number c.index-forms-number.result c.loop-number-test.true c.index-forms-number.is c.loop-number.parts c.push-in-loop-number.new.self c.in_ok-pulled.field-0.part c.in_ok-or_same.field-0 c.into_inner.result c.in_ok-push-2.ensures.ok c.into_inner.ensures c.in_ok-or_same.ensures c.in_ok-pulled.ensures.part c.loop-number.invariant.parts;
}

pub out_of_members-put_together-requires-clause-members : goal.out_of_members-put_together-requires-clause-members
out_of_members-put_together-requires-clause-members t c = none_left_members c.args.forms.now c.loop-number.number c.loop-number.members c.as_slice.result.now c.loop-number-test.false c.as_slice.ensures c.loop-number.invariant.members

pub out_of_members-put_together-requires-clause-parts : goal.out_of_members-put_together-requires-clause-parts
out_of_members-put_together-requires-clause-parts t c = subst (λ as_. AreMoved c.args.forth (room_of (node c.args.kind c.args.forms.now)) as_ c.loop-number.parts) (take_end c.args.forms.now c.loop-number.number c.loop-number-test.false) c.loop-number.invariant.parts
