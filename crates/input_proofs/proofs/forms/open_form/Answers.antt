use Rattle.std.proofs.Common.{ℕ, ◌+◌, ap, sym, refl, ◌∙◌, length, arith}
use Rattle.proof_check.proofs.Added.{on_ok}
use Rattle.input_proofs.proofs.FormFacts.{shallow, somewhere, own_few, own_room, own_numbers, own_length, norm_few, within, replaced, result, made_small, made_somewhere, made_count, passes_left, passes_taken}
use Rattle.input_proofs.proofs.forms.open_form.Goals as goal

pub norm_signed-requires : goal.norm_signed-requires
norm_signed-requires c = shallow c.requires.0 c.args.source.now.form.now c.args.opening.now.next (length c.args.opening.now.pending) c.args.wanted.now c.requires.1

pub own_marks-own-requires-clause-few : goal.own_marks-own-requires-clause-few
own_marks-own-requires-clause-few c = own_few c.requires.0 c.args.source.now.form.now c.args.opening.now.next (length c.args.opening.now.pending) c.args.wanted.now c.requires.1 c.in_ok-norm.norm c.in_ok-norm.ensures

pub own_marks-own-requires-clause-room : goal.own_marks-own-requires-clause-room
own_marks-own-requires-clause-room c = own_room c.requires.0 c.args.source.now.form.now c.args.opening.now.next (length c.args.opening.now.pending) c.args.wanted.now c.requires.1 c.in_ok-norm.norm c.in_ok-norm.ensures c.len.result c.len.ensures

pub number_behind-opening-requires : goal.number_behind-opening-requires
number_behind-opening-requires c =
    own_numbers c.requires.0 c.args.source.now.form.now c.args.opening.now.next (length c.args.opening.now.pending) c.args.wanted.now c.requires.1 c.in_ok-norm.norm c.in_ok-norm.ensures c.as_slice.result.now (c.as_slice.ensures ∙ c.in_ok-found.ensures)

pub witnessed-requires-clause-found : goal.witnessed-requires-clause-found
witnessed-requires-clause-found c = c.as_slice-2.ensures ∙ c.in_ok-found.ensures

pub witnessed-requires-clause-numbers : goal.witnessed-requires-clause-numbers
witnessed-requires-clause-numbers c =
    let few =
    own_numbers c.requires.0 c.args.source.now.form.now c.args.opening.now.next (length c.args.opening.now.pending) c.args.wanted.now c.requires.1 c.in_ok-norm.norm c.in_ok-norm.ensures c.as_slice-2.result.now (c.as_slice-2.ensures ∙ c.in_ok-found.ensures) in
    omega (arith, few)

pub witnessed-requires-clause-small : goal.witnessed-requires-clause-small
witnessed-requires-clause-small c = norm_few c.requires.0 c.args.source.now.form.now c.args.opening.now.next (length c.args.opening.now.pending) c.args.wanted.now c.requires.1 c.in_ok-norm.norm c.in_ok-norm.ensures

pub witnessed-requires-clause-fits : goal.witnessed-requires-clause-fits
witnessed-requires-clause-fits c = (
  c.requires.0,
  result c.requires.0 c.args.source.now.form.now c.args.opening.now.next (length c.args.opening.now.pending) c.args.wanted.now c.requires.1 c.in_ok-norm.norm c.in_ok-norm.ensures,
  within c.requires.0 c.args.source.now.form.now c.args.opening.now.next (length c.args.opening.now.pending) c.args.wanted.now c.requires.1 c.in_ok-norm.norm c.in_ok-norm.ensures,
  replaced c.requires.0 c.args.source.now.form.now c.args.opening.now.next (length c.args.opening.now.pending) c.args.wanted.now c.requires.1 c.in_ok-norm.norm c.in_ok-norm.ensures,
)

pub add_opened-requires-clause-small : goal.add_opened-requires-clause-small
add_opened-requires-clause-small c = c.requires.1.small

pub add_opened-requires-clause-sorted : goal.add_opened-requires-clause-sorted
add_opened-requires-clause-sorted c = somewhere c.requires.0 c.args.source.now.form.now c.args.opening.now.next (length c.args.opening.now.pending) c.args.wanted.now c.requires.1

pub add_opened-requires-clause-made_small : goal.add_opened-requires-clause-made_small
add_opened-requires-clause-made_small c =
    made_small c.requires.0 c.args.source.now.form.now c.args.opening.now.next (length c.args.opening.now.pending) c.args.wanted.now c.requires.1 c.in_ok-norm.norm c.in_ok-norm.ensures c.in_ok-behind.behind c.in_ok-made.made c.in_ok-made.ensures

pub add_opened-requires-clause-made_sorted : goal.add_opened-requires-clause-made_sorted
add_opened-requires-clause-made_sorted c =
    made_somewhere c.requires.0 c.args.source.now.form.now c.args.opening.now.next (length c.args.opening.now.pending) c.args.wanted.now c.requires.1 c.in_ok-norm.norm c.in_ok-norm.ensures c.in_ok-behind.behind c.in_ok-made.made c.in_ok-made.ensures

pub add_opened-requires-clause-each : goal.add_opened-requires-clause-each
add_opened-requires-clause-each c =
    own_length c.requires.0 c.args.source.now.form.now c.args.opening.now.next (length c.args.opening.now.pending) c.args.wanted.now c.requires.1 c.in_ok-norm.norm c.in_ok-norm.ensures c.len.result c.own_marks-own.result.now c.len.ensures c.own_marks-own.ensures
    ∙ sym (made_count c.requires.0 c.args.source.now.form.now c.args.opening.now.next (length c.args.opening.now.pending) c.args.wanted.now c.requires.1 c.in_ok-norm.norm c.in_ok-norm.ensures c.in_ok-behind.behind c.in_ok-made.made c.in_ok-made.ensures)

pub returns-then-not-is_some_wanted : goal.returns-then-not-is_some_wanted
returns-then-not-is_some_wanted c =
    on_ok c.leave_out.result
    (λ h. passes_left c.args.source.now.number c.args.source.now.form.now c.args.first c.args.wanted.now c.own_marks-own.result.now c.args.opening.now (record { next = c.number_behind-opening.result; choices = c.args.opening.now.choices; facts = c.args.opening.now.facts; pending = c.leave_out.new.pending })
    c.in_ok-norm.norm c.in_ok-norm.ensures c.as_slice.result.now (c.as_slice.ensures ∙ c.in_ok-found.ensures) c.number_behind-opening.ensures c.len.result c.len.ensures c.own_marks-own.ensures c.is_some_wanted.result c.if-not-is_some_wanted.true c.is_some_wanted.ensures refl refl h)
    c.leave_out.ensures

pub returns : goal.returns
returns c =
    on_ok c.add_opened.result
    (λ is. passes_taken c.args.source.now.number c.args.source.now.form.now c.args.first c.args.wanted.now c.own_marks-own.result.now c.args.opening.now c.add_opened.new.opening c.in_ok-norm.norm c.in_ok-norm.ensures c.as_slice.result.now (c.as_slice.ensures ∙ c.in_ok-found.ensures)
    (is.next ∙ c.number_behind-opening.ensures) c.len.result c.len.ensures c.own_marks-own.ensures (record c.args.opening.now { next = c.number_behind-opening.result }) c.in_ok-made.made c.in_ok-behind.behind (ap (λ (k : ℕ). record c.args.opening.now { next = k }) (sym is.next))
    (c.in_ok-behind.ensures ∙ ap (λ k. c.args.first + k) c.len-2.ensures) c.in_ok-made.ensures is)
    c.add_opened.ensures
