use Rattle.std.proofs.Common.{ap, sym, subst, refl, ◌∙◌, ◌+◌, length, map}
use Rattle.std.specs.Option.{option_map}
use Rattle.derive_kit.proofs.Built.{ok_map}
use Rattle.fof_terms.specs.declared.form.Form.{Not}
use Rattle.input_proofs.specs.Opened.{AreOpened}
use Rattle.input_proofs.specs.code.Pending.{cited}
use Rattle.input_proofs.proofs.Whole.{IsAsked, none_passed, parent_may, parent_passed, line_may, line_passed, are_opened}
use Rattle.input_proofs.proofs.opening.open_inputs.Goals as goal

pub loop-parent-init : goal.loop-parent-init
loop-parent-init c =
    none_passed c.args.theory.now c.args.parents.now c.args.line.now c.args.wanted.now
    (record { closed = c.requires.closed; stand = c.requires.parents; ready = c.requires.ready; line_ready = c.requires.line; room = c.requires.room; narrow = c.requires.narrow; marks = c.requires.wanted }) c.nothing-opening.result
    (ap (λ o. o.next) c.nothing-opening.ensures ∙ c.symbol_count.ensures.value ∙ ap (λ v. length v.symbols) c.signature.ensures) (ap (λ o. o.choices) c.nothing-opening.ensures) (ap (λ o. o.facts) c.nothing-opening.ensures) (ap (λ o. o.pending) c.nothing-opening.ensures)

pub open_form-requires : goal.open_form-requires
open_form-requires c =
    parent_may c.args.theory.now c.args.parents.now c.args.line.now c.args.wanted.now
    (record { closed = c.requires.closed; stand = c.requires.parents; ready = c.requires.ready; line_ready = c.requires.line; room = c.requires.room; narrow = c.requires.narrow; marks = c.requires.wanted }) c.loop-parent.parent-index c.parent-item.result c.loop-parent-test.true c.parent-item.is
    c.loop-parent.opening c.loop-parent.invariant

pub loop-parent-preserved : goal.loop-parent-preserved
loop-parent-preserved c =
    parent_passed c.args.theory.now c.args.parents.now c.args.line.now c.args.wanted.now
    (record { closed = c.requires.closed; stand = c.requires.parents; ready = c.requires.ready; line_ready = c.requires.line; room = c.requires.room; narrow = c.requires.narrow; marks = c.requires.wanted }) c.loop-parent.parent-index c.parent-item.result c.loop-parent-test.true c.parent-item.is
    c.loop-parent.opening c.loop-parent.invariant c.open_form.new.opening c.len-first.result c.len-first.ensures c.in_ok-open_form.ensures

pub open_form-requires-2 : goal.open_form-requires-2
open_form-requires-2 c =
    line_may c.args.theory.now c.args.parents.now c.args.line.now c.args.wanted.now
    (record { closed = c.requires.closed; stand = c.requires.parents; ready = c.requires.ready; line_ready = c.requires.line; room = c.requires.room; narrow = c.requires.narrow; marks = c.requires.wanted }) c.loop-parent.parent-index c.loop-parent.opening c.loop-parent.invariant c.loop-parent-test.false
    (Not c.in_ok-new.field-0) (ap Not (c.in_ok-new.ensures ∙ c.in_ok-copy.ensures))

pub returns : goal.returns
returns c =
    let asked : IsAsked c.args.theory.now c.args.parents.now c.args.line.now c.args.wanted.now =
    record { closed = c.requires.closed; stand = c.requires.parents; ready = c.requires.ready; line_ready = c.requires.line; room = c.requires.room; narrow = c.requires.narrow; marks = c.requires.wanted } in
    ok_map c.finish.result
    (λ opened e. subst (AreOpened c.args.theory.now c.args.parents.now c.args.line.now c.args.wanted.now) (sym e)
    (are_opened c.args.theory.now c.args.parents.now c.args.line.now c.args.wanted.now asked c.open_form-2.new.opening
    (line_passed c.args.theory.now c.args.parents.now c.args.line.now c.args.wanted.now asked c.loop-parent.parent-index c.loop-parent.opening c.loop-parent.invariant c.loop-parent-test.false (Not c.in_ok-new.field-0) (ap Not (c.in_ok-new.ensures ∙ c.in_ok-copy.ensures)) c.open_form-2.new.opening c.len-first.result
    c.len-first.ensures c.in_ok-open_form-2.ensures)
    (c.len-first.result + length c.open_form-2.new.opening.choices + 1) (ap (λ k. k + length c.open_form-2.new.opening.choices + 1) c.len-first.ensures)
    (map (option_map (cited (c.len-first.result + length c.open_form-2.new.opening.choices + 1))) c.open_form-2.new.opening.pending) refl))
    c.finish.ensures
