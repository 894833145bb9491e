use Rattle.std.proofs.Common.{◌∙◌, ap}
use Rattle.fof_terms.specs.declared.form.Form.{Form}
use Rattle.derive_kit.proofs.Built.{ok_map}
use Rattle.norm_proofs.specs.Numbering.{general}
use Rattle.kernel.specs.declared.proof.Proof.{ImpI}
use Rattle.flat_proofs.specs.code.Permuting.{at_numbers}
use Rattle.flat_proofs.proofs.TurnFacts.{forth_tree, back_tree}
use Rattle.flat_proofs.proofs.turning.turn_part.Goals as goal

pub returns-then-forth : goal.returns-then-forth
returns-then-forth c =
    ok_map c.imp_i.result
    (λ made e body ef el. forth_tree c.args.sorts.now c.args.turn.now.order.keys c.args.turn.now.numbers c.args.turn.now.sorts c.args.first.now c.args.last.now body c.requires.numbers c.requires.sorts ef el c.in_ok-own.own c.in_ok-found.found c.in_ok-all.all made c.in_ok-own.ensures c.args.forth c.if-forth.true
    (c.in_ok-found.ensures ∙ ap (λ ks. at_numbers ks c.in_ok-own.own) c.as_slice.ensures) (c.in_ok-all.ensures ∙ ap (λ ss. general ss c.in_ok-found.found) c.as_slice-then-forth.ensures) (e ∙ ap (λ (a : Form). ImpI a c.in_ok-all.all) c.in_ok-copy.ensures))
    c.imp_i.ensures

pub returns : goal.returns
returns c =
    ok_map c.imp_i-2.result
    (λ made e body ef el. back_tree c.args.sorts.now c.args.turn.now.order.keys c.args.turn.now.numbers c.args.turn.now.sorts c.args.first.now c.args.last.now body c.requires.numbers c.requires.sorts ef el c.in_ok-own.own c.in_ok-found-2.found c.in_ok-general.field-0 made c.in_ok-own.ensures c.args.forth c.if-forth.false
    (c.in_ok-found-2.ensures ∙ ap (λ ks. at_numbers ks c.in_ok-own.own) c.as_slice-2.ensures.keys) c.in_ok-general.ensures (e ∙ ap (λ (a : Form). ImpI a c.in_ok-general.field-0) c.in_ok-copy-2.ensures))
    c.imp_i-2.ensures
