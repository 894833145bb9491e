use Rattle.std.proofs.Common.{◌∙◌, ap}
use Rattle.fof_terms.specs.declared.term.Term.{Var}
use Rattle.fof_terms.specs.declared.form.Form.{All}
use Rattle.kernel.specs.declared.proof.Proof.{ImpI, ImpE, AllI, AllE}
use Rattle.flat_proofs.proofs.Together.{under_none, under_some}
use Rattle.flat_proofs.proofs.moving.under_all.Goals as goal

pub returns-in_default : goal.returns-in_default
returns-in_default c = under_none c.args.forth c.args.sort c.args.form.now c.args.part c.requires.part c.in_default.is

pub returns : goal.returns
returns c =
    under_some c.args.forth c.args.sort c.args.form.now c.args.part c.requires.part c.in-Some.part c.in_ok-imp_i.field-0 c.args.pulled.now c.in_ok-from.from c.in-Some.is c.requires.size c.requires.sorts c.requires.body c.in_ok-from.ensures.forth c.in_ok-from.ensures.back
    (c.in_ok-imp_i.ensures ∙ ap (ImpI (All c.args.sort c.in_ok-from.from)) (c.in_ok-all.ensures ∙ ap (AllI c.args.sort) (c.in_ok-imp_e.ensures ∙ ap (ImpE c.in-Some.part) (c.in_ok-own.ensures ∙ ap (AllE (Var 0)) c.in_ok-hyp.ensures))))
