use Rattle.std.proofs.Common.{sym, subst}
use Rattle.clausified_steps.specs.code.Forms.{IsFormBy, IsGuessed}
use Rattle.clausified_steps.proofs.Among.{among_ready, some_at}
use Rattle.clausified_steps.proofs.entries.derived_by.Goals as goal

pub functions_of-requires : goal.functions_of-requires
functions_of-requires c = among_ready c.args.theory.now.vocabulary c.args.parents.now c.args.parent.now c.requires.ready c.requires.there

pub form_by-requires-clause-ready : goal.form_by-requires-clause-ready
form_by-requires-clause-ready c = among_ready c.args.theory.now.vocabulary c.args.parents.now c.args.parent.now c.requires.ready c.requires.there

pub form_by-requires-clause-guessed : goal.form_by-requires-clause-guessed
form_by-requires-clause-guessed c = some_at (IsGuessed c.args.theory.now c.args.parent.now.form c.args.guess.now) c.in_ok-uses.field-0 c.in-Some.uses c.as_slice.result.now c.in-Some.is c.as_slice.ensures c.in_ok-uses.ensures

pub by_form-requires-clause-form : goal.by_form-requires-clause-form
by_form-requires-clause-form c = subst (IsFormBy c.args.theory.now c.args.parent.now.form c.in-Some.uses) (sym c.get.ensures) (subst (λ us. IsFormBy c.args.theory.now c.args.parent.now.form us c.in_ok-form.form) c.as_slice.ensures c.in_ok-form.ensures)
