use Rattle.clausified_steps.proofs.Formed.{small, fits, formed}
use Rattle.clausified_steps.proofs.entries.form_by.Goals as goal

pub skolem_proof-requires-clause-small : goal.skolem_proof-requires-clause-small
skolem_proof-requires-clause-small c = small c.args.theory.now c.args.parent.now.form c.args.guess.now c.args.uses.now c.requires.ready c.requires.guessed c.in_ok-norm.norm c.in_ok-norm.ensures

pub skolem_proof-requires-clause-fits : goal.skolem_proof-requires-clause-fits
skolem_proof-requires-clause-fits c = fits c.args.theory.now c.args.parent.now.form c.args.guess.now c.args.uses.now c.requires.ready c.requires.guessed c.in_ok-norm.norm c.in_ok-norm.ensures

pub returns : goal.returns
returns c =
    formed c.args.theory.now c.args.parent.now.form c.args.guess.now c.args.uses.now c.requires.ready c.requires.guessed c.in_ok-norm.norm c.in_ok-norm.ensures c.len.result c.in_ok-made.made c.in_ok-boxed.boxed c.in_ok-made.ensures c.in_ok-boxed.ensures
