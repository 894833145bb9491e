use Rattle.std.proofs.Common.{ap, arith, ◌∙◌}
use Rattle.clause_form.specs.Paths.{reached}
use Rattle.cover_proofs.proofs.CoverLines.{made_small, made_roomy, along_shown}
use Rattle.cover_proofs.proofs.cover.reached_by.Goals as goal

pub reached_clause-requires-clause-roomy : goal.reached_clause-requires-clause-roomy
reached_clause-requires-clause-roomy c = made_roomy c.args.signature.now c.args.parent.now c.args.form.now c.in_ok-norm.norm c.in_ok-own.own c.requires.small c.in_ok-norm.ensures (c.in_ok-own.ensures 900000000 (omega arith) c.requires.own)

pub reached_clause-requires-clause-small : goal.reached_clause-requires-clause-small
reached_clause-requires-clause-small c = made_small c.args.signature.now c.args.parent.now c.args.form.now c.in_ok-norm.norm c.in_ok-own.own c.requires.small c.in_ok-norm.ensures (c.in_ok-own.ensures 900000000 (omega arith) c.requires.own)

pub reached_clause-requires-clause-fits : goal.reached_clause-requires-clause-fits
reached_clause-requires-clause-fits c = (c.requires.fits.0, ap (reached c.args.path.now) c.in_ok-norm.ensures ∙ c.requires.fits.1)

pub path_proof-requires-clause-size : goal.path_proof-requires-clause-size
path_proof-requires-clause-size c = made_small c.args.signature.now c.args.parent.now c.args.form.now c.in_ok-norm.norm c.in_ok-own.own c.requires.small c.in_ok-norm.ensures (c.in_ok-own.ensures 900000000 (omega arith) c.requires.own)

pub returns-clause-clause : goal.returns-clause-clause
returns-clause-clause c = record { has = c.in_ok-clause.ensures.has; sorted = (along_shown c.args.signature.now c.args.parent.now c.args.form.now c.in_ok-norm.norm c.in_ok-own.own c.requires.small c.in_ok-norm.ensures (c.in_ok-own.ensures 900000000 (omega arith) c.requires.own) c.args.path.now c.in_ok-along.along c.in_ok-fact.fact c.in_ok-clause.clause.clause c.in_ok-along.ensures c.in_ok-clause.ensures.reached c.in_ok-fact.ensures).sorted }

pub returns-clause-fact : goal.returns-clause-fact
returns-clause-fact c = along_shown c.args.signature.now c.args.parent.now c.args.form.now c.in_ok-norm.norm c.in_ok-own.own c.requires.small c.in_ok-norm.ensures (c.in_ok-own.ensures 900000000 (omega arith) c.requires.own) c.args.path.now c.in_ok-along.along c.in_ok-fact.fact c.in_ok-clause.clause.clause c.in_ok-along.ensures c.in_ok-clause.ensures.reached c.in_ok-fact.ensures
