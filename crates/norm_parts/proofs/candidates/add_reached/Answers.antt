use Rattle.std.proofs.Common.{refl}
use Rattle.norm_parts.proofs.Known.{added_none, added_one, roomy}
use Rattle.norm_parts.proofs.candidates.add_reached.Goals as goal

pub clause_of_path-requires : goal.clause_of_path-requires
clause_of_path-requires c = roomy c.args.signature.now c.args.source c.args.form.now c.requires.small c.requires.sorted

pub returns-in_ok-push-in-Some : goal.returns-in_ok-push-in-Some
returns-in_ok-push-in-Some c =
    added_one c.args.signature.now c.args.source c.args.form.now c.requires.small c.requires.sorted c.args.candidates.now c.push.new.self (record { source = c.args.source; path = c.args.path; clause = c.in-Some.clause }) c.in_ok-clause.field-0 c.in-Some.clause
    c.in_ok-clause.ensures.found c.in-Some.is refl refl c.in_ok-push-in-Some.ensures.ok

pub returns-in-None : goal.returns-in-None
returns-in-None c = added_none c.args.signature.now c.args.source c.args.form.now c.args.candidates.now
