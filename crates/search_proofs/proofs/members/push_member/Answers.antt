use Rattle.search_proofs.proofs.Passing.{inferred_made}
use Rattle.search_proofs.proofs.members.push_member.Goals as goal

pub conclude-requires-clause-made : goal.conclude-requires-clause-made
conclude-requires-clause-made c = inferred_made c.args.signature.now c.args.start c.args.earlier.now c.args.numbers.now c.args.of_inputs.now c.args.member.now.clause c.args.member.now.origin c.in-Inferred.first c.in-Inferred.second _ c.in-Inferred.is c.requires.made
