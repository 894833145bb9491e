use Rattle.search_proofs.proofs.Sweeping.{last_names, each_names}
use Rattle.search_proofs.proofs.needing.needed_members.Goals as goal

pub needed_earlier-requires-clause-earlier : goal.needed_earlier-requires-clause-earlier
needed_earlier-requires-clause-earlier c = each_names c.requires.0 c.requires.1 c.args.members.now c.requires.2

pub needed_earlier-requires-clause-last : goal.needed_earlier-requires-clause-last
needed_earlier-requires-clause-last c = last_names c.requires.0 c.requires.1 c.args.members.now c.args.last.now c.requires.3
