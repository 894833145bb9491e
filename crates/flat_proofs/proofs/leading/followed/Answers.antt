use Rattle.flat_proofs.proofs.LeadFacts.{leads_some, without_last}
use Rattle.flat_proofs.proofs.leading.followed.Goals as goal

pub returns-in_ok-chain-in-Some : goal.returns-in_ok-chain-in-Some
returns-in_ok-chain-in-Some c = λ n middle l k. c.in_ok-chain-in-Some.ensures n middle l (leads_some c.args.forth n c.args.after c.in-Some.part middle c.args.last.now c.in-Some.is k)

pub returns-in-None : goal.returns-in-None
returns-in-None c = λ n middle l k. without_last c.args.forth n c.args.after c.args.before c.args.first.now middle c.args.last.now c.in-None.is l k
