use Rattle.derive_kit.proofs.Built.{ok_map}
use Rattle.flat_proofs.proofs.LeadFacts.{leads_some, without_first}
use Rattle.flat_proofs.proofs.leading.chained.Goals as goal

pub returns-in-Some : goal.returns-in-Some
returns-in-Some c = ok_map c.followed.result (λ made f n middle l k. f n middle (leads_some c.args.forth n c.args.before c.in-Some.part c.args.first.now middle c.in-Some.is l) k) c.followed.ensures

pub returns-in-None : goal.returns-in-None
returns-in-None c = λ n middle l k. without_first c.args.forth n c.args.before c.args.after c.args.first.now middle c.args.last.now c.in-None.is l k
