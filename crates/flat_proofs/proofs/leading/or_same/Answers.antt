use Rattle.derive_kit.proofs.Built.{ok_map}
use Rattle.flat_proofs.proofs.LeadFacts.{leads_some, same_leads}
use Rattle.flat_proofs.proofs.leading.or_same.Goals as goal

pub returns-in-Some : goal.returns-in-Some
returns-in-Some c = λ forth n other l. leads_some forth n c.args.part c.in-Some.part c.args.form.now other c.in-Some.is l

pub returns-in_ok-hyp-in-None : goal.returns-in_ok-hyp-in-None
returns-in_ok-hyp-in-None c =
    ok_map c.under.result (λ made e forth n other l. same_leads forth n c.args.part made c.in_ok-hyp-in-None.field-0 c.args.form.now other c.in-None.is e c.in_ok-hyp-in-None.ensures l) c.under.ensures
