use Rattle.fi_model.proofs.DomainLoops.{refused_elements}
use Rattle.fi_model.proofs.domains.take_domain.Goals as goal

pub returns-in-None-2-clause-err : goal.returns-in-None-2-clause-err
returns-in-None-2-clause-err c =
    refused_elements c.args.signature.now c.args.slots.now c.args.domain.now c.wrong_domain.result c.as_slice-in-Some.result.now c.in_ok-elements-in-Some.field-0 c.in_ok-elements-in-Some.ensures c.as_slice-in-Some.ensures c.in-None-2.is c.wrong_domain.ensures
