use Rattle.search_proofs.proofs.DeclaredFacts.{none_declared, one_declared}
use Rattle.search_proofs.proofs.declaring.declarations.Goals as goal

pub loop-id-init : goal.loop-id-init
loop-id-init c = none_declared c.args.signature.now.symbols c.args.known c.new-entries.result c.new-entries.ensures

pub loop-id-preserved : goal.loop-id-preserved
loop-id-preserved c =
    one_declared c.args.signature.now.symbols c.args.known c.loop-id.id c.in_ok-declaration.ensures.0 c.in_ok-declaration.field-0 c.loop-id.entries c.push.new.self c.in_ok-declaration.ensures.1 c.in_ok-declaration.ensures.2 c.loop-id.invariant c.in_ok-push.ensures.ok
