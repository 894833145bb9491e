use Rattle.derive_kit.proofs.Built.{ok_map}
use Rattle.flat_proofs.proofs.LeadFacts.{chain_forth, chain_back}
use Rattle.flat_proofs.proofs.leading.chain.Goals as goal

pub returns-then-forth : goal.returns-then-forth
returns-then-forth c =
    ok_map c.under.result
    (λ made e n middle l k. chain_forth n c.args.before c.args.after c.in_ok-own.own c.in_ok-found.found c.in_ok-apply.field-0 made c.args.first.now middle c.args.last.now c.in_ok-own.ensures c.args.forth c.if-forth.true c.in_ok-found.ensures c.in_ok-apply.ensures e l k)
    c.under.ensures

pub returns : goal.returns
returns c =
    ok_map c.under-2.result
    (λ made e n middle l k. chain_back n c.args.before c.args.after c.in_ok-own.own c.in_ok-found-2.found c.in_ok-apply-2.field-0 made c.args.first.now middle c.args.last.now c.in_ok-own.ensures c.args.forth c.if-forth.false c.in_ok-found-2.ensures c.in_ok-apply-2.ensures e l k)
    c.under-2.ensures
