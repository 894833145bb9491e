use Rattle.std.proofs.Common.{subst, ◌∷◌, ◌++◌, [], List}
use Rattle.saturation.specs.declared.member.Member.{Member}
use Rattle.saturation.specs.Members.{clauses_of}
use Rattle.saturation.specs.code.Entered.{AreEntered}
use Rattle.saturation.specs.code.Search.{IsMadeWith}
use Rattle.saturation.proofs.Turns.{entered_then}
use Rattle.saturation.proofs.joining.join.Goals as goal

pub returns-clause-joins : goal.returns-clause-joins
returns-clause-joins g c = record {
  listed = c.in_ok-push.ensures.ok;
  facts = c.in_ok-facts.field-0.facts;
  beside = c.in_ok-push-2.ensures.ok;
  are_facts = c.in_ok-facts.ensures.facts;
  makes = subst (λ (l : List Member). IsMadeWith c.args.signature.now (g.I.Partners.is_whole c.args.literals.now) (clauses_of l) c.args.next.clause c.in_ok-facts.field-0.made) c.as_slice.ensures c.in_ok-facts.ensures.made;
}

pub returns-clause-entered : goal.returns-clause-entered
returns-clause-entered g c = λ is.
    let les = g.I.Partners.entries c.arrive.new.literals in
    let tes = g.I.Partners.entries c.arrive.new.terms in
    entered_then c.args.list.now c.push.new.self c.args.next les tes c.in_ok-push.ensures.ok
    (subst (λ (l : List Member). AreEntered (clauses_of l ++ c.args.next.clause ∷ []) les tes) c.as_slice.ensures (c.in_ok-facts.ensures.entered is))
