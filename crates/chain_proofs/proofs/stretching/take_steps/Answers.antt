use Rattle.std.proofs.Common.{List, Option, None, Some, refl, ap, sym, subst, ◌∙◌}
use Rattle.clause_form.specs.declared.clause.Lit.{Lit}
use Rattle.chain_proofs.specs.code.Walks.{IsMissing}
use Rattle.chain_proofs.proofs.Walking.{ended, goes_further, number_within, unwalked, walked_on}
use Rattle.chain_proofs.proofs.stretching.take_steps.Goals as goal

pub loop-number-init : goal.loop-number-init
loop-number-init c = record { kept = c.requires.kept; walked = unwalked c.args.facts.now c.args.left.now c.args.known.now.lits c.new-steps.result c.new-steps.ensures c.requires.derives }

pub fact_at-fact-requires : goal.fact_at-fact-requires
fact_at-fact-requires c =
    number_within c.args.facts.now c.args.left.now c.args.known.now.lits c.loop-number.known.lits c.loop-number.left c.pop.new.self c.loop-number.steps c.in-Some.number c.loop-number.invariant.walked c.in-Some.ensures

pub returns-in-None-clause-walk : goal.returns-in-None-clause-walk
returns-in-None-clause-walk c =
    let lits = ap (λ (ls : List Lit). ls) c.as_slice.ensures in
    let all = subst (λ (ls : List Lit). IsMissing c.loop-number.known.lits ls None) lits (subst (IsMissing c.loop-number.known.lits c.as_slice.result.now) c.in-None.is c.in_ok-lit.ensures) in
    ended c.args.facts.now c.args.left.now c.args.known.now.lits c.loop-number.known.lits c.loop-number.left c.pop.new.self c.loop-number.steps c.in-Some.number c.loop-number.invariant.walked c.in-Some.ensures c.fact_at-fact.result.now c.fact_at-fact.ensures all
    (record { steps = c.loop-number.steps; last = Some c.in-Some.number }) refl

pub returns-then-len-ge-MAX_STEPS-clause-walk : goal.returns-then-len-ge-MAX_STEPS-clause-walk
returns-then-len-ge-MAX_STEPS-clause-walk c =
    let lits = ap (λ (ls : List Lit). ls) c.as_slice.ensures in
    let missing = subst (λ (ls : List Lit). IsMissing c.loop-number.known.lits ls (Some c.in-Some-2.lit)) lits (subst (IsMissing c.loop-number.known.lits c.as_slice.result.now) c.in-Some-2.is c.in_ok-lit.ensures) in
    let on =
    walked_on c.args.facts.now c.args.left.now c.args.known.now.lits c.loop-number.known.lits c.loop-number.left c.pop.new.self c.loop-number.steps c.in-Some.number c.loop-number.invariant.walked c.in-Some.ensures c.fact_at-fact.result.now c.fact_at-fact.ensures c.in-Some-2.lit missing
    c.len-base.result c.advance.new.known.lits c.advance.new.steps c.len-base.ensures c.in_ok-advance-in-Some-2.ensures.advanced in
    goes_further c.args.facts.now c.args.left.now c.args.known.now.lits c.advance.new.known.lits c.loop-number.left c.pop.new.self c.advance.new.steps c.in-Some.number (record { steps = c.advance.new.steps; last = None }) on c.loop-number.invariant.walked.fewer c.in-Some.ensures refl

pub loop-number-preserved : goal.loop-number-preserved
loop-number-preserved c =
    let lits = ap (λ (ls : List Lit). ls) c.as_slice.ensures in
    let missing = subst (λ (ls : List Lit). IsMissing c.loop-number.known.lits ls (Some c.in-Some-2.lit)) lits (subst (IsMissing c.loop-number.known.lits c.as_slice.result.now) c.in-Some-2.is c.in_ok-lit.ensures) in
    record {
      kept = c.in_ok-advance-in-Some-2.ensures.kept;
      walked =
          walked_on c.args.facts.now c.args.left.now c.args.known.now.lits c.loop-number.known.lits c.loop-number.left c.pop.new.self c.loop-number.steps c.in-Some.number c.loop-number.invariant.walked c.in-Some.ensures c.fact_at-fact.result.now c.fact_at-fact.ensures c.in-Some-2.lit missing
          c.len-base.result c.advance.new.known.lits c.advance.new.steps c.len-base.ensures c.in_ok-advance-in-Some-2.ensures.advanced;
    }
