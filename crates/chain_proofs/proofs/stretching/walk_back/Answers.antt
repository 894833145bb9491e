use Rattle.std.proofs.Common.{◌∙◌}
use Rattle.chain_proofs.proofs.Walking.{stretched}
use Rattle.chain_proofs.proofs.stretching.walk_back.Goals as goal

pub take_steps-requires-clause-derives : goal.take_steps-requires-clause-derives
take_steps-requires-clause-derives c = record {
  clauses = c.requires.clauses;
  derived = c.requires.derived;
  stated = c.requires.stated;
  chain = c.requires.chain;
  within = λ x there. (c.in_ok-known.ensures.same x).1 (c.requires.within x there);
}

pub returns : goal.returns
returns c =
    stretched c.args.facts.now c.args.from c.args.lits.now c.in_ok-known.known.lits c.in_ok-lits.lits c.take_steps.new.known c.take_steps.new.left c.in_ok-steps.field-0 c.in_ok-known.ensures.same (c.in_ok-lits.ensures ∙ c.as_slice.ensures) c.in_ok-steps.ensures.kept
    c.in_ok-steps.ensures.walk
