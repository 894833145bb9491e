use Rattle.split_defs.proofs.DefinitionEnds.{joins_at, define_heads, define_values, in_body, nothing_found}
use Rattle.split_defs.proofs.entries.definition_entries.Goals as goal

pub relation_entries-requires-clause-joins : goal.relation_entries-requires-clause-joins
relation_entries-requires-clause-joins c = joins_at c.body_of-body.result.now c.in-Iff.left c.in-Iff.right c.get.result.now c.get-in-Iff.result.now c.in-Iff.is c.get.ensures c.get-in-Iff.ensures

pub relation_entries-requires-clause-heads : goal.relation_entries-requires-clause-heads
relation_entries-requires-clause-heads c =
    let joins = joins_at c.body_of-body.result.now c.in-Iff.left c.in-Iff.right c.get.result.now c.get-in-Iff.result.now c.in-Iff.is c.get.ensures c.get-in-Iff.ensures in
    define_heads c.args.theory.now c.args.line.now c.body_of-body.result.now c.body_of-body.ensures.body c.get.result.now c.get-in-Iff.result.now joins c.args.symbol c.args.first (in_body c.args.theory.now c.args.line.now c.body_of-body.result.now c.body_of-body.ensures.body c.args.symbol c.args.first c.requires.shown)

pub equation_entries-requires-clause-values : goal.equation_entries-requires-clause-values
equation_entries-requires-clause-values c =
    define_values c.args.theory.now c.args.line.now c.body_of-body.result.now c.body_of-body.ensures.body c.in-Eq.left c.in-Eq.right c.in-Eq.is c.args.symbol c.args.first (in_body c.args.theory.now c.args.line.now c.body_of-body.result.now c.body_of-body.ensures.body c.args.symbol c.args.first c.requires.shown)

pub unreachable-requires : goal.unreachable-requires
unreachable-requires c = nothing_found c.args.theory.now c.args.line.now c.body_of-body.result.now c.body_of-body.ensures.body c.in_default.not-Iff c.in_default.not-Imp c.in_default.not-Eq c.args.symbol c.args.first c.requires.shown
