use Rattle.std.proofs.Common.{refl}
use Rattle.step_search.proofs.WhatIsSaid.{inputs_fit, inputs_light, dry_said, full_said, heavy_said, refuted_said, refuted_made, refuted_fit, refuted_empty}
use Rattle.step_search.proofs.searching.search_over.Goals as goal

pub search-requires-clause-clauses : goal.search-requires-clause-clauses
search-requires-clause-clauses c = inputs_fit c.args.theory.now c.args.parents.now c.args.line.now c.requires.narrow c.args.signature.now c.requires.signature c.args.clauses.now c.requires.clauses c.requires.ready c.requires.line

pub search-requires-clause-light : goal.search-requires-clause-light
search-requires-clause-light c = inputs_light c.args.theory.now c.args.parents.now c.args.line.now c.requires.narrow c.args.signature.now c.requires.signature c.args.clauses.now c.requires.clauses c.requires.ready c.requires.line

pub refutation_entries-requires-clause-closed : goal.refutation_entries-requires-clause-closed
refutation_entries-requires-clause-closed c = c.requires.closed

pub refutation_entries-requires-clause-parents : goal.refutation_entries-requires-clause-parents
refutation_entries-requires-clause-parents c = c.requires.parents

pub refutation_entries-requires-clause-ready : goal.refutation_entries-requires-clause-ready
refutation_entries-requires-clause-ready c = c.requires.ready

pub refutation_entries-requires-clause-line : goal.refutation_entries-requires-clause-line
refutation_entries-requires-clause-line c = c.requires.line

pub refutation_entries-requires-clause-room : goal.refutation_entries-requires-clause-room
refutation_entries-requires-clause-room c = c.requires.room

pub refutation_entries-requires-clause-narrow : goal.refutation_entries-requires-clause-narrow
refutation_entries-requires-clause-narrow c = c.requires.narrow

pub refutation_entries-requires-clause-signature : goal.refutation_entries-requires-clause-signature
refutation_entries-requires-clause-signature c = c.requires.signature

pub refutation_entries-requires-clause-inputs : goal.refutation_entries-requires-clause-inputs
refutation_entries-requires-clause-inputs c = c.requires.clauses

pub refutation_entries-requires-clause-members : goal.refutation_entries-requires-clause-members
refutation_entries-requires-clause-members c = (refuted_made c.args.signature.now c.in_ok-outcome.outcome c.in-Refuted.members c.as_slice.result.now c.in-Refuted.empty c.in-Refuted.is c.as_slice.ensures c.args.clauses.now c.args.clauses.now refl c.in_ok-outcome.ensures.origins).0

pub refutation_entries-requires-clause-last : goal.refutation_entries-requires-clause-last
refutation_entries-requires-clause-last c = (refuted_made c.args.signature.now c.in_ok-outcome.outcome c.in-Refuted.members c.as_slice.result.now c.in-Refuted.empty c.in-Refuted.is c.as_slice.ensures c.args.clauses.now c.args.clauses.now refl c.in_ok-outcome.ensures.origins).1

pub refutation_entries-requires-clause-fit : goal.refutation_entries-requires-clause-fit
refutation_entries-requires-clause-fit c = (refuted_fit c.args.signature.now c.in_ok-outcome.outcome c.in-Refuted.members c.as_slice.result.now c.in-Refuted.empty c.in-Refuted.is c.as_slice.ensures c.in_ok-outcome.ensures.fit).0

pub refutation_entries-requires-clause-last_fit : goal.refutation_entries-requires-clause-last_fit
refutation_entries-requires-clause-last_fit c = (refuted_fit c.args.signature.now c.in_ok-outcome.outcome c.in-Refuted.members c.as_slice.result.now c.in-Refuted.empty c.in-Refuted.is c.as_slice.ensures c.in_ok-outcome.ensures.fit).1

pub refutation_entries-requires-clause-empty : goal.refutation_entries-requires-clause-empty
refutation_entries-requires-clause-empty c = refuted_empty c.args.signature.now c.in_ok-outcome.outcome c.in-Refuted.members c.as_slice.result.now c.in-Refuted.empty c.in-Refuted.is c.as_slice.ensures c.args.clauses.now c.args.limit c.in_ok-outcome.ensures.ends

pub returns-in-Refuted : goal.returns-in-Refuted
returns-in-Refuted c = refuted_said c.args.theory.now c.args.parents.now c.args.line.now c.requires.narrow c.args.signature.now c.requires.signature c.args.clauses.now c.requires.clauses c.args.limit c.in_ok-outcome.outcome c.in-Refuted.members c.in_ok-outcome.ensures.ends c.in-Refuted.empty c.in_ok-entries-in-Refuted.entries c.in-Refuted.is c.in_ok-entries-in-Refuted.ensures

pub returns-in-Dry : goal.returns-in-Dry
returns-in-Dry c = dry_said c.args.theory.now c.args.parents.now c.args.line.now c.requires.narrow c.args.signature.now c.requires.signature c.args.clauses.now c.requires.clauses c.args.limit c.in_ok-outcome.outcome c.in-Dry.field-0 c.in_ok-outcome.ensures.ends c.in-Dry.is

pub returns-in-Full : goal.returns-in-Full
returns-in-Full c = full_said c.args.theory.now c.args.parents.now c.args.line.now c.requires.narrow c.args.signature.now c.requires.signature c.args.clauses.now c.requires.clauses c.args.limit c.in_ok-outcome.outcome c.in-Full.field-0 c.in_ok-outcome.ensures.ends c.in-Full.is

pub returns : goal.returns
returns c = heavy_said c.args.theory.now c.args.parents.now c.args.line.now c.requires.narrow c.args.signature.now c.requires.signature c.args.clauses.now c.requires.clauses c.args.limit c.in_ok-outcome.outcome c.in-Heavy.field-0 c.in_ok-outcome.ensures.ends c.in-Heavy.is
