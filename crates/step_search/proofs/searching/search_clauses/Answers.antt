use Rattle.std.proofs.Common.{◌∙◌}
use Rattle.step_search.proofs.WhatIsSaid.{all_declared, is_grown, room_for_all}
use Rattle.step_search.proofs.searching.search_clauses.Goals as goal

pub with_functions-requires-clause-room : goal.with_functions-requires-clause-room
with_functions-requires-clause-room c = room_for_all c.args.theory.now.vocabulary c.args.parents.now c.args.line.now c.signature.result.now c.signature.ensures c.as_slice.result.now (c.as_slice.ensures ∙ c.requires.functions) c.requires.narrow c.requires.room c.requires.ready c.requires.line

pub with_functions-requires-clause-declared : goal.with_functions-requires-clause-declared
with_functions-requires-clause-declared c = all_declared c.args.theory.now.vocabulary c.args.parents.now c.args.line.now c.signature.result.now c.signature.ensures c.as_slice.result.now (c.as_slice.ensures ∙ c.requires.functions) c.requires.ready c.requires.line

pub search_over-requires-clause-closed : goal.search_over-requires-clause-closed
search_over-requires-clause-closed c = c.requires.closed

pub search_over-requires-clause-parents : goal.search_over-requires-clause-parents
search_over-requires-clause-parents c = c.requires.parents

pub search_over-requires-clause-ready : goal.search_over-requires-clause-ready
search_over-requires-clause-ready c = c.requires.ready

pub search_over-requires-clause-line : goal.search_over-requires-clause-line
search_over-requires-clause-line c = c.requires.line

pub search_over-requires-clause-room : goal.search_over-requires-clause-room
search_over-requires-clause-room c = c.requires.room

pub search_over-requires-clause-narrow : goal.search_over-requires-clause-narrow
search_over-requires-clause-narrow c = c.requires.narrow

pub search_over-requires-clause-signature : goal.search_over-requires-clause-signature
search_over-requires-clause-signature c = is_grown c.args.theory.now.vocabulary c.args.parents.now c.args.line.now c.signature.result.now c.signature.ensures c.as_slice.result.now (c.as_slice.ensures ∙ c.requires.functions) c.in_ok-signature.signature c.in_ok-signature.ensures

pub search_over-requires-clause-clauses : goal.search_over-requires-clause-clauses
search_over-requires-clause-clauses c = c.as_slice-clauses.ensures ∙ c.requires.clauses

pub returns : goal.returns
returns c = c.search_over.ensures
