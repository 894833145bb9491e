use Rattle.std.proofs.Common.{ap, subst, Err, ℕ, ◌≡◌, ◌∙◌, false}
use Rattle.clause_form.specs.Paths.{forms_of}
use Rattle.step_clauses.specs.Inputs.{search_input, search_symbols}
use Rattle.step_clauses.specs.Wide.{is_wide}
use Rattle.step_search.proofs.WhatIsSaid.{are_below, has_room, next_is, wide_said}
use Rattle.step_search.proofs.searching.searched.Goals as goal

pub search_input-requires-clause-below : goal.search_input-requires-clause-below
search_input-requires-clause-below c = are_below c.args.theory.now.vocabulary c.args.parents.now c.args.line.now c.symbol_count-next.result (next_is c.args.theory.now.vocabulary c.signature-signature.result.now c.symbol_count-next.result c.symbol_count-next.ensures.value c.signature-signature.ensures) c.requires.ready c.requires.line

pub search_input-requires-clause-room : goal.search_input-requires-clause-room
search_input-requires-clause-room c = has_room c.args.theory.now.vocabulary c.args.parents.now c.args.line.now c.symbol_count-next.result (next_is c.args.theory.now.vocabulary c.signature-signature.result.now c.symbol_count-next.result c.symbol_count-next.ensures.value c.signature-signature.ensures) c.requires.room

pub search_clauses-requires-clause-closed : goal.search_clauses-requires-clause-closed
search_clauses-requires-clause-closed c = c.requires.closed

pub search_clauses-requires-clause-parents : goal.search_clauses-requires-clause-parents
search_clauses-requires-clause-parents c = c.requires.parents

pub search_clauses-requires-clause-ready : goal.search_clauses-requires-clause-ready
search_clauses-requires-clause-ready c = c.requires.ready

pub search_clauses-requires-clause-line : goal.search_clauses-requires-clause-line
search_clauses-requires-clause-line c = c.requires.line

pub search_clauses-requires-clause-room : goal.search_clauses-requires-clause-room
search_clauses-requires-clause-room c = c.requires.room

pub search_clauses-requires-clause-narrow : goal.search_clauses-requires-clause-narrow
search_clauses-requires-clause-narrow c = subst (λ (n : ℕ). is_wide n (forms_of c.args.parents.now) c.args.line.now ≡ false) (next_is c.args.theory.now.vocabulary c.signature-signature.result.now c.symbol_count-next.result c.symbol_count-next.ensures.value c.signature-signature.ensures) c.in-Ok.ensures.narrow

pub search_clauses-requires-clause-clauses : goal.search_clauses-requires-clause-clauses
search_clauses-requires-clause-clauses c = subst (λ (n : ℕ). c.in-Ok.input.clauses ≡ search_input n (forms_of c.args.parents.now) c.args.line.now) (next_is c.args.theory.now.vocabulary c.signature-signature.result.now c.symbol_count-next.result c.symbol_count-next.ensures.value c.signature-signature.ensures) c.in-Ok.ensures.clauses

pub search_clauses-requires-clause-functions : goal.search_clauses-requires-clause-functions
search_clauses-requires-clause-functions c = subst (λ (n : ℕ). c.in-Ok.input.skolems ≡ search_symbols n (forms_of c.args.parents.now) c.args.line.now) (next_is c.args.theory.now.vocabulary c.signature-signature.result.now c.symbol_count-next.result c.symbol_count-next.ensures.value c.signature-signature.ensures) c.in-Ok.ensures.skolems

pub returns-in-Ok : goal.returns-in-Ok
returns-in-Ok c = c.search_clauses.ensures

pub returns-in-Err-Wide : goal.returns-in-Err-Wide
returns-in-Err-Wide c = wide_said c.args.theory.now c.args.parents.now c.args.line.now c.args.limit c.symbol_count-next.result (next_is c.args.theory.now.vocabulary c.signature-signature.result.now c.symbol_count-next.result c.symbol_count-next.ensures.value c.signature-signature.ensures) (c.search_input.ensures.wide (c.in-Err-Wide.is ∙ ap Err c.in-Err-Wide.field-0-is))
