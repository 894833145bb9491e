use Rattle.std.proofs.Common.{refl, ◌∙◌}
use Rattle.problem_proofs.specs.Posed.{falsehood, parents_of}
use Rattle.problem_proofs.specs.Proved.{IsProved, MayBeOver}
use Rattle.problem_proofs.proofs.Finding.{functions_known, functions_room, nothing_proved, wanting}
use Rattle.problem_proofs.proofs.PosedFacts.{falsehood_ready, parents_ready}
use Rattle.problem_proofs.proofs.Searching.{fit, is_dry, is_full, is_heavy, is_made, is_refuted, light}
use Rattle.step_search.proofs.WhatIsSaid.{all_declared, room_for_all}
use Rattle.problem_proofs.proofs.proving.search_clauses.Goals as goal

pub with_functions-requires-clause-room : goal.with_functions-requires-clause-room
with_functions-requires-clause-room c =
    room_for_all c.args.sig.now (parents_of c.args.given.now) falsehood c.args.sig.now refl c.as_slice.result.now (c.as_slice.ensures ∙ c.requires.functions) c.requires.narrow c.requires.room (parents_ready c.args.sig.now c.args.given.now c.requires.ready) (falsehood_ready c.args.sig.now)

pub with_functions-requires-clause-declared : goal.with_functions-requires-clause-declared
with_functions-requires-clause-declared c =
    all_declared c.args.sig.now (parents_of c.args.given.now) falsehood c.args.sig.now refl c.as_slice.result.now (c.as_slice.ensures ∙ c.requires.functions) (parents_ready c.args.sig.now c.args.given.now c.requires.ready) (falsehood_ready c.args.sig.now)

pub search-requires-clause-clauses : goal.search-requires-clause-clauses
search-requires-clause-clauses c = fit c.args.sig.now c.args.given.now c.requires.narrow c.as_slice.result.now (c.as_slice.ensures ∙ c.requires.functions) c.in_ok-signature.signature c.in_ok-signature.ensures c.as_slice-2.result.now (c.as_slice-2.ensures ∙ c.requires.clauses) c.requires.ready

pub search-requires-clause-light : goal.search-requires-clause-light
search-requires-clause-light c = light c.args.sig.now c.args.given.now c.requires.narrow c.as_slice.result.now (c.as_slice.ensures ∙ c.requires.functions) c.in_ok-signature.signature c.in_ok-signature.ensures c.as_slice-2.result.now (c.as_slice-2.ensures ∙ c.requires.clauses) c.requires.ready

pub derived-requires-clause-ready : goal.derived-requires-clause-ready
derived-requires-clause-ready c = c.requires.ready

pub derived-requires-clause-room : goal.derived-requires-clause-room
derived-requires-clause-room c = c.requires.room

pub derived-requires-clause-narrow : goal.derived-requires-clause-narrow
derived-requires-clause-narrow c = c.requires.narrow

pub derived-requires-clause-clauses : goal.derived-requires-clause-clauses
derived-requires-clause-clauses c = c.as_slice-in-Refuted.ensures ∙ c.requires.clauses

pub derived-requires-clause-made : goal.derived-requires-clause-made
derived-requires-clause-made c = (is_made c.args.sig.now c.args.given.now c.requires.narrow c.as_slice.result.now (c.as_slice.ensures ∙ c.requires.functions) c.in_ok-signature.signature c.in_ok-signature.ensures c.as_slice-2.result.now (c.as_slice-2.ensures ∙ c.requires.clauses) c.args.limit c.in_ok-members.field-0 c.in_ok-members.ensures.ends c.in-Refuted.members c.as_slice-in-Refuted-2.result.now c.in-Refuted.last c.in-Refuted.is c.as_slice-in-Refuted-2.ensures c.in_ok-members.ensures.origins).0

pub derived-requires-clause-last : goal.derived-requires-clause-last
derived-requires-clause-last c = (is_made c.args.sig.now c.args.given.now c.requires.narrow c.as_slice.result.now (c.as_slice.ensures ∙ c.requires.functions) c.in_ok-signature.signature c.in_ok-signature.ensures c.as_slice-2.result.now (c.as_slice-2.ensures ∙ c.requires.clauses) c.args.limit c.in_ok-members.field-0 c.in_ok-members.ensures.ends c.in-Refuted.members c.as_slice-in-Refuted-2.result.now c.in-Refuted.last c.in-Refuted.is c.as_slice-in-Refuted-2.ensures c.in_ok-members.ensures.origins).1

pub printed-requires-clause-room : goal.printed-requires-clause-room
printed-requires-clause-room c =
    functions_room c.args.sig.now c.args.given.now c.args.limit c.in_ok-derivation-in-Refuted.derivation (c.in_ok-derivation-in-Refuted.ensures c.args.limit (is_refuted c.args.sig.now c.args.given.now c.requires.narrow c.as_slice.result.now (c.as_slice.ensures ∙ c.requires.functions) c.in_ok-signature.signature c.in_ok-signature.ensures c.as_slice-2.result.now (c.as_slice-2.ensures ∙ c.requires.clauses) c.args.limit c.in_ok-members.field-0 c.in_ok-members.ensures.ends c.in-Refuted.members c.as_slice-in-Refuted-2.result.now c.in-Refuted.last c.in-Refuted.is c.as_slice-in-Refuted-2.ensures)) c.requires.ready c.requires.room

pub printed-requires-clause-declared : goal.printed-requires-clause-declared
printed-requires-clause-declared c =
    functions_known c.args.sig.now c.args.given.now c.args.limit c.in_ok-derivation-in-Refuted.derivation (c.in_ok-derivation-in-Refuted.ensures c.args.limit (is_refuted c.args.sig.now c.args.given.now c.requires.narrow c.as_slice.result.now (c.as_slice.ensures ∙ c.requires.functions) c.in_ok-signature.signature c.in_ok-signature.ensures c.as_slice-2.result.now (c.as_slice-2.ensures ∙ c.requires.clauses) c.args.limit c.in_ok-members.field-0 c.in_ok-members.ensures.ends c.in-Refuted.members c.as_slice-in-Refuted-2.result.now c.in-Refuted.last c.in-Refuted.is c.as_slice-in-Refuted-2.ensures)) c.requires.ready

pub returns-in-Refuted-clause-proved : goal.returns-in-Refuted-clause-proved
returns-in-Refuted-clause-proved c = c.printed.ensures.proved c.args.limit (c.in_ok-derivation-in-Refuted.ensures c.args.limit (is_refuted c.args.sig.now c.args.given.now c.requires.narrow c.as_slice.result.now (c.as_slice.ensures ∙ c.requires.functions) c.in_ok-signature.signature c.in_ok-signature.ensures c.as_slice-2.result.now (c.as_slice-2.ensures ∙ c.requires.clauses) c.args.limit c.in_ok-members.field-0 c.in_ok-members.ensures.ends c.in-Refuted.members c.as_slice-in-Refuted-2.result.now c.in-Refuted.last c.in-Refuted.is c.as_slice-in-Refuted-2.ensures))

pub returns-in-Refuted-clause-limit : goal.returns-in-Refuted-clause-limit
returns-in-Refuted-clause-limit c = c.printed.ensures.limit c.args.limit c.requires.room (c.in_ok-derivation-in-Refuted.ensures c.args.limit (is_refuted c.args.sig.now c.args.given.now c.requires.narrow c.as_slice.result.now (c.as_slice.ensures ∙ c.requires.functions) c.in_ok-signature.signature c.in_ok-signature.ensures c.as_slice-2.result.now (c.as_slice-2.ensures ∙ c.requires.clauses) c.args.limit c.in_ok-members.field-0 c.in_ok-members.ensures.ends c.in-Refuted.members c.as_slice-in-Refuted-2.result.now c.in-Refuted.last c.in-Refuted.is c.as_slice-in-Refuted-2.ensures))

pub returns-in-Dry-clause-proved : goal.returns-in-Dry-clause-proved
returns-in-Dry-clause-proved c = is_dry c.args.sig.now c.args.given.now c.requires.narrow c.as_slice.result.now (c.as_slice.ensures ∙ c.requires.functions) c.in_ok-signature.signature c.in_ok-signature.ensures c.as_slice-2.result.now (c.as_slice-2.ensures ∙ c.requires.clauses) c.args.limit c.in_ok-members.field-0 c.in_ok-members.ensures.ends c.in-Dry._members c.args.file.now c.in-Dry.is

pub returns-in-Full-clause-proved : goal.returns-in-Full-clause-proved
returns-in-Full-clause-proved c = is_full c.args.sig.now c.args.given.now c.requires.narrow c.as_slice.result.now (c.as_slice.ensures ∙ c.requires.functions) c.in_ok-signature.signature c.in_ok-signature.ensures c.as_slice-2.result.now (c.as_slice-2.ensures ∙ c.requires.clauses) c.args.limit c.in_ok-members.field-0 c.in_ok-members.ensures.ends c.in-Full._members c.args.file.now c.in-Full.is

pub returns-clause-proved : goal.returns-clause-proved
returns-clause-proved c = is_heavy c.args.sig.now c.args.given.now c.requires.narrow c.as_slice.result.now (c.as_slice.ensures ∙ c.requires.functions) c.in_ok-signature.signature c.in_ok-signature.ensures c.as_slice-2.result.now (c.as_slice-2.ensures ∙ c.requires.clauses) c.args.limit c.in_ok-members.field-0 c.in_ok-members.ensures.ends c.in-Heavy._members c.args.file.now c.in-Heavy.is

pub returns-in_err-signature-clause-proved : goal.returns-in_err-signature-clause-proved
returns-in_err-signature-clause-proved c = nothing_proved (IsProved c.args.sig.now c.args.given.now c.args.file.now c.args.limit) c.from_residual.result c.from_residual.ensures.1

pub returns-in_err-signature-clause-limit : goal.returns-in_err-signature-clause-limit
returns-in_err-signature-clause-limit c = wanting (MayBeOver c.args.sig.now c.args.given.now c.args.limit) c.from_residual.result c.from_residual.ensures.1

pub returns-in_err-members-clause-proved : goal.returns-in_err-members-clause-proved
returns-in_err-members-clause-proved c = nothing_proved (IsProved c.args.sig.now c.args.given.now c.args.file.now c.args.limit) c.from_residual-in_err-members.result c.from_residual-in_err-members.ensures.1

pub returns-in_err-members-clause-limit : goal.returns-in_err-members-clause-limit
returns-in_err-members-clause-limit c = wanting (MayBeOver c.args.sig.now c.args.given.now c.args.limit) c.from_residual-in_err-members.result c.from_residual-in_err-members.ensures.1

pub returns-in_err-derivation-in-Refuted-clause-proved : goal.returns-in_err-derivation-in-Refuted-clause-proved
returns-in_err-derivation-in-Refuted-clause-proved c = nothing_proved (IsProved c.args.sig.now c.args.given.now c.args.file.now c.args.limit) c.from_residual-in_err-derivation-in-Refuted.result c.from_residual-in_err-derivation-in-Refuted.ensures.1

pub returns-in_err-derivation-in-Refuted-clause-limit : goal.returns-in_err-derivation-in-Refuted-clause-limit
returns-in_err-derivation-in-Refuted-clause-limit c = wanting (MayBeOver c.args.sig.now c.args.given.now c.args.limit) c.from_residual-in_err-derivation-in-Refuted.result c.from_residual-in_err-derivation-in-Refuted.ensures.1
