use Rattle.std.proofs.Common.{ap, inl, Err, ◌∙◌, ◌≡◌, false, true}
use Rattle.clause_form.specs.Paths.{forms_of}
use Rattle.step_clauses.specs.Inputs.{search_input, search_symbols}
use Rattle.step_clauses.specs.Room.{HasRoom}
use Rattle.step_clauses.specs.Wide.{is_wide}
use Rattle.problem_proofs.specs.Proved.{IsProved, MayBeOver}
use Rattle.problem_proofs.proofs.Finding.{are_below, as_step, has_symbols, no_symbols, nothing_proved, on_any, posed, wanting}
use Rattle.problem_proofs.proofs.proving.prove.Goals as goal

pub returns-then-not-room-clause-limit : goal.returns-then-not-room-clause-limit
returns-then-not-room-clause-limit c =
    no_symbols c.args.sig.now c.args.given.now c.from.result c.as_slice.result.now c.falsehood-line.result (c.from.ensures ∙ c.symbol_count-symbols.ensures.value) (c.as_slice.ensures ∙ c.in_ok-parents.ensures) c.falsehood-line.ensures c.in_ok-room.room c.in_ok-room.ensures c.args.limit c.if-not-room.true

pub search_input-requires-clause-below : goal.search_input-requires-clause-below
search_input-requires-clause-below c =
    are_below c.args.sig.now c.args.given.now c.symbol_count-symbols.result c.as_slice-2.result.now c.falsehood-line.result c.symbol_count-symbols.ensures.value (c.as_slice-2.ensures ∙ c.in_ok-parents.ensures) c.falsehood-line.ensures c.requires

pub search_input-requires-clause-room : goal.search_input-requires-clause-room
search_input-requires-clause-room c =
    as_step c.args.sig.now c.args.given.now c.symbol_count-symbols.result c.as_slice-2.result.now c.falsehood-line.result c.symbol_count-symbols.ensures.value (c.as_slice-2.ensures ∙ c.in_ok-parents.ensures) c.falsehood-line.ensures (λ n ps a. HasRoom n (forms_of ps) a)
    (has_symbols c.args.sig.now c.args.given.now c.from.result c.as_slice.result.now c.falsehood-line.result (c.from.ensures ∙ c.symbol_count-symbols.ensures.value) (c.as_slice.ensures ∙ c.in_ok-parents.ensures) c.falsehood-line.ensures c.in_ok-room.room c.in_ok-room.ensures c.if-not-room.false)

pub search_clauses-requires-clause-ready : goal.search_clauses-requires-clause-ready
search_clauses-requires-clause-ready c = c.requires

pub search_clauses-requires-clause-room : goal.search_clauses-requires-clause-room
search_clauses-requires-clause-room c =
    has_symbols c.args.sig.now c.args.given.now c.from.result c.as_slice.result.now c.falsehood-line.result (c.from.ensures ∙ c.symbol_count-symbols.ensures.value) (c.as_slice.ensures ∙ c.in_ok-parents.ensures) c.falsehood-line.ensures c.in_ok-room.room c.in_ok-room.ensures c.if-not-room.false

pub search_clauses-requires-clause-narrow : goal.search_clauses-requires-clause-narrow
search_clauses-requires-clause-narrow c =
    posed c.args.sig.now c.args.given.now c.symbol_count-symbols.result c.as_slice-2.result.now c.falsehood-line.result c.symbol_count-symbols.ensures.value (c.as_slice-2.ensures ∙ c.in_ok-parents.ensures) c.falsehood-line.ensures (λ n ps a. is_wide n (forms_of ps) a ≡ false) c.in-Ok.ensures.narrow

pub search_clauses-requires-clause-clauses : goal.search_clauses-requires-clause-clauses
search_clauses-requires-clause-clauses c =
    posed c.args.sig.now c.args.given.now c.symbol_count-symbols.result c.as_slice-2.result.now c.falsehood-line.result c.symbol_count-symbols.ensures.value (c.as_slice-2.ensures ∙ c.in_ok-parents.ensures) c.falsehood-line.ensures (λ n ps a. c.in-Ok.input.clauses ≡ search_input n (forms_of ps) a)
    c.in-Ok.ensures.clauses

pub search_clauses-requires-clause-functions : goal.search_clauses-requires-clause-functions
search_clauses-requires-clause-functions c =
    posed c.args.sig.now c.args.given.now c.symbol_count-symbols.result c.as_slice-2.result.now c.falsehood-line.result c.symbol_count-symbols.ensures.value (c.as_slice-2.ensures ∙ c.in_ok-parents.ensures) c.falsehood-line.ensures (λ n ps a. c.in-Ok.input.skolems ≡ search_symbols n (forms_of ps) a)
    c.in-Ok.ensures.skolems

pub returns-in-Ok-clause-room : goal.returns-in-Ok-clause-room
returns-in-Ok-clause-room c =
    on_any c.search_clauses.result
    (has_symbols c.args.sig.now c.args.given.now c.from.result c.as_slice.result.now c.falsehood-line.result (c.from.ensures ∙ c.symbol_count-symbols.ensures.value) (c.as_slice.ensures ∙ c.in_ok-parents.ensures) c.falsehood-line.ensures c.in_ok-room.room c.in_ok-room.ensures c.if-not-room.false)

pub returns-in-Ok-clause-proved : goal.returns-in-Ok-clause-proved
returns-in-Ok-clause-proved c = c.search_clauses.ensures.proved

pub returns-in-Ok-clause-limit : goal.returns-in-Ok-clause-limit
returns-in-Ok-clause-limit c = c.search_clauses.ensures.limit

pub returns-in-Err-Wide-clause-room : goal.returns-in-Err-Wide-clause-room
returns-in-Err-Wide-clause-room c =
    has_symbols c.args.sig.now c.args.given.now c.from.result c.as_slice.result.now c.falsehood-line.result (c.from.ensures ∙ c.symbol_count-symbols.ensures.value) (c.as_slice.ensures ∙ c.in_ok-parents.ensures) c.falsehood-line.ensures c.in_ok-room.room c.in_ok-room.ensures c.if-not-room.false

pub returns-in-Err-Wide-clause-proved : goal.returns-in-Err-Wide-clause-proved
returns-in-Err-Wide-clause-proved c =
    inl
    (posed c.args.sig.now c.args.given.now c.symbol_count-symbols.result c.as_slice-2.result.now c.falsehood-line.result c.symbol_count-symbols.ensures.value (c.as_slice-2.ensures ∙ c.in_ok-parents.ensures) c.falsehood-line.ensures (λ n ps a. is_wide n (forms_of ps) a ≡ true)
    (c.search_input.ensures.wide (c.in-Err-Wide.is ∙ ap Err c.in-Err-Wide.field-0-is)))

pub returns-in_err-parents-clause-proved : goal.returns-in_err-parents-clause-proved
returns-in_err-parents-clause-proved c = nothing_proved (IsProved c.args.sig.now c.args.given.now c.args.file.now c.args.limit) c.from_residual.result c.from_residual.ensures.1

pub returns-in_err-parents-clause-limit : goal.returns-in_err-parents-clause-limit
returns-in_err-parents-clause-limit c = wanting (MayBeOver c.args.sig.now c.args.given.now c.args.limit) c.from_residual.result c.from_residual.ensures.1

pub returns-in_err-room-clause-proved : goal.returns-in_err-room-clause-proved
returns-in_err-room-clause-proved c = nothing_proved (IsProved c.args.sig.now c.args.given.now c.args.file.now c.args.limit) c.from_residual-in_err-room.result c.from_residual-in_err-room.ensures.1

pub returns-in_err-room-clause-limit : goal.returns-in_err-room-clause-limit
returns-in_err-room-clause-limit c = wanting (MayBeOver c.args.sig.now c.args.given.now c.args.limit) c.from_residual-in_err-room.result c.from_residual-in_err-room.ensures.1
