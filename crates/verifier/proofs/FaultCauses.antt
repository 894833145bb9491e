-- Causes of the faults of runs, from one call to its caller.
use Rattle.std.specs.Prelude.{IfErr}
use Rattle.std.proofs.Common.{ℕ, ◌≤◌, Result, Ok, Err, arith}
use Rattle.tptp_base.specs.Count.{Rose}
use Rattle.verifier.specs.Faults.{HasCause, HasRunCause}
use Rattle.verifier.specs.declared.fault.RunFault.{RunFault}
use Rattle.verifier.specs.declared.fault.RunFault.TheVariants.{Sink, Memory, Room}

-- a fault of a call that never stops for room
kept_cause : (fault : RunFault) (cause : Type 0) (AtPlace : ℕ → Type 0) → HasCause fault cause → HasRunCause fault cause AtPlace
kept_cause Sink cause AtPlace has = has
kept_cause Memory cause AtPlace has = tt
kept_cause (Room place) cause AtPlace has = absurd has

pub call_cause : {T : Type 0} (r : Result T RunFault) (cause : Type 0) (AtPlace : ℕ → Type 0) → IfErr r (λ fault. HasCause fault cause) → IfErr r (λ fault. HasRunCause fault cause AtPlace)
call_cause (Ok x) cause AtPlace has = tt
call_cause (Err fault) cause AtPlace has = kept_cause fault cause AtPlace has

-- a fault that is passed on: what rose since later has risen since before, and a line lacks room for the caller too
pub passed_cause : (fault : RunFault) (a b c : ℕ) (Here There : ℕ → Type 0) → a ≤ b → ((place : ℕ) → Here place → There place) → HasRunCause fault (Rose b c) Here → HasRunCause fault (Rose a c) There
passed_cause Sink a b c Here There le becomes has = omega (arith, le, has)
passed_cause Memory a b c Here There le becomes has = tt
passed_cause (Room place) a b c Here There le becomes has = becomes place has

pub result_cause : {T : Type 0} (r : Result T RunFault) (a b c : ℕ) (Here There : ℕ → Type 0) → a ≤ b → ((place : ℕ) → Here place → There place) → IfErr r (λ fault. HasRunCause fault (Rose b c) Here) → IfErr r (λ fault. HasRunCause fault (Rose a c) There)
result_cause (Ok x) a b c Here There le becomes has = tt
result_cause (Err fault) a b c Here There le becomes has = passed_cause fault a b c Here There le becomes has
