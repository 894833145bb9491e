-- What is said of a refusal, where more is said of each answer.
use Rattle.std.proofs.Common.{Option, None, Some, IfSome, IfOk, Result, Ok, Err}
use Rattle.read_problems.specs.Stop.{IfRefused}
use Rattle.read_problems.specs.declared.stop.Answer.{Answer}
use Rattle.read_problems.specs.declared.stop.Halt.{Halt}
use Rattle.read_problems.specs.declared.stop.Halt.TheVariants.{Refused, Stopped}

-- a refusal of one call is one of its caller
pub refused_on : (T U : Type 0) (halt : Halt) (P Q : Answer → Type 0) → ((answer : Answer) → P answer → Q answer) → IfRefused {T = T} (Err halt) P → IfRefused {T = U} (Err halt) Q
refused_on T U (Refused answer) P Q so refused = so answer refused
refused_on T U (Stopped stop) P Q so refused = tt

pub refused_both : (T U : Type 0) (halt : Halt) (P P' Q : Answer → Type 0) → ((answer : Answer) → P answer → P' answer → Q answer) → IfRefused {T = T} (Err halt) P → IfRefused {T = T} (Err halt) P' → IfRefused {T = U} (Err halt) Q
refused_both T U (Refused answer) P P' Q so refused also = so answer refused also
refused_both T U (Stopped stop) P P' Q so refused also = tt

pub refused_so : (T : Type 0) (r : Result T Halt) (P Q : Answer → Type 0) → ((answer : Answer) → P answer → Q answer) → IfRefused r P → IfRefused r Q
refused_so T (Ok x) P Q so refused = tt
refused_so T (Err halt) P Q so refused = refused_on T T halt P Q so refused

pub found_so : (T : Type 0) (r : Result (Option T) Halt) (P Q : T → Type 0) → ((x : T) → P x → Q x) → IfOk r (λ found. IfSome found P) → IfOk r (λ found. IfSome found Q)
found_so T (Ok None) P Q so is = tt
found_so T (Ok (Some x)) P Q so is = so x is
found_so T (Err halt) P Q so is = tt
