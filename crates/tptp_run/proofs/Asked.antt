-- What a command answers is an answer to the words that ask for it.
use Rattle.std.proofs.Common.{◌≡◌, inr, ℕ, List, [], Option, None, Some, IfSome, Result, Ok, Err, sym, subst}
use Rattle.tptp_base.specs.Store.{Files}
use Rattle.tptp_base.proofs.Taken.{takes_nothing}
use Rattle.read_problems.specs.Answer.{ending_of}
use Rattle.tptp_run.specs.code.Answer.{IsAnswerWithLog}
use Rattle.tptp_run.specs.Ends as Said
use Rattle.read_problems.specs.Stop.{IfAnswer}
use Rattle.tptp_commands.specs.Words.{Task, Request, IsForm}
use Rattle.read_problems.specs.declared.stop.Answer.{Answer}
use Rattle.read_problems.specs.declared.stop.Halt.{Halt}
use Rattle.read_problems.specs.declared.stop.Halt.TheVariants.{Refused, Stopped}

-- what a command without a log answers is an answer to the words that ask for its task
pub task_asked : (told : Option Files) (words : List (List ℕ)) (request : Request) (own : Task) (taken : Option (List ℕ)) (r : Result Answer Halt) → IsForm words request → request.task ≡ own
    → IfAnswer r (λ answer. IfSome told (λ files. Said.EndsTask files request.root request.limit own (ending_of answer))) → IfAnswer r (λ answer. IfSome told (λ files. IsAnswerWithLog (Said.Ends files words) answer taken taken))
task_asked told words request own taken r form is ends = if_answer r ends
  where
    answered : (told : Option Files) (answer : Answer) → IfSome told (λ files. Said.EndsTask files request.root request.limit own (ending_of answer)) → IfSome told (λ files. IsAnswerWithLog (Said.Ends files words) answer taken taken)
    answered None answer ends = tt
    answered (Some files) answer ends = ([], takes_nothing taken, inr (request, form, subst (λ (task : Task). Said.EndsTask files request.root request.limit task (ending_of answer)) (sym is) ends))

    if_answer : (r : Result Answer Halt) → IfAnswer r (λ answer. IfSome told (λ files. Said.EndsTask files request.root request.limit own (ending_of answer))) → IfAnswer r (λ answer. IfSome told (λ files. IsAnswerWithLog (Said.Ends files words) answer taken taken))
    if_answer (Ok answer) ends = answered told answer ends
    if_answer (Err (Refused answer)) ends = answered told answer ends
    if_answer (Err (Stopped stop)) ends = tt
