-- When a run that evaluates a model ends with status 0.
use Rattle.std.proofs.Common.{◌≡◌, ◌↔◌, inl, inr, ℕ, List, subst}
use Rattle.tptp_base.specs.Store.{Files}
use Rattle.read_problems.specs.Ending.{Ending}
use Rattle.tptp_run.specs.Ends.{EndsTask, Ends}
use Rattle.tptp_commands.specs.Modelled.{EndsModel}
use Rattle.tptp_commands.specs.Modelling.{IsModelled}
use Rattle.tptp_commands.specs.Words.{Task, Model, Request, IsForm}
use Rattle.tptp_commands.proofs.Requests.{one_request}
use Rattle.tptp_commands.proofs.ModelExact.{model_exact}

-- ---- a run on words

model_of : (files : Files) (words : List (List ℕ)) (request : Request) (problem model : List ℕ) (ending : Ending) → Ends files words ending → IsForm words request → request.task ≡ Model problem model → EndsModel files request.root problem model ending
model_of files words request problem model ending (inl none) form is = absurd (none.0 request form)
model_of files words request problem model ending (inr (other, found, ends)) form is =
    let asks : Request → Type 0 = λ r. EndsTask files r.root r.limit r.task ending in
    let of_task : Task → Type 0 = λ task. EndsTask files request.root request.limit task ending in
    subst of_task is (subst asks (one_request words other request found form) ends)

pub run_models : (files : Files) (words : List (List ℕ)) (request : Request) (problem model : List ℕ) (ending : Ending) → Ends files words ending → IsForm words request → request.task ≡ Model problem model → (ending.status ≡ 0) ↔ IsModelled files request.root problem model
run_models files words request problem model ending ends form is = model_exact files request.root problem model ending (model_of files words request problem model ending ends form is)
