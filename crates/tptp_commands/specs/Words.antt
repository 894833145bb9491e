-- The forms of the command line.
use Rattle.std.specs.Prelude.{◌≡◌, ℕ, ◌<◌, ◌≤◌, List, [], ◌∷◌, ◌++◌, length, map, codes, decimal, None, Some, IfSome}
use Rattle.std.specs.Prelude.{String, string_bytes}
use Rattle.std.specs.declared.option.Option.{Option}
use Rattle.std.specs.declared.alloc.Global.{Global}
use Rattle.std.specs.Option.{option_copied}
use Rattle.tptp_commands.specs.declared.words.Command.{Command}
use Rattle.tptp_commands.specs.declared.words.Job.{Job}
use Rattle.tptp_commands.specs.declared.words.Job.TheVariants as job

-- the words as bytes
abbrev pub texts : List (String Global) → List (List ℕ)
texts words = map string_bytes words

-- What the program can be asked to do: to verify a derivation against a problem, with a log where one is named, to
-- format a file, to parse a problem, to check a log against a problem, to make a problem of so many implications and
-- verify its refutation, to search for a proof of a problem, and to evaluate a problem in a model.
pub data Task : Type 0 where
  Verify : List ℕ → List ℕ → Option (List ℕ) → Task
  Format : List ℕ → Task
  Parse : List ℕ → Task
  Check : List ℕ → List ℕ → Task
  Make : ℕ → Task
  Prove : List ℕ → Task
  Model : List ℕ → List ℕ → Task

-- the words of each task
abbrev pub task_words : Task → List (List ℕ)
task_words (Verify problem derivation None) = codes "verify" ∷ problem ∷ derivation ∷ []
task_words (Verify problem derivation (Some log)) = codes "verify" ∷ problem ∷ derivation ∷ log ∷ []
task_words (Format file) = codes "format" ∷ file ∷ []
task_words (Parse file) = codes "parse" ∷ file ∷ []
task_words (Check problem log) = codes "check" ∷ problem ∷ log ∷ []
task_words (Make count) = codes "make" ∷ decimal count ∷ []
task_words (Prove problem) = codes "prove" ∷ problem ∷ []
task_words (Model problem model) = codes "model" ∷ problem ∷ model ∷ []

-- a name has at least one byte
abbrev pub IsFileName : List ℕ → Type 0
IsFileName name = 0 < length name

-- a limit of a search, or a count of implications, is in this range
abbrev pub IsLimit : ℕ → Type 0
IsLimit limit = (1 ≤ limit) × (limit ≤ 100000)

-- its names are names, and its number is in range
abbrev pub HasNames : Task → Type 0
HasNames (Verify problem derivation None) = IsFileName problem × IsFileName derivation
HasNames (Verify problem derivation (Some log)) = IsFileName problem × IsFileName derivation × IsFileName log
HasNames (Format file) = IsFileName file
HasNames (Parse file) = IsFileName file
HasNames (Check problem log) = IsFileName problem × IsFileName log
HasNames (Make count) = IsLimit count
HasNames (Prove problem) = IsFileName problem
HasNames (Model problem model) = IsFileName problem × IsFileName model

-- What is asked of the program: the folder in which included files are looked for too, the greatest number of clauses
-- in the list of a search, and the task.
pub record Request : Type 0 where
  pub root : Option (List ℕ)
  pub limit : ℕ
  pub task : Task

-- the words of the options
abbrev pub root_words : Option (List ℕ) → List (List ℕ)
root_words None = []
root_words (Some folder) = codes "--root" ∷ folder ∷ []

abbrev pub limit_words : Option ℕ → List (List ℕ)
limit_words None = []
limit_words (Some limit) = codes "--limit" ∷ decimal limit ∷ []

-- the limit, which is 1,000 where none is named
abbrev pub limit_of : Option ℕ → ℕ
limit_of None = 1000
limit_of (Some limit) = limit

-- The words ask for this: the options, where they are named, in this order, and then the task.
pub record IsForm (words : List (List ℕ)) (request : Request) : Type 0 where
  pub named_limit : Option ℕ
  pub words_are : root_words request.root ++ (limit_words named_limit ++ task_words request.task) ≡ words
  pub root : IfSome request.root IsFileName
  pub limit : IfSome named_limit IsLimit
  pub limit_is : request.limit ≡ limit_of named_limit
  pub names : HasNames request.task

-- the words ask for nothing
abbrev pub HaveNoForm : List (List ℕ) → Type 0
HaveNoForm words = (request : Request) → IsForm words request → ⊥

-- the task of a job as the code holds it
abbrev pub task_of : Job → Task
task_of (job.Verify problem derivation log) = Verify problem.now derivation.now (option_copied log)
task_of (job.Format file) = Format file.now
task_of (job.Parse file) = Parse file.now
task_of (job.Check problem log) = Check problem.now log.now
task_of (job.Make count) = Make count
task_of (job.Prove problem) = Prove problem.now
task_of (job.Model problem model) = Model problem.now model.now

-- the request of a command as the code holds it
abbrev pub request_of : Command → Request
request_of command = record { root = option_copied command.root; limit = command.limit; task = task_of command.job }
