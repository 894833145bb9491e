-- Parts of a problem: what one file, with all that it includes, adds to it.
use Rattle.std.specs.Prelude.{ℕ, ◌+◌, [], ◌∷◌, ◌++◌, Ok, Err}
use Rattle.std.specs.declared.result.Result.{Result}
use Rattle.tptp_base.specs.declared.item.Item.{Item}
use Rattle.include_resolve.specs.declared.fault.IncludeFault.{IncludeFault}
use Rattle.include_resolve.specs.declared.problem.Problem.{Problem}
use Rattle.include_resolve.specs.Names.{Text}

abbrev pub Answer : Type 0
Answer = Result Problem IncludeFault

abbrev pub nothing : Problem
nothing = record { files = []; items = []; read = 0 }

-- a file of this name and so many bytes, without its items
abbrev pub file_alone : Text → ℕ → Problem
file_alone name size = record { files = name ∷ []; items = []; read = size }

abbrev pub item_alone : Item → Problem
item_alone item = record { files = []; items = item ∷ []; read = 0 }

abbrev pub joined : Problem → Problem → Problem
joined first second = record { files = first.files ++ second.files; items = first.items ++ second.items; read = first.read + second.read }

-- the part before what follows it, unless a fault follows
abbrev pub before : Problem → Answer → Answer
before part (Ok rest) = Ok (joined part rest)
before part (Err fault) = Err fault
