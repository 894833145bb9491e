-- Tasks that meet no fault in the files, and so succeed.
use Rattle.std.specs.Prelude.{⊤, ◌≡◌, ℕ, List, length, Some}
use Rattle.std.specs.declared.option.Option.{Option}
use Rattle.tptp_base.specs.declared.item.Item.{Item}
use Rattle.tptp_base.specs.Store.{Files, file_at}
use Rattle.kernel.specs.Statements.{Statements}
use Rattle.read_problems.specs.Given.{IsGiven}
use Rattle.tptp_run.specs.GoodRuns.{AreGood}
use Rattle.tptp_commands.specs.Refuted.{IsInBudget, HasRefutation}
use Rattle.read_problems.specs.Spelled.{SpellsItems}
use Rattle.tptp_commands.specs.Modelling.{IsModelled}
use Rattle.tptp_commands.specs.Words.{Task, Verify, Format, Parse, Check, Make, Prove, Model}

-- The file has a text within the limits that spells items.
pub record IsWellSpelled (files : Files) (file : List ℕ) : Type 0 where
  pub text : List ℕ
  pub there : file_at files file ≡ Some text
  pub fits : IsInBudget 0 (length text)
  pub items : List Item
  pub spells : SpellsItems text items

-- The problem resolves, and its formulas denote, without a fault.
pub record IsWellSorted (files : Files) (root : Option (List ℕ)) (problem : List ℕ) : Type 0 where
  pub theory : Statements
  pub read : ℕ
  pub is : IsGiven (Some files) root problem theory read

-- The problem is so, and the log has the text of entries that refute what it gives.
pub record IsRefutedByLog (files : Files) (root : Option (List ℕ)) (problem log : List ℕ) : Type 0 where
  pub theory : Statements
  pub read : ℕ
  pub is : IsGiven (Some files) root problem theory read
  pub refuted : HasRefutation files log theory read

-- the files have no fault that the task could meet; `make` reads none of them, and of no files is it known that `prove`
-- finds a proof
abbrev pub MeetsNoFault : Files → Option (List ℕ) → ℕ → Task → Type 0
MeetsNoFault files root limit (Verify problem derivation log) = AreGood files root limit problem derivation
MeetsNoFault files root limit (Format file) = IsWellSpelled files file
MeetsNoFault files root limit (Parse file) = IsWellSorted files root file
MeetsNoFault files root limit (Check problem log) = IsRefutedByLog files root problem log
MeetsNoFault files root limit (Make count) = ⊤
MeetsNoFault files root limit (Prove problem) = ⊥
MeetsNoFault files root limit (Model problem model) = IsModelled files root problem model
