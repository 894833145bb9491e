-- When a file has a model of what a problem gives, by their texts alone.
use Rattle.std.specs.Prelude.{◌≡◌, ℕ, List, length, Some, Ok}
use Rattle.std.specs.declared.option.Option.{Option}
use Rattle.std.specs.List.{AllByRecursion}
use Rattle.tptp_base.specs.Store.{Files, file_at}
use Rattle.tptp_base.specs.declared.item.Item.{Item}
use Rattle.fof_terms.specs.Vocabulary.{Vocabulary}
use Rattle.include_resolve.specs.declared.problem.Problem.{Problem}
use Rattle.include_resolve.specs.Resolved.{Resolves}
use Rattle.sort_check.specs.declared.line.GivenEntry.{GivenEntry}
use Rattle.sort_check.specs.declared.line.Line.{Line}
use Rattle.sort_check.specs.Given.{given_entries}
use Rattle.sort_check.specs.Texts.{denoted}
use Rattle.fi_model.specs.Interpretations.{Interpretation, True}
use Rattle.fi_model.specs.Models.{ModelOf}
use Rattle.read_problems.specs.Denoted.{first_vocabulary}
use Rattle.tptp_commands.specs.Modelled.{SpellsModel}
use Rattle.tptp_commands.specs.Refuted.{IsInBudget}
use Rattle.sort_check.specs.declared.line.TextKind.TheVariants as kind

-- The problem resolves and denotes; the file has the text of a model of its signature, within the limits; and each
-- formula that the problem gives is true in the model, the conjecture denied.
pub record IsModelled (files : Files) (root : Option (List ℕ)) (problem file : List ℕ) : Type 0 where
  pub whole : Problem
  pub resolves : Resolves (Some files) root problem (Ok whole)
  pub lines : List Line
  pub v : Vocabulary
  pub denotes : denoted whole.items first_vocabulary kind.Problem ≡ Ok (lines, v)
  pub text : List ℕ
  pub there : file_at files file ≡ Some text
  pub fits : IsInBudget whole.read (length text)
  pub items : List Item
  pub spells : SpellsModel text items
  pub m : Interpretation
  pub model : ModelOf items v m
  pub all_true : AllByRecursion (λ (entry : GivenEntry). True m entry.form) (given_entries lines)
