-- The functions of a line with which a parent's normal form may give it.
use Rattle.std.specs.Prelude.{ℕ, ◌<◌, ◌⊎◌, true, List, [], length, Option, Some, None}
use Rattle.fof_terms.specs.declared.form.Form.{Form}
use Rattle.fof_terms.specs.Vocabulary.{Vocabulary}
use Rattle.clause_form.specs.Norm.{norm_of}
use Rattle.clause_form.specs.Sizes.{norm_size_of}
use Rattle.kernel.specs.Statements.{Statements}
use Rattle.function_choices.specs.declared.atoms.Placed.{Placed}
use Rattle.function_choices.specs.declared.choice.Choice.{Choice}
use Rattle.function_choices.specs.Atoms.{atoms_at}
use Rattle.function_choices.specs.Choices.{IsChosen, IsRefused}
use Rattle.function_choices.specs.NewSymbols.{AreNewSymbols}

-- These functions are chosen among the symbols for the parent's normal form, and this is what it is with them. Or there
-- is no choice: the parent has no normal form, or none of the symbols may stand for some variable.
abbrev pub IsChoiceBy : Vocabulary → List Placed → List ℕ → Form → Option Choice → Type 0
IsChoiceBy v atoms fs parent (Some c) = IsChosen v atoms fs [] [] (norm_of true parent) c.uses c.form
IsChoiceBy v atoms fs parent None = (100000 < norm_size_of parent) ⊎ IsRefused v atoms fs [] [] (norm_of true parent)

-- the same by new symbols of the line; and there is no choice where the line has more than 10,000 atoms
abbrev pub IsChoice : Statements → Form → Form → Option Choice → Type 0
IsChoice t parent line (Some c) = (fs : List ℕ) × AreNewSymbols t line fs × IsChoiceBy t.vocabulary (atoms_at 0 line) fs parent (Some c)
IsChoice t parent line None = (10000 < length (atoms_at 0 line)) ⊎ ((fs : List ℕ) × AreNewSymbols t line fs × IsChoiceBy t.vocabulary (atoms_at 0 line) fs parent None)
