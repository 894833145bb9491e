-- The formulas that a problem gives, as those of a step from all of them to falsehood: its clauses, its functions, its
-- room and its width are theirs.
use Rattle.std.specs.Prelude.{Bool, List, [], length, map}
use Rattle.fof_terms.specs.Vocabulary.{Vocabulary}
use Rattle.fof_terms.specs.declared.form.Form.{Form, Or}
use Rattle.sort_check.specs.declared.line.GivenEntry.{GivenEntry}
use Rattle.clause_form.specs.Paths.{forms_of}
use Rattle.clause_form.specs.declared.clause.Clause.{Clause}
use Rattle.clause_form.specs.declared.path.Parent.{Parent}
use Rattle.step_clauses.specs.Room.{HasRoom}
use Rattle.step_clauses.specs.Wide.{is_wide}
use Rattle.input_proofs.specs.Functions.{searched_clauses, searched_vocabulary}

abbrev pub falsehood : Form
falsehood = Or []

-- the given formulas, without numbers of their own
abbrev pub parent_of : GivenEntry → Parent
parent_of g = record { number = 0; form = g.form }

abbrev pub parents_of : List GivenEntry → List Parent
parents_of given = map parent_of given

-- beside the symbols there is room for one more for each existential quantifier of the given formulas' normal forms
abbrev pub HasSymbols : Vocabulary → List GivenEntry → Type 0
HasSymbols v given = HasRoom (length v.symbols) (forms_of (parents_of given)) falsehood

-- a given formula has no normal form, or there are too many clauses, or one of them is too heavy
abbrev pub is_too_wide : Vocabulary → List GivenEntry → Bool
is_too_wide v given = is_wide (length v.symbols) (forms_of (parents_of given)) falsehood

-- the clauses of the given formulas, over the vocabulary with their functions
abbrev pub clauses_of_given : Vocabulary → List GivenEntry → List Clause
clauses_of_given v given = searched_clauses v (parents_of given) falsehood

abbrev pub with_functions : Vocabulary → List GivenEntry → Vocabulary
with_functions v given = searched_vocabulary v (parents_of given) falsehood
