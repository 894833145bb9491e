-- What a search says of a step: entries that derive the line by a refutation of the clauses of the step, or how it ended
-- without one (Bachmair and Ganzinger, Resolution theorem proving, of saturation up to redundancy).
use Rattle.std.specs.Prelude.{ℕ, ◌≡◌, true, false, List, length}
use Rattle.fof_terms.specs.Vocabulary.{Vocabulary}
use Rattle.fof_terms.specs.declared.form.Form.{Form}
use Rattle.clause_form.specs.Paths.{forms_of}
use Rattle.clause_form.specs.declared.clause.Clause.{Clause}
use Rattle.clause_form.specs.declared.path.Parent.{Parent}
use Rattle.kernel.specs.Statements.{Statements}
use Rattle.saturation.specs.Ends.{IsDry, IsFull, IsHeavy, IsRefuted}
use Rattle.input_proofs.specs.Functions.{searched_clauses, searched_vocabulary}
use Rattle.search_proofs.specs.Searched.{IsSearchedFrom}
use Rattle.step_clauses.specs.Wide.{is_wide}
use Rattle.step_search.specs.declared.outcome.Searched.{Searched}
use Rattle.step_search.specs.declared.outcome.Searched.TheVariants.{Refuted, Dry, Full, Heavy, Wide}

-- The step is not wide, and some list of clauses ends the search of its clauses so.
pub record HasList (v : Vocabulary) (parents : List Parent) (line : Form) (Ends : Vocabulary → List Clause → List Clause → Type 0) : Type 0 where
  pub narrow : is_wide (length v.symbols) (forms_of parents) line ≡ false
  pub list : List Clause
  pub ends : Ends (searched_vocabulary v parents line) (searched_clauses v parents line) list

-- an input or an inference of the list, which has at most so many members, is empty
abbrev pub IsRefutation : ℕ → Vocabulary → List Clause → List Clause → Type 0
IsRefutation limit v inputs list = (empty : Clause) × IsRefuted v inputs limit list empty

-- what a search under the limit says of the step
abbrev pub IsSearched : Statements → List Parent → Form → ℕ → Searched → Type 0
IsSearched t parents line limit (Refuted entries) = HasList t.vocabulary parents line (IsRefutation limit) × IsSearchedFrom t parents entries line
IsSearched t parents line limit Dry = HasList t.vocabulary parents line (λ v inputs list. IsDry v inputs limit list)
IsSearched t parents line limit Full = HasList t.vocabulary parents line (λ v inputs list. IsFull v inputs limit list)
IsSearched t parents line limit Heavy = HasList t.vocabulary parents line (λ v inputs list. IsHeavy v inputs limit list)
IsSearched t parents line limit Wide = is_wide (length t.vocabulary.symbols) (forms_of parents) line ≡ true
