-- What is found by the rules behind some of them.
use Rattle.std.specs.Prelude.{ℕ, ◌≡◌, ◌<◌, List, Option, Some}
use Rattle.fof_terms.specs.Vocabulary.{Vocabulary}
use Rattle.fof_terms.specs.declared.form.Form.{Form}
use Rattle.clause_form.specs.declared.clause.Clause.{Clause}
use Rattle.clause_form.specs.declared.path.Parent.{Parent}
use Rattle.clause_form.specs.ClauseView.{clause_of}
use Rattle.clause_rules.specs.declared.just.Just.{Just}
use Rattle.clause_rules.specs.Answers.{ShapeRule, Holds, IsFirst, place_of}

-- no rule before that place gives the line
abbrev pub NoneBefore : Vocabulary → List Parent → Form → ℕ → Type 0
NoneBefore v parents line n = (rule : ShapeRule) → place_of rule < n → Holds v parents line rule → ⊥

-- the answer for every line that is this clause, and that no rule before that place gives
abbrev pub IsFirstAfter : Vocabulary → List Parent → Clause → ℕ → Option Just → Type 0
IsFirstAfter v parents clause n answer = (line : Form) → clause_of line ≡ Some clause → NoneBefore v parents line n → IsFirst v parents line answer
