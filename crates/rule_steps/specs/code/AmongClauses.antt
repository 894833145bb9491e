-- What the rules answer that go by the clauses of parents.
use Rattle.std.specs.Prelude.{◌≡◌, Bool, true, false, List, Option, Some}
use Rattle.fof_terms.specs.declared.form.Form.{Form}
use Rattle.clause_form.specs.declared.path.Parent.{Parent}
use Rattle.clause_form.specs.ClauseView.{clause_of}
use Rattle.clause_rules.specs.declared.just.Just.{Just}
use Rattle.rule_steps.specs.declared.search.Search.{Search}
use Rattle.clause_rules.specs.Answers.{ShapeRule, norm, cover, tautology, resolution, paramodulation, eqfactor, rewrite, IsAnswer}
use Rattle.clause_rules.specs.Steps.{clauses_of}

-- whether all lines that the rule gives are clauses
abbrev pub gives_clauses : ShapeRule → Bool
gives_clauses norm = false
gives_clauses cover = true
gives_clauses tautology = true
gives_clauses resolution = true
gives_clauses paramodulation = true
gives_clauses eqfactor = true
gives_clauses rewrite = true

-- the answer by the rule for all parents and every line of which the search has the clauses
abbrev pub AnswersBy : ShapeRule → Search → Option Just → Type 0
AnswersBy rule search found = (parents : List Parent) (form : Form) → search.clauses.now ≡ clauses_of parents → clause_of form ≡ Some search.line.now → IsAnswer search.sig.now parents form rule found
