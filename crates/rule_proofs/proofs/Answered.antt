-- What an answer shows, and its rule.
use Rattle.std.specs.Prelude.{◌≡◌, List, Option, Some}
use Rattle.std.proofs.Common.{subst}
use Rattle.fof_terms.specs.Vocabulary.{Vocabulary}
use Rattle.fof_terms.specs.declared.form.Form.{Form}
use Rattle.clause_form.specs.declared.path.Parent.{Parent}
use Rattle.clause_rules.specs.Answers.{IsAnswer, ShapeRule, rule_of}
use Rattle.clause_rules.specs.Justified.{Shows}
use Rattle.clause_rules.specs.declared.just.Just.{Just}

pub answer_shows : (v : Vocabulary) (parents : List Parent) (line : Form) (rule : ShapeRule) (answer : Option Just) (just : Just) → answer ≡ Some just → IsAnswer v parents line rule answer → (rule_of just ≡ rule) × Shows v parents line just
answer_shows v parents line rule answer just is a = subst (IsAnswer v parents line rule) is a
