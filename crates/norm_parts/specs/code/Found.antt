-- What shows a part, as code finds it.
use Rattle.std.specs.Prelude.{List, Option, Some, None}
use Rattle.fof_terms.specs.declared.form.Form.{Form}
use Rattle.fof_terms.specs.Vocabulary.{Vocabulary}
use Rattle.clause_form.specs.declared.path.Parent.{Parent}
use Rattle.clause_rules.specs.CoverRule.{IsCoverStep}
use Rattle.norm_parts.specs.declared.deciding.Found.{Found}
use Rattle.norm_parts.specs.ByParts.{IsGivenPart, IsShownPart}

-- what shows the part, or none where it is not given
abbrev pub IsFound : Vocabulary → List Parent → Form → Option Found → Type 0
IsFound v parents part None = IsGivenPart v parents part → ⊥
IsFound v parents part (Some found) = IsShownPart v parents part found.just

-- what shows the part, or none where the rule `cover` does not give it
abbrev pub IsCovered : Vocabulary → List Parent → Form → Option Found → Type 0
IsCovered v parents part None = IsCoverStep v parents part → ⊥
IsCovered v parents part (Some found) = IsShownPart v parents part found.just
