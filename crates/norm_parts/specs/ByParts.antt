-- Lines that follow part by part: each part of the line's normal form is a clause that is true by its form, or that
-- covers what a path reaches in a parent's normal form.
use Rattle.std.specs.Prelude.{◌≡◌, ◌≤◌, ◌⊎◌, true, List, [], ◌∷◌, Option, Some, None}
use Rattle.std.specs.List.{All as Each}
use Rattle.fof_terms.specs.declared.form.Form.{Form}
use Rattle.fof_terms.specs.Vocabulary.{Vocabulary}
use Rattle.clause_form.specs.declared.path.Parent.{Parent}
use Rattle.clause_form.specs.Norm.{norm_of}
use Rattle.clause_form.specs.Sizes.{norm_size_of}
use Rattle.clause_rules.specs.declared.just.Just.{Just}
use Rattle.clause_rules.specs.Answers.{cover, tautology, rule_of}
use Rattle.clause_rules.specs.CoverRule.{IsCoverStep}
use Rattle.clause_rules.specs.Justified.{Shows}
use Rattle.clause_rules.specs.TautologyRule.{IsTautologyStep}
use Rattle.norm_parts.specs.Parts.{parts_of}

-- the part is a clause that is true by its form, or one that the rule `cover` gives from a parent
abbrev pub IsGivenPart : Vocabulary → List Parent → Form → Type 0
IsGivenPart v parents part = IsTautologyStep part ⊎ IsCoverStep v parents part

-- each part of the line's normal form is given; a formula whose norm size is over 100,000 has none, be it the line or a
-- parent
pub record ByParts (v : Vocabulary) (parents : List Parent) (line : Form) : Type 0 where
  pub small : norm_size_of line ≤ 100000
  pub parts : Each (IsGivenPart v parents) (parts_of (norm_of true line))

-- the justification by one of these two rules shows the part
abbrev pub IsShownPart : Vocabulary → List Parent → Form → Just → Type 0
IsShownPart v parents part just = Shows v parents part just × ((rule_of just ≡ tautology) ⊎ (rule_of just ≡ cover))

-- the same of each part, by the justification at its place
abbrev pub AreShownParts : Vocabulary → List Parent → List Form → List Just → Type 0
AreShownParts v parents [] [] = Unit {0}
AreShownParts v parents [] (just ∷ justs) = ⊥
AreShownParts v parents (part ∷ parts) [] = ⊥
AreShownParts v parents (part ∷ parts) (just ∷ justs) = IsShownPart v parents part just × AreShownParts v parents parts justs

-- what shows each part of a line that follows part by part, or none
abbrev pub IsByParts : Vocabulary → List Parent → Form → Option (List Just) → Type 0
IsByParts v parents line None = ByParts v parents line → ⊥
IsByParts v parents line (Some justs) = ByParts v parents line × AreShownParts v parents (parts_of (norm_of true line)) justs
