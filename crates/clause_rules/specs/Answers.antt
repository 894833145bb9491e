-- What an answer says: that a justification by the rule shows the step, or that the rule gives none.
use Rattle.std.specs.Prelude.{ℕ, ◌≡◌, ◌<◌, List, Option, Some, None}
use Rattle.fof_terms.specs.declared.form.Form.{Form}
use Rattle.fof_terms.specs.Vocabulary.{Vocabulary}
use Rattle.clause_form.specs.declared.path.Parent.{Parent}
use Rattle.clause_rules.specs.declared.just.Just.{Just}
use Rattle.clause_rules.specs.declared.just.Just.TheVariants.{Norm, Cover, Tautology, Resolution, Paramodulation}
use Rattle.clause_rules.specs.declared.just.Just.TheVariants.{EqFactor, Rewrite}
use Rattle.clause_rules.specs.CoverRule.{IsCoverStep}
use Rattle.clause_rules.specs.EqFactorRule.{IsEqFactorStep}
use Rattle.clause_rules.specs.Justified.{Shows}
use Rattle.clause_rules.specs.NormRule.{IsNormStep}
use Rattle.clause_rules.specs.ParamodulationRule.{IsParamodulationStep}
use Rattle.clause_rules.specs.ResolutionRule.{IsResolutionStep}
use Rattle.clause_rules.specs.RewriteRule.{IsRewriteStep}
use Rattle.clause_rules.specs.TautologyRule.{IsTautologyStep}

-- the seven rules, in the order in which they are tried
pub data ShapeRule : Type 0 where
  norm : ShapeRule
  cover : ShapeRule
  tautology : ShapeRule
  resolution : ShapeRule
  paramodulation : ShapeRule
  eqfactor : ShapeRule
  rewrite : ShapeRule

-- the rule of a justification
abbrev pub rule_of : Just → ShapeRule
rule_of (Norm a) = norm
rule_of (Cover a path images) = cover
rule_of Tautology = tautology
rule_of (Resolution a b i j images) = resolution
rule_of (Paramodulation a b i place j flipped images) = paramodulation
rule_of (EqFactor a i first_flipped j second_flipped images) = eqfactor
rule_of (Rewrite a b target flipped by_images images) = rewrite

-- the rule gives the line from the parents
abbrev pub Holds : Vocabulary → List Parent → Form → ShapeRule → Type 0
Holds v parents line norm = IsNormStep parents line
Holds v parents line cover = IsCoverStep v parents line
Holds v parents line tautology = IsTautologyStep line
Holds v parents line resolution = IsResolutionStep v parents line
Holds v parents line paramodulation = IsParamodulationStep v parents line
Holds v parents line eqfactor = IsEqFactorStep v parents line
Holds v parents line rewrite = IsRewriteStep v parents line

-- a justification by this rule that shows the step, or none exactly where the rule does not hold
abbrev pub IsAnswer : Vocabulary → List Parent → Form → ShapeRule → Option Just → Type 0
IsAnswer v parents line rule None = Holds v parents line rule → ⊥
IsAnswer v parents line rule (Some just) = (rule_of just ≡ rule) × Shows v parents line just

-- the place of a rule in the order in which they are tried
abbrev pub place_of : ShapeRule → ℕ
place_of norm = 0
place_of cover = 1
place_of tautology = 2
place_of resolution = 3
place_of paramodulation = 4
place_of eqfactor = 5
place_of rewrite = 6

-- a justification that shows the step, by the first rule that holds, or none exactly where no rule does
abbrev pub IsFirst : Vocabulary → List Parent → Form → Option Just → Type 0
IsFirst v parents line None = (rule : ShapeRule) → Holds v parents line rule → ⊥
IsFirst v parents line (Some just) = Shows v parents line just × ((rule : ShapeRule) → place_of rule < place_of (rule_of just) → Holds v parents line rule → ⊥)
