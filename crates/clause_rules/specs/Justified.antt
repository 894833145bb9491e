-- What a justification shows, rule by rule: the numbers, places and substitutions that it has are those of the rule.
use Rattle.std.specs.Prelude.{List}
use Rattle.fof_terms.specs.declared.term.Term.{Term}
use Rattle.fof_terms.specs.declared.form.Form.{Form}
use Rattle.fof_terms.specs.Vocabulary.{Vocabulary}
use Rattle.clause_form.specs.declared.path.Parent.{Parent}
use Rattle.clause_form.specs.declared.clause.Clause.{Clause}
use Rattle.clause_form.specs.Covers.{scope_of}
use Rattle.clause_rules.specs.declared.just.Just.{Just}
use Rattle.clause_rules.specs.declared.just.Just.TheVariants.{Norm, Cover, Tautology, Resolution, Paramodulation}
use Rattle.clause_rules.specs.declared.just.Just.TheVariants.{EqFactor, Rewrite}
use Rattle.clause_rules.specs.Steps.{scope_of_both, IsJoint, images_of_parents}
use Rattle.clause_rules.specs.NormRule.{HasLinesFlat}
use Rattle.clause_rules.specs.CoverRule.{CoversReached}
use Rattle.clause_rules.specs.TautologyRule.{IsTautologyStep}
use Rattle.clause_rules.specs.ResolutionRule.{ResolvesAt}
use Rattle.clause_rules.specs.ParamodulationRule.{ParamodulatesAt}
use Rattle.clause_rules.specs.EqFactorRule.{FactorsAt}
use Rattle.clause_rules.specs.RewriteRule.{RewritesAt}

-- one list of images for the variables of a clause, which stand for themselves, and then for those of an equation
abbrev pub IsMatch : Vocabulary → Clause → Clause → List Term → Type 0
IsMatch v into by images = IsJoint v into (scope_of by) images

-- the justification shows that its rule gives the line from the parents
abbrev pub Shows : Vocabulary → List Parent → Form → Just → Type 0
Shows v parents line (Norm a) = HasLinesFlat parents line a
Shows v parents line (Cover a path images) =
    (c e : Clause) × IsJoint v e (scope_of c) images × CoversReached v parents line a path c e (scope_of c) (images_of_parents e images)
Shows v parents line Tautology = IsTautologyStep line
Shows v parents line (Resolution a b i j images) =
    (c d e : Clause) × IsJoint v e (scope_of_both c d) images × ResolvesAt v parents line a b i j c d e (scope_of_both c d) (images_of_parents e images)
Shows v parents line (Paramodulation a b i place j flipped images) =
    (c d e : Clause) × IsJoint v e (scope_of_both c d) images × ParamodulatesAt v parents line a b i place j flipped c d e (scope_of_both c d) (images_of_parents e images)
Shows v parents line (EqFactor a i first_flipped j second_flipped images) =
    (c e : Clause) × IsJoint v e (scope_of c) images × FactorsAt v parents line a i first_flipped j second_flipped c e (scope_of c) (images_of_parents e images)
Shows v parents line (Rewrite a b target flipped by_images images) =
    (c d e : Clause) × IsMatch v c d by_images × IsJoint v e (scope_of_both c d) images × RewritesAt v parents line a b target flipped c d e (scope_of d) (images_of_parents c by_images) (scope_of_both c d) (images_of_parents e images)
