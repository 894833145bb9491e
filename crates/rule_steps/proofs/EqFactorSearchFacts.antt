-- Lemmas on what specs/code/EqFactorSearch defines.
use Rattle.std.specs.Prelude.{ℕ, Bool, ◌≡◌, List, [], ◌∷◌, Option, Some, None, slice_get, slice_set}
use Rattle.fof_terms.specs.declared.term.Term.{Term}
use Rattle.fof_terms.specs.Vocabulary.{Vocabulary}
use Rattle.clause_form.specs.declared.clause.Lit.{Lit}
use Rattle.clause_form.specs.declared.clause.Clause.{Clause}
use Rattle.clause_form.specs.Covers.{scope_of}
use Rattle.unify_terms.specs.declared.pair.Pair.{Pair}
use Rattle.clause_rules.specs.declared.just.Just.{Just}
use Rattle.clause_rules.specs.declared.just.Just.TheVariants.{EqFactor}
use Rattle.rule_steps.specs.declared.eqfactor_rule.Factor.{Factor}
use Rattle.rule_steps.specs.declared.sides.Sides.{Sides}
use Rattle.clause_rules.specs.EqFactorRule.{Factors}
use Rattle.clause_rules.specs.Steps.{equation, unequal, IsJoint, images_of_parents}
use Rattle.clause_rules.specs.Ways.{pair_of, cover_needs}

-- what is asked of a substitution: the first sides become equal, and with the second ones denied to be equal in place
-- of literal i, all literals are covered
abbrev pub factor_needs : List Lit → List Lit → ℕ → Term → Term → Term → Term → List (List (List Pair))
factor_needs line lits i s u t w = ((pair_of s u ∷ []) ∷ []) ∷ cover_needs line (slice_set lits i (unequal t w))
