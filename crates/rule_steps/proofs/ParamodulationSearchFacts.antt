-- Lemmas on what specs/code/ParamodulationSearch defines.
use Rattle.std.specs.Prelude.{ℕ, Bool, true, false, ◌≡◌, List, [], ◌∷◌, ◌++◌, remove, Option, Some, None, slice_get, slice_set}
use Rattle.fof_terms.specs.Vocabulary.{Vocabulary}
use Rattle.fof_terms.specs.declared.term.Term.{Term}
use Rattle.clause_form.specs.declared.clause.AtomOf.{AtomOf}
use Rattle.clause_form.specs.declared.clause.AtomOf.TheVariants.{Pred, Eq, True, False}
use Rattle.clause_form.specs.declared.clause.Lit.{Lit}
use Rattle.clause_form.specs.declared.clause.Clause.{Clause}
use Rattle.unify_terms.specs.declared.pair.Pair.{Pair}
use Rattle.clause_rules.specs.declared.just.Just.{Just}
use Rattle.clause_rules.specs.declared.just.Just.TheVariants.{Paramodulation}
use Rattle.rule_steps.specs.declared.sides.Sides.{Sides}
use Rattle.rule_steps.specs.declared.sites.Reading.{Reading}
use Rattle.rule_steps.specs.declared.sites.Site.{Site}
use Rattle.rule_steps.specs.declared.sites.Spot.{Spot}
use Rattle.clause_rules.specs.ParamodulationRule.{Paramodulates}
use Rattle.clause_rules.specs.Places.{lit_term_at, lit_put_at}
use Rattle.clause_rules.specs.PlaceSearch.{places_of}
use Rattle.clause_rules.specs.Settled.{IsFit}
use Rattle.clause_rules.specs.Steps.{scope_of_both, equation, IsJoint, images_of_parents}
use Rattle.clause_rules.specs.Ways.{pair_of, cover_needs}
use Rattle.std.proofs.Common.{suc}

-- what is asked of a substitution: the term at the place and the left side become equal, and with the right side at the
-- place all literals but the equation are covered
abbrev pub paramodulation_needs : List Lit → List Lit → List Lit → ℕ → List ℕ → Lit → Term → Term → Term → ℕ → List (List (List Pair))
paramodulation_needs line into from i place k u l r j = ((pair_of u l ∷ []) ∷ []) ∷ cover_needs line (slice_set into i (lit_put_at place r k) ++ remove from j)
