-- Lemmas on what specs/SplitSearch defines.
use Rattle.std.specs.Prelude.{ℕ, ◌≡◌, List, map, MatchOption, Option, Some, None, slice_get}
use Rattle.fof_terms.specs.declared.term.Term.{Term}
use Rattle.fof_terms.specs.declared.form.Form.{Form}
use Rattle.fof_terms.specs.Vocabulary.{Vocabulary}
use Rattle.clause_form.specs.declared.clause.Lit.{Lit}
use Rattle.clause_form.specs.declared.clause.Clause.{Clause}
use Rattle.clause_form.specs.declared.path.Parent.{Parent}
use Rattle.clause_form.specs.ClauseView.{clause_of}
use Rattle.clause_form.specs.Covers.{scope_of, CoversBy, HasOne}
use Rattle.clause_rules.specs.Steps.{IsJoint, images_of_parents}
use Rattle.split_defs.specs.declared.just.SplitJust.{SplitJust}
use Rattle.split_defs.specs.declared.just.SplitJust.TheVariants.{Definition, Split}
use Rattle.split_defs.specs.declared.covering.Covered.{Covered}
use Rattle.split_defs.specs.SplitRule.{name_lit, Names, unfolded, SplitsAt, IsSplitStep}
use Rattle.split_defs.specs.SplitSearch.{ShowsSplit}

-- what a justification shows is the rule
pub split_holds : (v : Vocabulary) (parents : List Form) (line : Form) (just : SplitJust) → ShowsSplit v parents line just → IsSplitStep v parents line
split_holds v parents line (Definition k first) h = absurd h
split_holds v parents line (Split n names images) h = (n, names, h.0, h.1, h.2, scope_of h.1, images_of_parents (unfolded h.0 h.2) images, h.4)
