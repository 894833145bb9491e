-- How far the search for a split has come: at the names, and at the parent that is covered.
use Rattle.std.specs.Prelude.{List}
use Rattle.fof_terms.specs.declared.form.Form.{Form}
use Rattle.fof_terms.specs.Vocabulary.{Vocabulary}
use Rattle.clause_form.specs.declared.clause.Clause.{Clause}
use Rattle.clause_form.specs.Covers.{scope_of}
use Rattle.clause_rules.specs.Steps.{IsJoint, images_of_parents}
use Rattle.split_defs.specs.declared.just.SplitJust.{SplitJust}
use Rattle.split_defs.specs.declared.just.SplitJust.TheVariants.{Definition, Split}
use Rattle.split_defs.specs.SplitRule.{unfolded, SplitsAt}

-- the justification shows that the line is a split of a parent
abbrev pub ShowsSplit : Vocabulary → List Form → Form → SplitJust → Type 0
ShowsSplit v parents line (Definition k first) = ⊥
ShowsSplit v parents line (Split n names images) =
    (e c : Clause) × (ds : List Clause) × IsJoint v (unfolded e ds) (scope_of c) images × SplitsAt v parents line n names e c ds (scope_of c) (images_of_parents (unfolded e ds) images)
