-- What a search for a covering ends with.
use Rattle.std.specs.Prelude.{ℕ, ◌≡◌, ◌≤◌, true, List, Option, Some, None, slice_get}
use Rattle.fof_terms.specs.declared.term.Term.{Term}
use Rattle.fof_terms.specs.declared.form.Form.{Form}
use Rattle.fof_terms.specs.Vocabulary.{Vocabulary}
use Rattle.clause_form.specs.declared.clause.Clause.{Clause}
use Rattle.clause_form.specs.declared.path.Parent.{Parent}
use Rattle.clause_form.specs.declared.path.Path.{Path}
use Rattle.clause_form.specs.Covers.{scope_of, CoversBy}
use Rattle.clause_form.specs.Norm.{norm_of}
use Rattle.clause_form.specs.Paths.{reached}
use Rattle.clause_form.specs.Sizes.{norm_size_of}
use Rattle.rule_steps.specs.declared.cover_rule.Covering.{Covering}
use Rattle.clause_rules.specs.declared.just.Just.{Just}
use Rattle.clause_rules.specs.declared.just.Just.TheVariants.{Cover}
use Rattle.substitution_search.specs.declared.taking.Reached.{Reached}
use Rattle.clause_rules.specs.Steps.{IsJoint, images_of_parents}

-- the images cover by the line what the path reaches in the normal form
pub record ShowsCover (v : Vocabulary) (norm : Form) (line : Clause) (path : Path) (images : List Term) : Type 0 where
  pub clause : Clause
  pub reaches : reached path norm ≡ Some clause
  pub joint : IsJoint v line (scope_of clause) images
  pub covers : CoversBy v (scope_of clause) clause.lits line (scope_of clause) (images_of_parents line images)

-- no path and substitution do
abbrev pub NoCover : Vocabulary → Form → Clause → Type 0
NoCover v norm line = (path : Path) (c : Clause) (more : List ℕ) (s : ℕ → Term) → reached path norm ≡ Some c → CoversBy v (scope_of c) c.lits line more s → ⊥

abbrev pub FoundCover : Vocabulary → Form → Clause → Option Covering → Type 0
FoundCover v norm line None = NoCover v norm line
FoundCover v norm line (Some covering) = ShowsCover v norm line covering.path covering.subst

-- the same of a formula, which has a normal form if its norm size is small enough
abbrev pub FoundInForm : Vocabulary → Form → Clause → Option Covering → Type 0
FoundInForm v form line None = norm_size_of form ≤ 100000 → NoCover v (norm_of true form) line
FoundInForm v form line (Some covering) = (norm_size_of form ≤ 100000) × ShowsCover v (norm_of true form) line covering.path covering.subst

-- a parent of that number has none
abbrev pub NoCoverAt : Vocabulary → List Parent → Clause → ℕ → Type 0
NoCoverAt v parents line a = (parent : Parent) → slice_get parents a ≡ Some parent → norm_size_of parent.form ≤ 100000 → NoCover v (norm_of true parent.form) line

pub record ShowsCoverAt (v : Vocabulary) (parents : List Parent) (line : Clause) (just : Just) : Type 0 where
  pub a : ℕ
  pub parent : Parent
  pub covering : Covering
  pub is : just ≡ Cover a covering.path covering.subst
  pub there : slice_get parents a ≡ Some parent
  pub small : norm_size_of parent.form ≤ 100000
  pub shown : ShowsCover v (norm_of true parent.form) line covering.path covering.subst

abbrev pub FoundCoverAmong : Vocabulary → List Parent → Clause → Option Just → Type 0
FoundCoverAmong v parents line None = (a : ℕ) → NoCoverAt v parents line a
FoundCoverAmong v parents line (Some just) = ShowsCoverAt v parents line just

-- what was reached is covered, or no substitution covers it
abbrev pub SettlesReached : Vocabulary → Clause → Reached → Option Covering → Type 0
SettlesReached v line found None = (more : List ℕ) (s : ℕ → Term) → CoversBy v (scope_of found.clause) found.clause.lits line more s → ⊥
SettlesReached v line found (Some covering) =
    (covering.path ≡ found.path) × IsJoint v line (scope_of found.clause) covering.subst × CoversBy v (scope_of found.clause) found.clause.lits line (scope_of found.clause) (images_of_parents line covering.subst)
