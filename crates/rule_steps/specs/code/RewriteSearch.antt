-- How far the search for a rewriting has come.
use Rattle.std.specs.Prelude.{ℕ, Bool, ◌≡◌, List, Option, Some, None, slice_get}
use Rattle.fof_terms.specs.Vocabulary.{Vocabulary}
use Rattle.fof_terms.specs.declared.term.Term.{Term}
use Rattle.clause_form.specs.declared.clause.Lit.{Lit}
use Rattle.clause_form.specs.declared.clause.Clause.{Clause}
use Rattle.clause_form.specs.Covers.{scope_of}
use Rattle.clause_rules.specs.declared.just.Just.{Just}
use Rattle.clause_rules.specs.declared.just.Just.TheVariants.{Rewrite}
use Rattle.rule_steps.specs.declared.rewrite_rule.Rewriting.{Rewriting}
use Rattle.rule_steps.specs.declared.sites.Reading.{Reading}
use Rattle.rule_steps.specs.declared.sites.Site.{Site}
use Rattle.clause_rules.specs.Justified.{IsMatch}
use Rattle.clause_rules.specs.Places.{lit_term_at}
use Rattle.clause_rules.specs.RewriteRule.{Rewrites}
use Rattle.clause_rules.specs.Settled.{IsFit}
use Rattle.rule_steps.specs.code.SiteSearch.{FoundAmong}
use Rattle.clause_rules.specs.Steps.{scope_of_both, IsJoint, images_of_parents}

-- no substitutions rewrite this term
abbrev pub NoRewriting : Vocabulary → Clause → Clause → Clause → Term → Bool → Type 0
NoRewriting v into by line target flipped = (further : List ℕ) (r : ℕ → Term) (more : List ℕ) (s : ℕ → Term) → Rewrites v into by line target flipped further r more s → ⊥

-- no equation rewrites this term of the clause
abbrev pub NeverRewritten : Clause → Clause → Term → Type 0
NeverRewritten line into target = (v : Vocabulary) → IsFit v into → (by : Clause) (flipped : Bool) → NoRewriting v into by line target flipped

-- the two lists of images show the rewriting of this term
pub record IsRewriting (v : Vocabulary) (into by line : Clause) (target : Term) (flipped : Bool) (by_images images : List Term) : Type 0 where
  pub matched : IsMatch v into by by_images
  pub joint : IsJoint v line (scope_of_both into by) images
  pub rewrites : Rewrites v into by line target flipped (scope_of by) (images_of_parents into by_images) (scope_of_both into by) (images_of_parents line images)

abbrev pub SettlesRewriting : Vocabulary → Clause → Clause → Clause → Term → Bool → Option Rewriting → Type 0
SettlesRewriting v into by line target flipped None = NoRewriting v into by line target flipped
SettlesRewriting v into by line target flipped (Some found) = (found.target ≡ target) × IsRewriting v into by line target flipped found.by_subst found.subst

-- the same at a site with a reading of an equation
abbrev pub NoRewritingAt : Vocabulary → List (Option Clause) → Clause → Site → Reading → Type 0
NoRewritingAt v clauses line site reading =
    (into by : Clause) → slice_get clauses site.clause ≡ Some (Some into) → slice_get clauses reading.clause ≡ Some (Some by) → (k : Lit) (u : Term) → slice_get into.lits site.lit ≡ Some k → lit_term_at site.at k ≡ Some u → NoRewriting v into by line u reading.flipped

pub record ShowsRewritingAt (v : Vocabulary) (clauses : List (Option Clause)) (line : Clause) (a b : ℕ) (flipped : Bool) (found : Rewriting) : Type 0 where
  pub into : Clause
  pub by : Clause
  pub into_there : slice_get clauses a ≡ Some (Some into)
  pub by_there : slice_get clauses b ≡ Some (Some by)
  pub shown : IsRewriting v into by line found.target flipped found.by_subst found.subst

abbrev pub TriedRewriting : Vocabulary → List (Option Clause) → Clause → Site → Reading → Option Rewriting → Type 0
TriedRewriting v clauses line site reading None = NoRewritingAt v clauses line site reading
TriedRewriting v clauses line site reading (Some found) = ShowsRewritingAt v clauses line site.clause reading.clause reading.flipped found

pub record ShowsRewriting (v : Vocabulary) (clauses : List (Option Clause)) (line : Clause) (just : Just) : Type 0 where
  pub a : ℕ
  pub b : ℕ
  pub flipped : Bool
  pub found : Rewriting
  pub is : just ≡ Rewrite a b found.target flipped found.by_subst found.subst
  pub shown : ShowsRewritingAt v clauses line a b flipped found

abbrev pub RewritesAtSites : Vocabulary → List (Option Clause) → List Site → List Reading → Clause → Option Just → Type 0
RewritesAtSites v clauses sites readings line = FoundAmong (NoRewritingAt v clauses line) (ShowsRewriting v clauses line) sites readings
