-- The clause that a path reaches, and the line that is this clause as it is printed.
use Rattle.std.specs.Prelude.{ℕ, ◌≡◌, ◌≤◌, true, List, [], ◌++◌, Some, slice_get, refl}
use Rattle.std.proofs.Common.{ap, subst, ◌∙◌, append-nil, inl}
use Rattle.fof_terms.specs.declared.term.Term.{Term}
use Rattle.fof_terms.specs.Vocabulary.{Vocabulary}
use Rattle.clause_form.specs.declared.path.Parent.{Parent}
use Rattle.clause_form.specs.declared.path.Path.{Path}
use Rattle.clause_form.specs.declared.clause.Lit.{Lit}
use Rattle.clause_form.specs.declared.clause.Clause.{Clause}
use Rattle.clause_form.specs.ClauseView.{closed, IsLoneFalsehood}
use Rattle.clause_form.specs.ClauseWays.{IsIn}
use Rattle.clause_form.specs.Clauses.{clauses_in}
use Rattle.clause_form.specs.Covers.{lit_image, scope_of, CoversBy}
use Rattle.clause_form.specs.Images.{IsImages}
use Rattle.clause_form.specs.Norm.{norm_of}
use Rattle.clause_form.specs.Sizes.{norm_size_of}
use Rattle.clause_form.proofs.ClauseWaysFacts.{listed_is_reached}
use Rattle.clause_form.proofs.ViewLaws.{closed_view}
use Rattle.clause_rules.specs.CoverRule.{IsCoverStep, ReachesClause}
use Rattle.clause_rules.proofs.ListPlaces.{get_lifted}
use Rattle.printed_clauses.specs.Trimmed.{trimmed}
use Rattle.printed_steps.specs.Carried.{HasItsVariables}
use Rattle.printed_steps.proofs.Lines.{trimmed_proper}
use Rattle.printed_steps.proofs.Trimming.{line_images, line_trimmed, line_variable}

module _ (v : Vocabulary) (c : Clause) (own : HasItsVariables c) where
  abbrev to_kept : ℕ → Term
  to_kept = line_variable v c [] own

  covers_trimmed : CoversBy v (scope_of c) c.lits (trimmed c) (scope_of c ++ []) to_kept
  covers_trimmed = record {
    images = subst (λ (from : List ℕ). IsImages v from (scope_of (trimmed c) ++ (scope_of c ++ [])) to_kept) (append-nil (scope_of c)) (line_images v c [] own);
    covered = λ i k at. inl (i, lit_image to_kept k, ap (λ (ls : List Lit). slice_get ls i) (line_trimmed v c [] own) ∙ get_lifted (lit_image to_kept) c.lits i k at, inl refl);
  }

  pub reached_covered : (parents : List Parent) (a : ℕ) (path : Path) → ReachesClause parents a path c → (IsLoneFalsehood c → ⊥) → IsCoverStep v parents (closed (trimmed c))
  reached_covered parents a path reaches proper = (
    a,
    path,
    c,
    trimmed c,
    scope_of c ++ [],
    to_kept,
    record { reaches = reaches; line_clause = closed_view (trimmed c) (trimmed_proper c proper); covers = covers_trimmed },
  )

  pub listed_covered : (parents : List Parent) (a : ℕ) (p : Parent) → slice_get parents a ≡ Some p → norm_size_of p.form ≤ 100000 → IsIn c (clauses_in (norm_of true p.form)) → (IsLoneFalsehood c → ⊥) → IsCoverStep v parents (closed (trimmed c))
  listed_covered parents a p there small listed proper =
      let way = listed_is_reached (norm_of true p.form) c listed in
      reached_covered parents a way.0 (record { parent = p; there = there; small = small; clause = way.1 }) proper
