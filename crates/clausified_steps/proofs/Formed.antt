-- The parent's normal form with functions that a guess shows.
use Rattle.std.specs.Prelude.{ℕ, zero, suc, ◌≡◌, ◌+◌, ◌≤◌, true, List, [], ◌∷◌, slice_get, Some, refl}
use Rattle.std.proofs.Common.{sym, subst, ◌∙◌, arith}
use Rattle.fof_terms.specs.declared.form.Form.{Form}
use Rattle.fof_terms.specs.Sorts.{binder_depth}
use Rattle.fof_terms.specs.Vocabulary.{Vocabulary}
use Rattle.clause_form.specs.Norm.{norm_of, HasNorm}
use Rattle.clause_form.specs.Paths.{forms_of}
use Rattle.clause_form.specs.Sizes.{norm_size_of}
use Rattle.clause_form.specs.declared.path.Parent.{Parent}
use Rattle.clause_form.proofs.NormSize.{norm_small}
use Rattle.clause_rules.specs.Steps.{IsReady}
use Rattle.kernel.specs.Statements.{Statements}
use Rattle.skolem_fresh.specs.declared.just.Use.{Use}
use Rattle.skolem_fresh.specs.declared.just.SkolemJust.{SkolemJust}
use Rattle.skolem_fresh.specs.declared.just.SkolemJust.TheVariants.{Skolem}
use Rattle.skolem_fresh.specs.Choosing.{IsWithin}
use Rattle.skolem_fresh.specs.Justified.{ShowsSkolem}
use Rattle.skolem_fresh.specs.SkolemRule.{IsSkolemized, Skolemizes}
use Rattle.skolem_fresh.proofs.Skolemized.{depth_kept}
use Rattle.skolem_fresh.proofs.SkolemSteps.{norm_within}
use Rattle.skolem_proofs.specs.declared.whole.Skolemized.{Skolemized}
use Rattle.skolem_proofs.specs.Choosing.{IsWitnessedBy}
use Rattle.skolem_proofs.proofs.Standing.{fits_kept, no_larger}
use Rattle.clausified_steps.specs.code.Forms.{IsFormBy, IsGuessed}

-- what a justification shows of a parent alone
one_form : (a b : Form) (i : ℕ) → slice_get (a ∷ []) i ≡ Some b → b ≡ a
one_form a b zero e = cc
one_form a b (suc i) e = absurd (cc)

of_only : (t : Statements) (p : Parent) (guess : Form) (place : ℕ) (uses : List Use) → ShowsSkolem t (p.form ∷ []) guess (Skolem place uses) → IsGuessed t p.form guess uses
of_only t p guess place uses h = record {
  norm = h.1;
  result = h.2;
  shown = subst (λ a. Skolemizes t a guess h.1 h.2 uses) (one_form p.form h.0 place h.3) h.4;
}

pub guessed : (t : Statements) (p : Parent) (own : List Parent) (guess : Form) (just : SkolemJust) (place : ℕ) (uses : List Use) → own ≡ p ∷ [] → just ≡ Skolem place uses → ShowsSkolem t (forms_of own) guess just → IsGuessed t p.form guess uses
guessed t p own guess just place uses eo ej h = of_only t p guess place uses (subst (ShowsSkolem t (p.form ∷ []) guess) ej (subst (λ xs. ShowsSkolem t (forms_of xs) guess just) eo h))

module _ (t : Statements) (p guess : Form) (uses : List Use) (ready : IsReady t.vocabulary p) (g : IsGuessed t p guess uses) where
  own_norm : HasNorm p (norm_of true p)
  own_norm = record { small = g.shown.of_parent.small; same = refl }

  replaced : IsSkolemized t.vocabulary [] uses (norm_of true p) g.result
  replaced = subst (λ a. IsSkolemized t.vocabulary [] uses a g.result) (sym g.shown.of_parent.same) g.shown.replaced

  within : IsWithin t.vocabulary [] (norm_of true p)
  within = norm_within t.vocabulary p (norm_of true p) ready own_norm

  norm_is_small : norm_size_of (norm_of true p) ≤ 100000
  norm_is_small = let less = norm_small p true in let small = g.shown.of_parent.small in omega arith

  result_small : norm_size_of g.result ≤ 100000
  result_small = let less = no_larger t.vocabulary [] uses (norm_of true p) g.result replaced in let small = norm_is_small in omega arith

  result_ready : IsReady t.vocabulary g.result
  result_ready =
      let kept = depth_kept t.vocabulary [] uses (norm_of true p) g.result replaced in
      let room : binder_depth (norm_of true p) + 0 ≤ 1000000000 = within.room in
      record {
        scope_fits = within.sorted.scope_fits;
        few_binders = omega arith;
        fits = fits_kept t.vocabulary [] uses (norm_of true p) g.result replaced within.sorted.fits;
      }

  result_formed : IsFormBy t p uses g.result
  result_formed = record {
    skolem = record {
      of_parent = own_norm;
      some = g.shown.some;
      replaced = replaced;
      new = g.shown.new;
      of_line = record { small = result_small; same = refl };
    };
    ready = result_ready;
  }

  module _ (norm : Form) (en : norm ≡ norm_of true p) where
    pub small : norm_size_of norm ≤ 100000
    small = subst (λ a. norm_size_of a ≤ 100000) (sym en) norm_is_small

    replaced_in : IsSkolemized t.vocabulary [] uses norm g.result
    replaced_in = subst (λ a. IsSkolemized t.vocabulary [] uses a g.result) (sym en) replaced

    pub fits : (v : Vocabulary) × (scope : List ℕ) × (result : Form) × IsWithin v scope norm × IsSkolemized v scope uses norm result
    fits = (t.vocabulary, [], g.result, subst (IsWithin t.vocabulary []) (sym en) within, replaced_in)

    pub formed : (n : ℕ) (made : Skolemized) (form : Form) → IsWitnessedBy uses norm n made → form ≡ made.form → IsFormBy t p uses form
    formed n made form by e = subst (IsFormBy t p uses) (sym (e ∙ by.form t.vocabulary [] g.result replaced_in)) result_formed
