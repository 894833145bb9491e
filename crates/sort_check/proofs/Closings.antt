-- Binders that are closed one by one, the innermost first.
use Rattle.std.proofs.Common.{◌≡◌, ℕ, ◌<◌, ◌≤◌, List, [], ◌∷◌, ◌++◌, length, take, drop, refl, sym, ◌∙◌, ap, arith, append_assoc, length-append}
use Rattle.std.proofs.lemmas.List.{append-nil}
use Rattle.std.proofs.Math.Seq.{take-append_seam, drop-append_seam}
use Rattle.tptp_base.specs.declared.surface.Quant.{Quant}
use Rattle.fof_terms.specs.declared.form.Form.{Form}
use Rattle.sort_check.specs.declared.scope.Variable.{Variable}
use Rattle.sort_check.specs.code.Reach.{Reach}
use Rattle.sort_check.specs.Denotation.{closed, quantified}

-- the last variables are closed
pub record Closing (quant : Quant) (outer : ℕ) (old now : Reach) (body form : Form) : Type 0 where
  pub back : List Variable
  pub whole : old ≡ record now { variables = now.variables ++ back }
  pub made : form ≡ closed quant back body
  pub within : outer ≤ length now.variables

module _ (quant : Quant) (outer : ℕ) (old : Reach) (body : Form) where
  pub closing_starts : outer ≤ length old.variables → Closing quant outer old old body body
  closing_starts le = record {
    back = [];
    whole = ap (λ (xs : List Variable). record old { variables = xs }) (sym (append-nil old.variables));
    made = refl;
    within = le;
  }

  pub closing_turn : (now next : Reach) (last : Variable) (form more : Form) → Closing quant outer old now body form → now ≡ record next { variables = next.variables ++ last ∷ [] } → outer < length now.variables
      → more ≡ quantified quant last.sort form → Closing quant outer old next body more
  closing_turn now next last form more c e lt is = record {
    back = last ∷ c.back;
    whole = c.whole
        ∙ ap (λ (r : Reach). record r { variables = r.variables ++ c.back }) e
        ∙ ap (λ (xs : List Variable). record next { variables = xs }) (append_assoc next.variables (last ∷ []) c.back);
    made = is ∙ ap (quantified quant last.sort) c.made;
    within = omega (arith, lt, ap (λ (r : Reach). length r.variables) e, length-append next.variables (last ∷ []));
  }

  pub closing_ends : (now : Reach) (form : Form) → Closing quant outer old now body form → length now.variables ≤ outer → (form ≡ closed quant (drop outer old.variables) body) × (now ≡ record old { variables = take outer old.variables })
  closing_ends now form c le =
      let at : outer ≡ length now.variables = omega (arith, le, c.within) in
      let front : take outer old.variables ≡ now.variables =
      ap (λ n. take n old.variables) at ∙ ap (λ (r : Reach). take (length now.variables) r.variables) c.whole ∙ take-append_seam now.variables c.back
      in
      let rest : drop outer old.variables ≡ c.back =
      ap (λ n. drop n old.variables) at ∙ ap (λ (r : Reach). drop (length now.variables) r.variables) c.whole ∙ drop-append_seam now.variables c.back
      in
      (c.made ∙ ap (λ (xs : List Variable). closed quant xs body) (sym rest), ap (λ (xs : List Variable). record now { variables = xs }) (sym front) ∙ ap (λ (r : Reach). record r { variables = take outer old.variables }) (sym c.whole))
