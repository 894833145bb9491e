-- The equations of numbered variables.
use Rattle.std.proofs.Common.{◌≡◌, ℕ, ◌+◌, Bool, true, List, [], ◌∷◌, length, ap, ◌∙◌}
use Rattle.std.specs.Prelude.{◌&&◌}
use Rattle.std.specs.List.{list_all}
use Rattle.std.proofs.lemmas.List.Folds.{list_all-map}
use Rattle.tptp_base.specs.declared.surface.STerm.{STerm}
use Rattle.tptp_base.specs.declared.surface.BoundVar.{BoundVar}
use Rattle.tptp_base.specs.declared.surface.BinOp.{BinOp}
use Rattle.tptp_base.specs.declared.surface.Quant.{Quant}
use Rattle.tptp_base.specs.declared.surface.Surface.{Surface}
use Rattle.tptp_base.specs.declared.surface.Surface.TheVariants as fm
use Rattle.tptp_base.specs.declared.surface.Surface.TheFolds.{fold-Surface}
use Rattle.sort_check.specs.Symbols.{Text}
use Rattle.sort_check.proofs.Equations.{fold-True, fold-False, fold-Atom, fold-Eq, fold-Neq, fold-Not, fold-And, fold-Or, fold-Binary, fold-Bind}
use Rattle.prove_out.specs.Variables.{are_numbered, has_some, numbered_step, is_numbered}

module _ (k : ℕ) where
  pub is_numbered-True : is_numbered k fm.True ≡ true
  unfolding is_numbered
  is_numbered-True = ap (λ g. g k) (fold-True (ℕ → Bool) numbered_step)

  pub is_numbered-False : is_numbered k fm.False ≡ true
  unfolding is_numbered
  is_numbered-False = ap (λ g. g k) (fold-False (ℕ → Bool) numbered_step)

  pub is_numbered-Atom : (p : Text) (ts : List STerm) → is_numbered k (fm.Atom p ts) ≡ true
  unfolding is_numbered
  is_numbered-Atom p ts = ap (λ g. g k) (fold-Atom (ℕ → Bool) numbered_step p ts)

  pub is_numbered-Eq : (l r : STerm) → is_numbered k (fm.Eq l r) ≡ true
  unfolding is_numbered
  is_numbered-Eq l r = ap (λ g. g k) (fold-Eq (ℕ → Bool) numbered_step l r)

  pub is_numbered-Neq : (l r : STerm) → is_numbered k (fm.Neq l r) ≡ true
  unfolding is_numbered
  is_numbered-Neq l r = ap (λ g. g k) (fold-Neq (ℕ → Bool) numbered_step l r)

  pub is_numbered-Not : (a : Surface) → is_numbered k (fm.Not a) ≡ is_numbered k a
  unfolding is_numbered
  is_numbered-Not a = ap (λ g. g k) (fold-Not (ℕ → Bool) numbered_step a)

  pub is_numbered-And : (as_ : List Surface) → is_numbered k (fm.And as_) ≡ (has_some as_ && list_all (is_numbered k) as_)
  unfolding is_numbered
  is_numbered-And [] = ap (λ g. g k) (fold-And (ℕ → Bool) numbered_step [])
  is_numbered-And (a ∷ as_) = ap (λ g. g k) (fold-And (ℕ → Bool) numbered_step (a ∷ as_)) ∙ list_all-map {X = ℕ → Bool} (λ b. b k) (fold-Surface (ℕ → Bool) numbered_step) (a ∷ as_)

  pub is_numbered-Or : (as_ : List Surface) → is_numbered k (fm.Or as_) ≡ (has_some as_ && list_all (is_numbered k) as_)
  unfolding is_numbered
  is_numbered-Or [] = ap (λ g. g k) (fold-Or (ℕ → Bool) numbered_step [])
  is_numbered-Or (a ∷ as_) = ap (λ g. g k) (fold-Or (ℕ → Bool) numbered_step (a ∷ as_)) ∙ list_all-map {X = ℕ → Bool} (λ b. b k) (fold-Surface (ℕ → Bool) numbered_step) (a ∷ as_)

  pub is_numbered-Binary : (op : BinOp) (a b : Surface) → is_numbered k (fm.Binary op a b) ≡ (is_numbered k a && is_numbered k b)
  unfolding is_numbered
  is_numbered-Binary op a b = ap (λ g. g k) (fold-Binary (ℕ → Bool) numbered_step op a b)

  pub is_numbered-Bind : (quant : Quant) (xs : List BoundVar) (a : Surface) → is_numbered k (fm.Bind quant xs a) ≡ (has_some xs && (are_numbered k xs && is_numbered (k + length xs) a))
  unfolding is_numbered
  is_numbered-Bind quant xs a = ap (λ g. g k) (fold-Bind (ℕ → Bool) numbered_step quant xs a)
