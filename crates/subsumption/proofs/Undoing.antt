-- Variables are let go one by one, the last one first.
use Rattle.std.proofs.Common.{ℕ, ◌≡◌, ◌+◌, ◌≤◌, List, [], ◌∷◌, ◌++◌, length, None, refl, sym, ap, subst, ◌∙◌, arith, append_assoc, append-nil}
use Rattle.std.specs.Option.{option_map}
use Rattle.std.proofs.Math.ListN.{set}
use Rattle.std.proofs.lemmas.List.{length-append, length-map}
use Rattle.subsumption.specs.declared.bindings.Bindings.{Bindings}
use Rattle.subsumption.specs.code.Bound.{images_of, trail_of, cleared, IsUndone}
use Rattle.subsumption.proofs.BoundFacts.{set_past}

-- some of the last variables were let go
pub record IsUndoing (old new : Bindings) : Type 0 where
  pub gone : List ℕ
  pub trail : trail_of old ≡ trail_of new ++ gone
  pub images : images_of new ≡ cleared gone (images_of old)

pub none_gone : (b : Bindings) → IsUndoing b b
none_gone b = record { gone = []; trail = sym (append-nil (trail_of b)); images = refl }

pub one_more : (old mid new : Bindings) (k : ℕ) → IsUndoing old mid → trail_of mid ≡ trail_of new ++ k ∷ [] → images_of new ≡ set (images_of mid) k None → IsUndoing old new
one_more old mid new k h trail images = record {
  gone = k ∷ h.gone;
  trail = h.trail ∙ ap (λ xs. xs ++ h.gone) trail ∙ append_assoc (trail_of new) (k ∷ []) h.gone;
  images = images ∙ ap (λ xs. set xs k None) h.images;
}

-- a variable past the end has no image
pub none_cleared : (b : Bindings) (k : ℕ) → length b.images.items ≤ k → images_of b ≡ set (images_of b) k None
none_cleared b k h = sym (set_past (images_of b) k None (subst (λ n. n ≤ k) (sym (length-map b.images.items (option_map (λ r. r.now)))) h))

pub all_undone : (old new : Bindings) (count : ℕ) → IsUndoing old new → length (trail_of new) ≡ count → IsUndone old new count
all_undone old new count h size = record { gone = h.gone; trail = h.trail; images = h.images; size = size }

pub one_fewer : (mid new : Bindings) (k done total : ℕ) → trail_of mid ≡ trail_of new ++ k ∷ [] → length (trail_of mid) + done ≡ total → length (trail_of new) + (done + 1) ≡ total
one_fewer mid new k done total e h =
    let size : length (trail_of mid) ≡ length (trail_of new) + 1 = ap length e ∙ length-append (trail_of new) (k ∷ []) in
    omega arith
