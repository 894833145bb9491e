-- What is derived is found by a reader: it is read, or the first of its tokens over the limit is the fault.
use Rattle.std.proofs.Common.{◌≡◌, ℕ, ◌≤◌, List, ◌∷◌, Ok, Err, ◌⊎◌, inl, inr, ◌∙◌, ap}
use Rattle.first_fault.specs.Nesting.{Nested, plain, FirstOver, behind}
use Rattle.first_fault.proofs.NestingFacts.{WithinTo, done, before}
use Rattle.first_fault.specs.code.Reading.{TooDeep, Reader, and_then, mapped}

pub within_join : {T : Type 0} {limit : ℕ} {ts mid rest : List (Nested T)} → WithinTo limit ts mid → WithinTo limit mid rest → WithinTo limit ts rest
within_join done k = k
within_join (before le h) k = before le (within_join h k)

pub over_join : {T : Type 0} {limit : ℕ} {ts mid over : List (Nested T)} → WithinTo limit ts mid → FirstOver limit mid over → FirstOver limit ts over
over_join done k = k
over_join (before le h) k = behind le (over_join h k)

abbrev pub Found : {T A : Type 0} → ℕ → Reader T A → A → List (Nested T) → List (Nested T) → Type 0
Found limit p x ts rest = (WithinTo limit ts rest × (p (plain ts) ≡ Ok (x, plain rest))) ⊎ ((over : List (Nested _)) × FirstOver limit ts over × (p (plain ts) ≡ Err (TooDeep, plain over)))

module _ {T A : Type 0} (limit : ℕ) (p q : Reader T A) (x : A) (ts rest : List (Nested T)) where
  -- where another reader answers the same
  pub found_as : p (plain ts) ≡ q (plain ts) → Found limit q x ts rest → Found limit p x ts rest
  found_as same (inl (h, k)) = inl (h, same ∙ k)
  found_as same (inr (over, h, k)) = inr (over, h, same ∙ k)

module _ {T A B : Type 0} (limit : ℕ) (p : Reader T A) (w : Reader T B) (f : A → B) (x : A) where
  pub found_map : (ts rest : List (Nested T)) → w (plain ts) ≡ mapped f (p (plain ts)) → Found limit p x ts rest → Found limit w (f x) ts rest
  found_map ts rest same (inl (h, k)) = inl (h, same ∙ ap (mapped f) k)
  found_map ts rest same (inr (over, h, k)) = inr (over, h, same ∙ ap (mapped f) k)

  -- behind a token that is within the limit
  pub found_after : (t : T) (n : ℕ) (ts rest : List (Nested T)) → n ≤ limit → w (t ∷ plain ts) ≡ mapped f (p (plain ts)) → Found limit p x ts rest → Found limit w (f x) ((t, n) ∷ ts) rest
  found_after t n ts rest le same (inl (h, k)) = inl (before le h, same ∙ ap (mapped f) k)
  found_after t n ts rest le same (inr (over, h, k)) = inr (over, behind le h, same ∙ ap (mapped f) k)

-- one part after another
pub found_then : {T A B : Type 0} (limit : ℕ) (p : Reader T A) (q : A → Reader T B) (x : A) (v : B) (ts mid rest : List (Nested T)) → Found limit p x ts mid → Found limit (q x) v mid rest → Found limit (λ us. and_then (p us) q) v ts rest
found_then limit p q x v ts mid rest (inr (over, h, k)) second = inr (over, h, ap (λ o. and_then o q) k)
found_then limit p q x v ts mid rest (inl (h, k)) (inl (i, l)) = inl (within_join h i, ap (λ o. and_then o q) k ∙ l)
found_then limit p q x v ts mid rest (inl (h, k)) (inr (over, i, l)) = inr (over, over_join h i, ap (λ o. and_then o q) k ∙ l)
