-- Loops that take each member of a list in turn.
use Rattle.std.proofs.Common.{◌≡◌, ℕ, suc, ◌+◌, ◌<◌, ◌≤◌, List, [], ◌∷◌, ◌++◌, length, drop, get_or, Ok, Err, refl, sym, ◌∙◌, ap, append_assoc, drop-cons, add-one}
use Rattle.std.proofs.lemmas.List.{append-nil, drop_all}
use Rattle.sort_check.specs.Outcomes.{Outcome, and_then, mapped, each}

-- the member at a place comes first of the rest
pub at_member : {X : Type 0} (xs : List X) (i : ℕ) (x : X) → i < length xs → x ≡ get_or xs i x → drop i xs ≡ x ∷ drop (i + 1) xs
at_member xs i x lt is = rw add-one (drop-cons xs i x lt ∙ ap (λ y. y ∷ drop (suc i) xs) (sym is))

module _ {E S X A : Type 0} (p : ℕ → X → S → Outcome E S A) where
  -- behind what is found
  abbrev pub after : List A → Outcome E S (List A) → Outcome E S (List A)
  after found o = mapped (λ ys. found ++ ys) o

  -- some members are found, the others follow from this state on
  pub record Turns (xs : List X) (start : S) (found : List A) (i : ℕ) (s : S) : Type 0 where
    pub so_far : each p 0 xs start ≡ after found (each p i (drop i xs) s)

  after_none : (o : Outcome E S (List A)) → o ≡ after [] o
  after_none (Ok q) = refl
  after_none (Err e) = refl

  pub starts : (xs : List X) (s : S) → Turns xs s [] 0 s
  starts xs s = record { so_far = after_none (each p 0 xs s) }

  after_more : (found : List A) (y : A) (o : Outcome E S (List A)) → after found (mapped (λ ys. y ∷ ys) o) ≡ after (found ++ y ∷ []) o
  after_more found y (Ok q) = ap (λ (ys : List A). Ok (ys, q.1)) (sym (append_assoc found (y ∷ []) q.0))
  after_more found y (Err e) = refl

  module _ (xs : List X) (start : S) (found : List A) (i : ℕ) (s : S) (x : X) (lt : i < length xs) (is : x ≡ get_or xs i x) (turns : Turns xs start found i s) where
    turning : each p 0 xs start ≡ after found (and_then (p i x s) (λ y t. mapped (λ ys. y ∷ ys) (each p (i + 1) (drop (i + 1) xs) t)))
    turning = turns.so_far ∙ ap (λ (ys : List X). after found (each p i ys s)) (at_member xs i x lt is)

    pub turn : (y : A) (t : S) (more : List A) → p i x s ≡ Ok (y, t) → more ≡ found ++ y ∷ [] → Turns xs start more (i + 1) t
    turn y t more e added = record {
      so_far = turning
          ∙ ap (λ (o : Outcome E S A). after found (and_then o (λ y t. mapped (λ ys. y ∷ ys) (each p (i + 1) (drop (i + 1) xs) t)))) e
          ∙ after_more found y (each p (i + 1) (drop (i + 1) xs) t)
          ∙ ap (λ (ys : List A). after ys (each p (i + 1) (drop (i + 1) xs) t)) (sym added);
    }

    pub turn_fails : (e : E) → p i x s ≡ Err e → each p 0 xs start ≡ Err e
    turn_fails e is_err = turning ∙ ap (λ (o : Outcome E S A). after found (and_then o (λ y t. mapped (λ ys. y ∷ ys) (each p (i + 1) (drop (i + 1) xs) t)))) is_err

  pub ends : (xs : List X) (start : S) (found : List A) (i : ℕ) (s : S) → length xs ≤ i → Turns xs start found i s → each p 0 xs start ≡ Ok (found, s)
  ends xs start found i s le turns =
      turns.so_far ∙ ap (λ (ys : List X). after found (each p i ys s)) (drop_all i xs le) ∙ ap (λ (ys : List A). Ok (ys, s)) (append-nil found)
