-- What stands behind a value that came of parts.
use Rattle.std.proofs.Common.{◌≡◌, Ok, Err, refl, ap, subst}
use Rattle.sort_check.specs.Outcomes.{Outcome, and_then, mapped}

-- what holds of a value and its state holds of those that are equal to them
pub at_ok : {E S A : Type 0} (P : A → S → Type 0) (a b : A) (s t : S) → ◌≡◌ {A = Outcome E S A} (Ok (a, s)) (Ok (b, t)) → P a s → P b t
at_ok {E = E} {S = S} {A = A} P a b s t e h =
    let value : Outcome E S A → A × S = λ o. either o in
    subst (λ (p : A × S). P p.0 p.1) (ap value e) h
  where
    either : Outcome E S A → A × S
    either (Ok p) = p
    either (Err x) = (a, s)

-- the first part and the rest
pub then_ok : {E S R A B : Type 0} (o : Outcome E S A) (f : A → S → Outcome E R B) (x : B) (w : R) → and_then o f ≡ Ok (x, w) → (y : A) × (u : S) × (o ≡ Ok (y, u)) × (f y u ≡ Ok (x, w))
then_ok (Ok p) f x w e = (p.0, p.1, refl, e)
then_ok (Err x) f y w e = absurd (cc)

-- the value before the last step
pub mapped_ok : {E S A B : Type 0} (f : A → B) (o : Outcome E S A) (x : B) (w : S) → mapped f o ≡ Ok (x, w) → (y : A) × (o ≡ Ok (y, w)) × (f y ≡ x)
mapped_ok {E = E} {S = S} {A = A} f (Ok p) x w e =
    at_ok {E = E} (λ b t. (y : A) × (◌≡◌ {A = Outcome E S A} (Ok p) (Ok (y, t))) × (f y ≡ b)) (f p.0) x p.1 w e (p.0, refl, refl)
mapped_ok f (Err x) y w e = absurd (cc)
