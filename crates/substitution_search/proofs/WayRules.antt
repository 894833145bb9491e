-- How ways follow from one another, as code meets them.
use Rattle.std.specs.Prelude.{ℕ, ◌+◌, ◌<◌, ◌≡◌, Bool, true, false, List, [], ◌∷◌, ◌++◌, map, flat_map, length, take, refl}
use Rattle.std.proofs.Common.{ap, sym, ◌∙◌, arith, get_or, zero, suc, add-one, append_assoc, append-nil}
use Rattle.std.proofs.lemmas.List.Concat.{flat_map-cons}
use Rattle.clause_form.specs.declared.clause.Lit.{Lit}
use Rattle.unify_terms.specs.declared.pair.Pair.{Pair}
use Rattle.unify_terms.specs.declared.goal.Goal.{Goal, Same}
use Rattle.clause_rules.specs.Ways.{signed_ways}

pub signed_same : (g h : Bool) (ways : List (List Pair)) → g ≡ h → signed_ways g h ways ≡ ways
signed_same true true ways e = refl
signed_same false false ways e = refl
signed_same true false ways e = cc
signed_same false true ways e = cc

pub signed_other : (g h : Bool) (ways : List (List Pair)) → (g ≡ h → ⊥) → signed_ways g h ways ≡ []
signed_other true true ways e = absurd (e refl)
signed_other false false ways e = absurd (e refl)
signed_other true false ways e = refl
signed_other false true ways e = refl

map_both : {X Y : Type 0} (f : X → Y) (xs ys : List X) → map f (xs ++ ys) ≡ map f xs ++ map f ys
map_both f [] ys = refl
map_both f (x ∷ xs) ys = ap (λ zs. f x ∷ zs) (map_both f xs ys)

flat_take : {X Y : Type 0} (f : X → List Y) (xs : List X) (i : ℕ) (d : X) → i < length xs → flat_map f (take (suc i) xs) ≡ flat_map f (take i xs) ++ f (get_or xs i d)
flat_take f [] i d h = absurd (omega arith)
flat_take f (x ∷ xs) zero d h = flat_map-cons f x [] ∙ append-nil (f x)
flat_take f (x ∷ xs) (suc i) d h = flat_map-cons f x (take (suc i) xs) ∙ ap (λ ys. f x ++ ys) (flat_take f xs i d (omega arith)) ∙ sym (append_assoc (f x) (flat_map f (take i xs)) (f (get_or xs i d))) ∙ ap (λ ys. ys ++ f (get_or xs i d)) (sym (flat_map-cons f x (take i xs)))

-- the ways of one target more
pub ways_more : (f : Lit → List (List Pair)) (targets : List Lit) (i : ℕ) (d : Lit) (ways more next : List Goal) → i < length targets → ways ≡ map Same (flat_map f (take i targets)) → more ≡ map Same (f (get_or targets i d)) → next ≡ ways ++ more
    → next ≡ map Same (flat_map f (take (i + 1) targets))
ways_more f targets i d ways more next h e g made =
    made ∙ (rw (e, g) refl) ∙ sym (map_both Same (flat_map f (take i targets)) (f (get_or targets i d))) ∙ ap (map Same) (sym (flat_take f targets i d h)) ∙ (rw add-one refl)

pub ways_joined : (first second : List (List Pair)) → map Same (first ++ second) ≡ map Same first ++ map Same second
ways_joined first second = map_both Same first second
