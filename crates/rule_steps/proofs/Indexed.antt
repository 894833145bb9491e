-- Lists that code makes from the elements of another one with their numbers.
use Rattle.std.specs.Prelude.{ℕ, ◌≡◌, ◌+◌, ◌<◌, ◌≤◌, List, [], ◌∷◌, ◌++◌, length, take, get_or, refl}
use Rattle.std.proofs.Common.{ap, sym, ◌∙◌, arith, zero, suc, append_assoc, append-nil, add-one}
use Rattle.rule_steps.specs.declared.sites.Site.{Site}
use Rattle.rule_steps.specs.code.ParamodulationSearch.{indexed, sites_of_places}
use Rattle.clause_rules.proofs.TakenLists.{taken_snoc, take_all}

indexed_snoc : {X Y : Type 0} (f : ℕ → X → List Y) (n : ℕ) (xs : List X) (x : X) → indexed f n (xs ++ x ∷ []) ≡ indexed f n xs ++ f (n + length xs) x
indexed_snoc f n [] x = append-nil (f n x) ∙ ap (λ k. f k x) (let e : n ≡ n + 0 = omega arith in e)
indexed_snoc f n (y ∷ xs) x =
    let e : suc n + length xs ≡ n + suc (length xs) = omega arith in
    ap (λ ys. f n y ++ ys) (indexed_snoc f (suc n) xs x ∙ ap (λ k. indexed f (suc n) xs ++ f k x) e) ∙ sym (append_assoc (f n y) (indexed f (suc n) xs) (f (n + suc (length xs)) x))

length_taken : {X : Type 0} (xs : List X) (i : ℕ) → i ≤ length xs → length (take i xs) ≡ i
length_taken xs zero h = refl
length_taken [] (suc i) h = absurd (omega arith)
length_taken (x ∷ xs) (suc i) h = ap (λ n. suc n) (length_taken xs i (omega arith))

-- one element more
pub indexed_more : {X Y : Type 0} (f : ℕ → X → List Y) (xs : List X) (i number : ℕ) (x : X) (before now now' : List Y) → i < length xs → x ≡ get_or xs i x → number ≡ i → now ≡ before ++ indexed f 0 (take i xs) → now' ≡ now ++ f number x → now' ≡ before ++ indexed f 0 (take (i + 1) xs)
indexed_more f xs i number x before now now' h e n so made =
    let size : 0 + length (take i xs) ≡ i = let s = length_taken xs i (omega arith) in omega (arith, s) in
    let next : take (i + 1) xs ≡ take i xs ++ x ∷ [] = (rw add-one refl) ∙ taken_snoc xs i x h e in
    made ∙ ap (λ ys. ys ++ f number x) so ∙ ap (λ k. (before ++ indexed f 0 (take i xs)) ++ f k x) (n ∙ sym size) ∙ append_assoc before (indexed f 0 (take i xs)) (f (0 + length (take i xs)) x)
    ∙ ap (λ ys. before ++ ys) (sym (indexed_snoc f 0 (take i xs) x) ∙ ap (indexed f 0) (sym next))

pub indexed_done : {X Y : Type 0} (f : ℕ → X → List Y) (xs : List X) (n : ℕ) (before now : List Y) → n ≡ length xs → now ≡ before ++ indexed f 0 (take n xs) → now ≡ before ++ indexed f 0 xs
indexed_done f xs n before now e so = so ∙ ap (λ ys. before ++ indexed f 0 ys) (take_all xs n e)

places_snoc : (a i : ℕ) (places : List (List ℕ)) (p : List ℕ) → sites_of_places a i (places ++ p ∷ []) ≡ sites_of_places a i places ++ record { clause = a; lit = i; at = p } ∷ []
places_snoc a i [] p = refl
places_snoc a i (q ∷ places) p = ap (λ ys. record { clause = a; lit = i; at = q } ∷ ys) (places_snoc a i places p)

pub places_more : (a i : ℕ) (places : List (List ℕ)) (k : ℕ) (p : List ℕ) (before now now' : List Site) (place : List ℕ) → k < length places → p ≡ get_or places k p → now ≡ before ++ sites_of_places a i (take k places) → place ≡ p → now' ≡ now ++ record { clause = a; lit = i; at = place } ∷ []
    → now' ≡ before ++ sites_of_places a i (take (k + 1) places)
places_more a i places k p before now now' place h e so same made =
    let next : take (k + 1) places ≡ take k places ++ p ∷ [] = (rw add-one refl) ∙ taken_snoc places k p h e in
    made ∙ ap (λ (ys : List Site). ys ++ record { clause = a; lit = i; at = place } ∷ []) so ∙ ap (λ x. (before ++ sites_of_places a i (take k places)) ++ record { clause = a; lit = i; at = x } ∷ []) same
    ∙ append_assoc before (sites_of_places a i (take k places)) (record { clause = a; lit = i; at = p } ∷ []) ∙ ap (λ (ys : List Site). before ++ ys) (sym (places_snoc a i (take k places) p) ∙ ap (sites_of_places a i) (sym next))

pub places_done : (a i : ℕ) (places given : List (List ℕ)) (n : ℕ) (before now : List Site) → n ≡ length places → places ≡ given → now ≡ before ++ sites_of_places a i (take n places) → now ≡ before ++ sites_of_places a i given
places_done a i places given n before now e same so = so ∙ ap (λ ys. before ++ sites_of_places a i ys) (take_all places n e ∙ same)
