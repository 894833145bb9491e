-- Ranks and places in loops.
use Rattle.std.specs.Prelude.{ℕ, ◌≡◌, ◌<◌, ◌≤◌, ◌+◌, ◌&&◌, nat_lt, Bool, false, if◌then◌else◌, List, [], ◌∷◌, ◌++◌, length, get_or, drop, refl}
use Rattle.std.proofs.Common.{ap, sym, ◌∙◌, arith, append_assoc, eq-eqb}
use Rattle.std.proofs.lemmas.Bool.{ne_eqb, lt-ltb, le-ltb}
use Rattle.std.proofs.lemmas.List.{append-nil, drop_more, drop_all}
use Rattle.saturation.specs.declared.member.Member.{Member}
use Rattle.refutation_lines.specs.Places.{behind, ranks_from, is_inferred, place_of, places_from, in_order}

pub ranks_step : (marks : List Bool) (i next more : ℕ) (old new all : List ℕ) → i < length marks → old ++ ranks_from next (drop i marks) ≡ all → new ≡ old ++ next ∷ [] → more ≡ behind next (get_or marks i false) → new ++ ranks_from more (drop (i + 1) marks) ≡ all
ranks_step marks i next more old new all lt so made moved =
    let rest = ranks_from (behind next (get_or marks i false)) (drop (i + 1) marks) in
    ap (λ (n : ℕ). new ++ ranks_from n (drop (i + 1) marks)) moved ∙ ap (λ (ns : List ℕ). ns ++ rest) made ∙ append_assoc old (next ∷ []) rest ∙ ap (λ (bs : List Bool). old ++ ranks_from next bs) (sym (drop_more marks i false lt)) ∙ so

pub ranks_end : (marks : List Bool) (i next : ℕ) (old new all : List ℕ) → length marks ≤ i → old ++ ranks_from next (drop i marks) ≡ all → new ≡ old ++ next ∷ [] → new ≡ all
ranks_end marks i next old new all past so made = made ∙ ap (λ (bs : List Bool). old ++ ranks_from next bs) (sym (drop_all i marks past)) ∙ so

module _ (ranks : List ℕ) (needed : List Bool) (members : List Member) (i : ℕ) where
  pub places_step : (m : Member) (place next more : ℕ) (old new all : List ℕ) → length needed ≡ length members → i < length members → m ≡ get_or members i m → old ++ places_from ranks next (drop i needed) (drop i members) ≡ all
      → place ≡ place_of ranks next m.origin → new ≡ old ++ place ∷ [] → more ≡ behind next (is_inferred m.origin && get_or needed i false) → new ++ places_from ranks more (drop (i + 1) needed) (drop (i + 1) members) ≡ all
  places_step m place next more old new all same lt is so at made moved =
      let marked : i < length needed = omega arith in
      let rest = places_from ranks (behind next (is_inferred m.origin && get_or needed i false)) (drop (i + 1) needed) (drop (i + 1) members) in
      let left : drop i members ≡ m ∷ drop (i + 1) members = drop_more members i m lt ∙ ap (λ (x : Member). x ∷ drop (i + 1) members) (sym is) in
      let whole : places_from ranks next (drop i needed) (drop i members) ≡ place_of ranks next m.origin ∷ rest =
      ap (λ (bs : List Bool). places_from ranks next bs (drop i members)) (drop_more needed i false marked) ∙ ap (λ (ms : List Member). places_from ranks next (get_or needed i false ∷ drop (i + 1) needed) ms) left in
      ap (λ (n : ℕ). new ++ places_from ranks n (drop (i + 1) needed) (drop (i + 1) members)) moved
      ∙ ap (λ (ns : List ℕ). ns ++ rest) (made ∙ ap (λ (n : ℕ). old ++ n ∷ []) at)
      ∙ append_assoc old (place_of ranks next m.origin ∷ []) rest
      ∙ ap (λ (ns : List ℕ). old ++ ns) (sym whole)
      ∙ so

  pub places_end : (next : ℕ) (old all : List ℕ) → length members ≤ i → old ++ places_from ranks next (drop i needed) (drop i members) ≡ all → old ≡ all
  places_end next old all past so =
      sym (ap (λ (ms : List Member). old ++ places_from ranks next (drop i needed) ms) (drop_all i members past) ∙ ap (λ (ns : List ℕ). old ++ ns) (places_none (drop i needed)) ∙ append-nil old) ∙ so
    where
      places_none : (bs : List Bool) → places_from ranks next bs [] ≡ []
      places_none [] = refl
      places_none (b ∷ bs) = refl

-- Two places in order.
pub one_place : (a b : ℕ) → a ≡ b → in_order a b ≡ a ∷ []
one_place a b e = ap (λ (x : Bool). if x then a ∷ [] else (if nat_lt a b then a ∷ b ∷ [] else b ∷ a ∷ [])) (eq-eqb a b e)

two_places : (a b : ℕ) → (a ≡ b → ⊥) → in_order a b ≡ (if nat_lt a b then a ∷ b ∷ [] else b ∷ a ∷ [])
two_places a b apart = ap (λ (x : Bool). if x then a ∷ [] else (if nat_lt a b then a ∷ b ∷ [] else b ∷ a ∷ [])) (ne_eqb a b apart)

pub first_place_first : (a b : ℕ) → a < b → in_order a b ≡ a ∷ b ∷ []
first_place_first a b lt = two_places a b (λ e. omega arith) ∙ ap (λ (x : Bool). if x then a ∷ b ∷ [] else b ∷ a ∷ []) (lt-ltb a b lt)

pub second_place_first : (a b : ℕ) → b < a → in_order a b ≡ b ∷ a ∷ []
second_place_first a b lt = let le : b ≤ a = omega arith in two_places a b (λ e. omega arith) ∙ ap (λ (x : Bool). if x then a ∷ b ∷ [] else b ∷ a ∷ []) (le-ltb a b le)

pub ruleset orders = (one_place, first_place_first, second_place_first)
