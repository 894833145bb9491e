-- What marked elements give, in a loop over the list.
use Rattle.std.specs.Prelude.{ℕ, ◌≡◌, ◌<◌, ◌≤◌, ◌+◌, Bool, false, if◌then◌else◌, List, [], ◌∷◌, ◌++◌, length, get_or, drop, refl}
use Rattle.std.proofs.Common.{ap, sym, ◌∙◌, append_assoc, arith}
use Rattle.std.proofs.lemmas.List.{append-nil, drop_more, drop_all}
use Rattle.given_parts.specs.Chosen.{chosen_from}

pub chosen_none : {X Y : Type 0} (give : ℕ → X → List Y) (k : ℕ) (marks : List Bool) → chosen_from k give marks [] ≡ []
chosen_none give k [] = refl
chosen_none give k (b ∷ marks) = refl

-- there is a mark for each element
module _ {X Y : Type 0} (give : ℕ → X → List Y) (marks : List Bool) (xs : List X) (i : ℕ) where
  -- what is left to give begins with what stands at the place
  pub chosen_left : (x : X) → length marks ≡ length xs → i < length xs → x ≡ get_or xs i x
      → chosen_from i give (drop i marks) (drop i xs) ≡ (if get_or marks i false then give i x else []) ++ chosen_from (i + 1) give (drop (i + 1) marks) (drop (i + 1) xs)
  chosen_left x same lx is =
      let lm : i < length marks = omega arith in
      ap (λ (bs : List Bool). chosen_from i give bs (drop i xs)) (drop_more marks i false lm)
      ∙ ap (λ (ys : List X). chosen_from i give (get_or marks i false ∷ drop (i + 1) marks) ys) (drop_more xs i x lx)
      ∙ ap (λ (y : X). (if get_or marks i false then give i y else []) ++ chosen_from (i + 1) give (drop (i + 1) marks) (drop (i + 1) xs)) (sym is)

  pub chosen_step : (x : X) (old new all : List Y) → length marks ≡ length xs → i < length xs → x ≡ get_or xs i x → old ++ chosen_from i give (drop i marks) (drop i xs) ≡ all → new ≡ old ++ (if get_or marks i false then give i x else [])
      → new ++ chosen_from (i + 1) give (drop (i + 1) marks) (drop (i + 1) xs) ≡ all
  chosen_step x old new all same lx is so made =
      let rest = chosen_from (i + 1) give (drop (i + 1) marks) (drop (i + 1) xs) in
      ap (λ (ys : List Y). ys ++ rest) made ∙ append_assoc old (if get_or marks i false then give i x else []) rest ∙ ap (λ (ys : List Y). old ++ ys) (sym (chosen_left x same lx is)) ∙ so

  pub chosen_end : (old all : List Y) → length xs ≤ i → old ++ chosen_from i give (drop i marks) (drop i xs) ≡ all → old ≡ all
  chosen_end old all past so =
      sym (ap (λ (ys : List X). old ++ chosen_from i give (drop i marks) ys) (drop_all i xs past) ∙ ap (λ (ys : List Y). old ++ ys) (chosen_none give i (drop i marks)) ∙ append-nil old) ∙ so
