-- Marks of inputs and of parts.
use Rattle.std.specs.Prelude.{ℕ, zero, suc, ◌≡◌, ◌<◌, ◌≤◌, ◌+◌, ◌==◌, ◌||◌, Bool, true, false, if◌then◌else◌, List, [], ◌∷◌, ◌++◌, length, map, get_or, drop, refl}
use Rattle.std.specs.List.{list_any, range_with_len}
use Rattle.std.proofs.Common.{ap, sym, subst, ◌∙◌, arith}
use Rattle.std.proofs.lemmas.List.{drop_all}
use Rattle.std.proofs.lemmas.List.Folds.{list_any-append}
use Rattle.saturation.specs.declared.member.Origin.{Origin}
use Rattle.saturation.specs.declared.member.Origin.TheVariants.{Input}
use Rattle.printed_clauses.specs.Marks.{Marks, AreUnmarked, is_marked}
use Rattle.printed_clauses.specs.code.Marked.{AreMarks}
use Rattle.given_parts.specs.Chosen.{chosen_from, chosen}
use Rattle.given_parts.proofs.ChosenFacts.{chosen_left, chosen_none}
use Rattle.refutation_lines.specs.Needs.{each_below, is_input, owner_of}

or_false : (b : Bool) → (b || false) ≡ b
or_false true = refl
or_false false = refl

or_assoc : (a b c : Bool) → ((a || b) || c) ≡ (a || (b || c))
or_assoc true b c = refl
or_assoc false b c = refl

-- marks, and what is left to mark, are all
pub record IsLeft (Z : Type 0) (h : ℕ → Z → Bool) (n : ℕ) (rest all : List Z) (marks : List Bool) : Type 0 where
  pub count : length marks ≡ n
  pub each : (k : ℕ) → k < n → (is_marked marks k || list_any (h k) rest) ≡ list_any (h k) all

module _ (Z : Type 0) (h : ℕ → Z → Bool) (n : ℕ) (all : List Z) where
  left_first : (marks : List Bool) → AreUnmarked n marks → IsLeft Z h n all all marks
  left_first marks u = record { count = u.count; each = λ k lt. ap (λ (b : Bool). b || list_any (h k) all) (u.none k) }

  left_more : (here rest more : List Z) (old new : List Bool) → rest ≡ here ++ more → Marks (λ k. list_any (h k) here) old new → IsLeft Z h n rest all old → IsLeft Z h n more all new
  left_more here rest more old new e m l =
      record {
        count = m.count ∙ l.count;
        each = λ k lt.
            ap (λ (b : Bool). b || list_any (h k) more) (m.each k (subst (λ (j : ℕ). k < j) (sym l.count) lt))
            ∙ or_assoc (is_marked old k) (list_any (h k) here) (list_any (h k) more)
            ∙ ap (λ (b : Bool). is_marked old k || b) (sym (list_any-append (h k) here more))
            ∙ ap (λ (zs : List Z). is_marked old k || list_any (h k) zs) (sym e)
            ∙ l.each k lt;
      }

  left_none : (rest : List Z) (marks : List Bool) → rest ≡ [] → IsLeft Z h n rest all marks → AreMarks (λ k. list_any (h k) all) n marks
  left_none rest marks e l =
      record {
        count = l.count;
        each = λ k lt. sym (ap (λ (zs : List Z). is_marked marks k || list_any (h k) zs) e ∙ or_false (is_marked marks k)) ∙ l.each k lt;
      }

-- In a loop over a list and its marks.
module _ (X Z : Type 0) (give : ℕ → X → List Z) (h : ℕ → Z → Bool) (n : ℕ) (bs : List Bool) (xs : List X) where
  abbrev pub IsLeftFrom : ℕ → List Bool → Type 0
  IsLeftFrom i marks = IsLeft Z h n (chosen_from i give (drop i bs) (drop i xs)) (chosen give bs xs) marks

  pub marked_first : (marks : List Bool) → AreUnmarked n marks → IsLeftFrom 0 marks
  marked_first marks u = left_first Z h n (chosen give bs xs) marks u

  pub marked_step : (i : ℕ) (x : X) (old new : List Bool) → length bs ≡ length xs → i < length xs → x ≡ get_or xs i x → Marks (λ k. list_any (h k) (if get_or bs i false then give i x else [])) old new → IsLeftFrom i old → IsLeftFrom (i + 1) new
  marked_step i x old new same lt is m l =
      left_more Z h n (chosen give bs xs) (if get_or bs i false then give i x else []) (chosen_from i give (drop i bs) (drop i xs)) (chosen_from (i + 1) give (drop (i + 1) bs) (drop (i + 1) xs)) old new (chosen_left give bs xs i x same lt is) m l

  pub marked_all : (i : ℕ) (marks : List Bool) → length xs ≤ i → IsLeftFrom i marks → AreMarks (λ k. list_any (h k) (chosen give bs xs)) n marks
  marked_all i marks past l = left_none Z h n (chosen give bs xs) (chosen_from i give (drop i bs) (drop i xs)) marks (ap (λ (ys : List X). chosen_from i give (drop i bs) ys) (drop_all i xs past) ∙ chosen_none give i (drop i bs)) l

-- One element.
module _ (Z : Type 0) (h : ℕ → Z → Bool) (z : Z) (b : Bool) (old new : List Bool) where
  pub marks_unless : b ≡ false → new ≡ old → Marks (λ k. list_any (h k) (if b then z ∷ [] else [])) old new
  marks_unless off same =
      subst (λ (c : Bool). Marks (λ k. list_any (h k) (if c then z ∷ [] else [])) old new) (sym off)
      (record {
        count = ap (λ (m : List Bool). length m) same;
        each = λ k lt. ap (λ (m : List Bool). is_marked m k) same ∙ sym (or_false (is_marked old k));
      })

  pub marks_if : b ≡ true → Marks (λ k. h k z) old new → Marks (λ k. list_any (h k) (if b then z ∷ [] else [])) old new
  marks_if is m =
      subst (λ (c : Bool). Marks (λ k. list_any (h k) (if c then z ∷ [] else [])) old new) (sym is)
      (record {
        count = m.count;
        each = λ k lt. m.each k lt ∙ ap (λ (x : Bool). is_marked old k || x) (sym (or_false (h k z)));
      })

-- the origin is the one that was met
pub marks_of_input : (met origin : Origin) (old new : List Bool) → origin ≡ met → Marks (λ k. is_input k met) old new → Marks (λ k. is_input k origin) old new
marks_of_input met origin old new is m = subst (λ (o : Origin). Marks (λ k. is_input k o) old new) (sym is) m

pub marks_of_owner : (owners : List ℕ) (number owner : ℕ) (origin : Origin) (old new : List Bool) → origin ≡ Input number → owner ≡ get_or owners number 0 → Marks (λ k. owner == k) old new → Marks (λ k. list_any (λ o. o == k) (owner_of owners origin)) old new
marks_of_owner owners number owner origin old new is at m =
    subst (λ (o : Origin). Marks (λ k. list_any (λ o. o == k) (owner_of owners o)) old new) (sym is)
    (record {
      count = m.count;
      each = λ k lt.
          m.each k lt ∙ ap (λ (j : ℕ). is_marked old k || j == k) at ∙ ap (λ (x : Bool). is_marked old k || x) (sym (or_false (get_or owners number 0 == k)));
    })

-- Marks as a list.
tabulated : (f : ℕ → Bool) (a n : ℕ) (marks : List Bool) → length marks ≡ n → ((k : ℕ) → k < n → get_or marks k false ≡ f (a + k)) → marks ≡ map f (range_with_len a n)
tabulated f a zero [] e each = refl
tabulated f a zero (b ∷ marks) e each = absurd (omega arith)
tabulated f a (suc n) [] e each = absurd (omega arith)
tabulated f a (suc n) (b ∷ marks) e each =
    let here : a + 0 ≡ a = omega arith in
    let first : b ≡ f a = each 0 (omega arith) ∙ ap f here in
    let rest : marks ≡ map f (range_with_len (a + 1) n) = tabulated f (a + 1) n marks (omega arith) (λ k lt. let next : a + suc k ≡ a + 1 + k = omega arith in each (suc k) (omega arith) ∙ ap f next) in
    ap (λ (x : Bool). x ∷ marks) first ∙ ap (λ (bs : List Bool). f a ∷ bs) rest

pub marks_are : (f : ℕ → Bool) (n : ℕ) (marks : List Bool) → AreMarks f n marks → marks ≡ each_below f n
marks_are f n marks m = tabulated f 0 n marks m.count (λ k lt. let here : k ≡ 0 + k = omega arith in m.each k lt ∙ ap f here)

-- the marks of one list, and then those of another
pub marks_are_both : (Z : Type 0) (h : ℕ → Z → Bool) (n : ℕ) (xs ys : List Z) (old new : List Bool) → AreMarks (λ k. list_any (h k) xs) n old → Marks (λ k. list_any (h k) ys) old new → new ≡ each_below (λ k. list_any (h k) (xs ++ ys)) n
marks_are_both Z h n xs ys old new a m =
    marks_are (λ k. list_any (h k) (xs ++ ys)) n new
    (record {
      count = m.count ∙ a.count;
      each = λ k lt. m.each k (subst (λ (j : ℕ). k < j) (sym a.count) lt) ∙ ap (λ (b : Bool). b || list_any (h k) ys) (a.each k lt) ∙ sym (list_any-append (h k) xs ys);
    })
