-- Marks of symbols.
use Rattle.std.specs.Prelude.{ℕ, zero, suc, ◌≡◌, ◌<◌, ◌≤◌, ◌+◌, ◌==◌, ◌||◌, Bool, true, false, List, [], ◌∷◌, ◌++◌, length, get_or, take, refl, slice_set}
use Rattle.std.specs.List.{list_any}
use Rattle.std.proofs.Common.{ap, sym, subst, ◌∙◌, arith, inl, inr, eq-eqb}
use Rattle.std.proofs.lemmas.Bool.{cases_eq, ne_eqb}
use Rattle.std.proofs.lemmas.List.{take_all}
use Rattle.std.proofs.lemmas.List.Folds.{list_any_more}
use Rattle.proof_check.specs.Uses.{is_marked}
use Rattle.proof_check.specs.code.Marking.{Marks}

pub or_true : (b : Bool) → (b || true) ≡ true
or_true true = refl
or_true false = refl

pub or_false : (b : Bool) → (b || false) ≡ b
or_false true = refl
or_false false = refl

or_assoc : (a b c : Bool) → ((a || b) || c) ≡ (a || (b || c))
or_assoc true b c = refl
or_assoc false b c = refl

pub marks_same : (f g : ℕ → Bool) (old new : List Bool) → ((k : ℕ) → f k ≡ g k) → Marks f old new → Marks g old new
marks_same f g old new e m = record { count = m.count; each = λ k lt. m.each k lt ∙ ap (λ (b : Bool). is_marked old k || b) (e k) }

pub marks_none : (old new : List Bool) → new ≡ old → Marks (λ k. false) old new
marks_none old new e = record { count = ap (λ (m : List Bool). length m) e; each = λ k lt. ap (λ (m : List Bool). is_marked m k) e ∙ sym (or_false (is_marked old k)) }

marks_both : (f g : ℕ → Bool) (a b c : List Bool) → Marks f a b → Marks g b c → Marks (λ k. f k || g k) a c
marks_both f g a b c m n =
    record {
      count = n.count ∙ m.count;
      each = λ k lt. n.each k (subst (λ (l : ℕ). k < l) (sym m.count) lt) ∙ ap (λ (x : Bool). x || g k) (m.each k lt) ∙ or_assoc (is_marked a k) (f k) (g k);
    }

-- those of two parts
pub marks_two : (f g h : ℕ → Bool) (a b c : List Bool) → ((k : ℕ) → (f k || g k) ≡ h k) → Marks f a b → Marks g b c → Marks h a c
marks_two f g h a b c e m n = marks_same (λ k. f k || g k) h a c e (marks_both f g a b c m n)

-- The elements of a list.
module _ {X : Type 0} (h : ℕ → X → Bool) (xs : List X) where
  pub marks_more : (i : ℕ) (x : X) (a b c : List Bool) → i < length xs → x ≡ get_or xs i x → Marks (λ k. list_any (h k) (take i xs)) a b → Marks (λ k. h k x) b c → Marks (λ k. list_any (h k) (take (i + 1) xs)) a c
  marks_more i x a b c lt e m n =
      marks_two (λ k. list_any (h k) (take i xs)) (λ k. h k x) (λ k. list_any (h k) (take (i + 1) xs)) a b c
      (λ k. ap (λ (y : X). list_any (h k) (take i xs) || h k y) e ∙ sym (list_any_more (h k) xs i x lt))
      m n

  pub marks_whole : (i : ℕ) (a b : List Bool) → length xs ≤ i → Marks (λ k. list_any (h k) (take i xs)) a b → Marks (λ k. list_any (h k) xs) a b
  marks_whole i a b past m = subst (λ (ys : List X). Marks (λ k. list_any (h k) ys) a b) (take_all i xs past) m

-- One place.
module _ (old : List Bool) (v k : ℕ) where
  set_same : v < length old → k ≡ v → get_or (slice_set old v true) k false ≡ (get_or old k false || v == k)
  set_same lt e = here old v k e lt ∙ sym (ap (λ (b : Bool). get_or old k false || b) (eq-eqb v k (sym e)) ∙ or_true (get_or old k false))
    where
      here : (xs : List Bool) (i j : ℕ) → j ≡ i → i < length xs → get_or (slice_set xs i true) j false ≡ true
      here [] i j e lt = absurd (omega arith)
      here (x ∷ xs) zero j e lt = ap (λ (n : ℕ). get_or (true ∷ xs) n false) e
      here (x ∷ xs) (suc i) zero e lt = absurd (omega arith)
      here (x ∷ xs) (suc i) (suc j) e lt = here xs i j (omega arith) (omega arith)

  set_apart : (k ≡ v → ⊥) → get_or (slice_set old v true) k false ≡ (get_or old k false || v == k)
  set_apart e = other old v k e ∙ sym (ap (λ (b : Bool). get_or old k false || b) (ne_eqb v k (λ same. e (sym same))) ∙ or_false (get_or old k false))
    where
      other : (xs : List Bool) (i j : ℕ) → (j ≡ i → ⊥) → get_or (slice_set xs i true) j false ≡ get_or xs j false
      other [] i j e = refl
      other (x ∷ xs) zero zero e = absurd (e refl)
      other (x ∷ xs) zero (suc j) e = refl
      other (x ∷ xs) (suc i) zero e = refl
      other (x ∷ xs) (suc i) (suc j) e = other xs i j (λ same. e (ap suc same))

  set_place : v < length old → get_or (slice_set old v true) k false ≡ (get_or old k false || v == k)
  set_place lt = elim (cases_eq k v) [ inl e ↦ set_same lt e | inr e ↦ set_apart e ]

set_count : (xs : List Bool) (i : ℕ) → length (slice_set xs i true) ≡ length xs
set_count [] i = refl
set_count (x ∷ xs) zero = refl
set_count (x ∷ xs) (suc i) = ap suc (set_count xs i)

pub marks_one : (v : ℕ) (old new : List Bool) → v < length old → new ≡ slice_set old v true → Marks (λ k. v == k) old new
marks_one v old new lt e =
    record {
      count = ap (λ (m : List Bool). length m) e ∙ set_count old v;
      each = λ k there. ap (λ (m : List Bool). is_marked m k) e ∙ set_place old v k lt;
    }

pub marks_past : (v : ℕ) (old new : List Bool) → length old ≤ v → new ≡ old → Marks (λ k. v == k) old new
marks_past v old new past e =
    record {
      count = ap (λ (m : List Bool). length m) e;
      each = λ k there.
          ap (λ (m : List Bool). is_marked m k) e ∙ sym (ap (λ (b : Bool). is_marked old k || b) (ne_eqb v k (λ same. let low : k < v = omega arith in omega arith)) ∙ or_false (is_marked old k));
    }

pub ruleset marks_of_one = (marks_one, marks_past)

-- one place more, unmarked
pub widened : (xs : List Bool) (k : ℕ) → is_marked (xs ++ false ∷ []) k ≡ is_marked xs k
widened [] zero = refl
widened [] (suc k) = refl
widened (x ∷ xs) zero = refl
widened (x ∷ xs) (suc k) = widened xs k
