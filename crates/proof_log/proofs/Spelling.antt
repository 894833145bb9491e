-- Texts of words, with the nesting of each byte, and readers of them.
use Rattle.std.proofs.Common.{◌≡◌, Bool, true, false, ℕ, suc, ◌+◌, ◌≤◌, List, [], ◌∷◌, ◌++◌, Option, Some, None, refl, sym, ◌∙◌, ap, subst, append_assoc, arith}
use Rattle.std.specs.Prelude.{decimal, if◌then◌else◌}
use Rattle.std.specs.Char.{is_ascii_digit}
use Rattle.std.proofs.lemmas.List.Concat.{flat_map-append}
use Rattle.first_fault.specs.Nesting.{Nested, plain, Within}
use Rattle.first_fault.proofs.NestingFacts.{WithinTo, done, before}
use Rattle.first_fault.specs.code.Reading.{Reader, mapped, next}
use Rattle.first_fault.specs.Rules.{Rule}
use Rattle.first_fault.proofs.Exact.{plain-append}
use Rattle.first_fault.proofs.Good.{Good, good_then, good_map, Parts}
use Rattle.proof_log.specs.code.ReadWords.{both}
use Rattle.proof_log.specs.Words.{Word, Tree, Number, word, spelled, text_of, deeper, nested, nested_word, at_level, AreInRange}

-- ---- texts

pub nested-append : (d : ℕ) (xs ys : List Word) → nested d (xs ++ ys) ≡ nested d xs ++ nested d ys
nested-append d xs ys = flat_map-append (nested_word d) xs ys

-- the words in front of the rest
pub nested_on : (d : ℕ) (xs ys : List Word) (rest : List (Nested ℕ)) → nested d (xs ++ ys) ++ rest ≡ nested d xs ++ (nested d ys ++ rest)
nested_on d xs ys rest = ap (λ l. l ++ rest) (nested-append d xs ys) ∙ append_assoc (nested d xs) (nested d ys) rest

pub nested-deeper : (d : ℕ) (ws : List Word) → nested d (deeper ws) ≡ nested (suc d) ws
nested-deeper d [] = refl
nested-deeper d (Tree depth name ∷ ws) =
    let n : d + suc depth ≡ suc d + depth = omega arith in
    ap (λ k. ((32, 0) ∷ at_level k name) ++ nested d (deeper ws)) n ∙ ap (λ l. ((32, 0) ∷ at_level (suc d + depth) name) ++ l) (nested-deeper d ws)
nested-deeper d (Number most n ∷ ws) = ap (λ l. ((32, 0) ∷ at_level 0 (decimal n)) ++ l) (nested-deeper d ws)

pub plain-level : (level : ℕ) (bytes : List ℕ) → plain (at_level level bytes) ≡ bytes
plain-level level [] = refl
plain-level level (b ∷ bytes) = ap (λ l. b ∷ l) (plain-level level bytes)

pub plain-on : (level : ℕ) (bytes : List ℕ) (rest : List (Nested ℕ)) → plain (at_level level bytes ++ rest) ≡ bytes ++ plain rest
plain-on level bytes rest = plain-append (at_level level bytes) rest ∙ ap (λ l. l ++ plain rest) (plain-level level bytes)

pub within_level : (limit level : ℕ) → level ≤ limit → (bytes : List ℕ) (rest : List (Nested ℕ)) → WithinTo limit (at_level level bytes ++ rest) rest
within_level limit level le [] rest = done
within_level limit level le (b ∷ bytes) rest = before le (within_level limit level le bytes rest)

pub all_within : (limit level : ℕ) → level ≤ limit → (bytes : List ℕ) → Within limit (at_level level bytes)
all_within limit level le [] = tt
all_within limit level le (b ∷ bytes) = (le, all_within limit level le bytes)

pub level-append : (level : ℕ) (xs ys : List ℕ) → at_level level (xs ++ ys) ≡ at_level level xs ++ at_level level ys
level-append level [] ys = refl
level-append level (x ∷ xs) ys = ap (λ l. (x, level) ∷ l) (level-append level xs ys)

plain-word : (d : ℕ) (w : Word) → plain (nested_word d w) ≡ word (spelled w)
plain-word d (Tree depth name) = ap (λ l. 32 ∷ l) (plain-level (d + depth) name)
plain-word d (Number most n) = ap (λ l. 32 ∷ l) (plain-level 0 (decimal n))

pub plain-nested : (d : ℕ) (ws : List Word) → plain (nested d ws) ≡ text_of ws
plain-nested d [] = refl
plain-nested d (w ∷ ws) = plain-append (nested_word d w) (nested d ws) ∙ ap (λ l. l ++ plain (nested d ws)) (plain-word d w) ∙ ap (λ l. word (spelled w) ++ l) (plain-nested d ws)

pub ranges-append : (xs ys : List Word) → AreInRange xs → AreInRange ys → AreInRange (xs ++ ys)
ranges-append [] ys h k = k
ranges-append (x ∷ xs) ys h k = (h.0, ranges-append xs ys h.1 k)

pub ranges-first : (xs ys : List Word) → AreInRange (xs ++ ys) → AreInRange xs
ranges-first [] ys h = tt
ranges-first (x ∷ xs) ys h = (h.0, ranges-first xs ys h.1)

pub ranges-second : (xs ys : List Word) → AreInRange (xs ++ ys) → AreInRange ys
ranges-second [] ys h = h
ranges-second (x ∷ xs) ys h = ranges-second xs ys h.1

pub ranges-deeper : (ws : List Word) → AreInRange ws → AreInRange (deeper ws)
ranges-deeper [] h = tt
ranges-deeper (Tree depth name ∷ ws) h = (tt, ranges-deeper ws h.1)
ranges-deeper (Number most n ∷ ws) h = (h.0, ranges-deeper ws h.1)

pub ranges-shallower : (ws : List Word) → AreInRange (deeper ws) → AreInRange ws
ranges-shallower [] h = tt
ranges-shallower (Tree depth name ∷ ws) h = (tt, ranges-shallower ws h.1)
ranges-shallower (Number most n ∷ ws) h = (h.0, ranges-shallower ws h.1)

-- ---- what is spelled

-- the text is that of the value's words
abbrev pub Spell : {A : Type 0} → (A → List Word) → ℕ → Rule ℕ A
Spell words d x ts rest = (ts ≡ nested d (words x) ++ rest) × AreInRange (words x)

-- what may stand behind a number
abbrev pub ends : Option ℕ → Bool
ends None = true
ends (Some b) = if is_ascii_digit b then false else true

-- words begin with a blank
pub ends_before : (d : ℕ) (ws : List Word) (rest : List (Nested ℕ)) → ends (next (plain rest)) ≡ true → ends (next (plain (nested d ws ++ rest))) ≡ true
ends_before d [] rest e = e
ends_before d (Tree depth name ∷ ws) rest e = refl
ends_before d (Number most n ∷ ws) rest e = refl

-- ---- two parts

abbrev pub pair : {A B : Type 0} → (A → List Word) → (B → List Word) → A × B → List Word
pair f g v = f v.0 ++ g v.1

module _ {A B : Type 0} (limit d : ℕ) (p : Reader ℕ A) (q : Reader ℕ B) (f : A → List Word) (g : B → List Word) (first : Good limit p (Spell f d) ends) (second : Good limit q (Spell g d) ends) where
  abbrev Later : A → Rule ℕ (A × B)
  Later x v ts rest = (v.0 ≡ x) × Spell g d v.1 ts rest

  later : (x : A) → Good limit (λ ts. mapped (λ y. (x, y)) (q ts)) (Later x) ends
  later x = good_map limit q (λ ts. mapped (λ y. (x, y)) (q ts)) (Spell g d) (Later x) ends (λ y. (x, y)) (λ ts. refl) second (λ y ts rest h. (refl, h)) (λ v ts rest h. (v.1, h.1, ap (λ a. (a, v.1)) (sym h.0)))

  join : (x : A) (v : A × B) (ts mid rest : List (Nested ℕ)) → Spell f d x ts mid → Later x v mid rest → Spell (pair f g) d v ts rest
  join x v ts mid rest h k =
      let one : Spell f d v.0 ts mid = subst (λ a. Spell f d a ts mid) (sym k.0) h in
      (one.0 ∙ ap (λ l. nested d (f v.0) ++ l) k.1.0 ∙ sym (nested_on d (f v.0) (g v.1) rest), ranges-append (f v.0) (g v.1) one.1 k.1.1)

  split : (v : A × B) (ts rest : List (Nested ℕ)) → Spell (pair f g) d v ts rest → ends (next (plain rest)) ≡ true → Parts (Spell f d) Later ends v ts rest
  split v ts rest h e = record {
    value = v.0;
    mid = nested d (g v.1) ++ rest;
    first = (h.0 ∙ nested_on d (f v.0) (g v.1) rest, ranges-first (f v.0) (g v.1) h.1);
    second = (refl, (refl, ranges-second (f v.0) (g v.1) h.1));
    ends = ends_before d (g v.1) rest e;
  }

  pub good_pair : Good limit (both p q) (Spell (pair f g) d) ends
  good_pair = good_then limit p (λ x ts. mapped (λ y. (x, y)) (q ts)) (Spell f d) Later (Spell (pair f g) d) ends ends first (λ x can. later x) join split
