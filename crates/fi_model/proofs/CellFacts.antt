-- Lists of elements in the order of a table.
use Rattle.std.proofs.Common.{◌≡◌, ℕ, zero, suc, ◌+◌, ◌*◌, ◌<◌, ◌≤◌, ◌&&◌, nat_lt, Bool, true, false, List, [], ◌∷◌, ◌++◌, length, drop, get_or, Option, Some, None, refl, sym, ◌∙◌, ap, append_assoc, arith, ⊎_elim}
use Rattle.std.specs.Option.{option_map}
use Rattle.std.proofs.lemmas.Bool.{cases_Bool}
use Rattle.std.proofs.lemmas.Bool.Decides.{nat_tests}
use Rattle.std.proofs.lemmas.List.{length-append, get_or_append_left, get_or-append-add, append-nil}
use Rattle.fi_model.specs.Cells.{cells, are_within, cell}
use Rattle.fi_model.specs.Models.{both}
use Rattle.fi_model.specs.code.Adding.{joined_below, listed}

-- ---- lists that are there

both_some : {X Y Z : Type 0} (f : X → Y → Z) (a : Option X) (b : Option Y) (z : Z) → both f a b ≡ Some z → (x : X) × (y : Y) × (a ≡ Some x) × (b ≡ Some y) × (z ≡ f x y)
both_some f None b z e = cc
both_some f (Some x) None z e = cc
both_some f (Some x) (Some y) z e = (x, y, refl, refl, cc)

both_none : {X Y Z : Type 0} (f : X → Y → Z) (a : Option X) (b : Option Y) (x : X) → a ≡ Some x → both f a b ≡ None → b ≡ None
both_none f None b x is e = cc
both_none f (Some y) None x is e = refl
both_none f (Some y) (Some z) x is e = cc

-- a test that is passed
within_parts : (x n : ℕ) (b : Bool) → (nat_lt x n && b) ≡ true → (x < n) × (b ≡ true)
within_parts x n b e =
    ⊎_elim
    (λ y. (grind (arith, nat_tests, y), let h : b ≡ true = rw y at e in h))
    (λ f. cc)
    (cases_Bool (nat_lt x n))

-- a place in a row that is there is there
row_within : (a m k size : ℕ) → a < m → k < size → a * size + k < m * size
row_within a zero k size la lk = absurd (omega arith)
row_within zero (suc m) k size la lk = omega (arith, lk)
row_within (suc a) (suc m) k size la lk = let rest : a * size + k < m * size = row_within a m k size (omega arith) lk in omega (arith, rest)

-- elements that are there have a place in the table
pub cell_within : (sizes xs : List ℕ) → are_within sizes xs ≡ true → cell sizes xs < cells sizes
cell_within [] [] w = omega arith
cell_within [] (x ∷ xs) w = cc
cell_within (n ∷ sizes) [] w = cc
cell_within (n ∷ sizes) (x ∷ xs) w =
    let parts = within_parts x n (are_within sizes xs) w in
    row_within x n (cell sizes xs) (cells sizes) parts.0 (cell_within sizes xs parts.1)

-- ---- the values behind a key

module _ (told : List ℕ → Option ℕ) where
  -- so many parts of one length
  abbrev Parts : (ℕ → Option (List ℕ)) → ℕ → Type 0
  Parts f size = (x : ℕ) (xs : List ℕ) → f x ≡ Some xs → length xs ≡ size

  below_length : (f : ℕ → Option (List ℕ)) (size : ℕ) → Parts f size → (n : ℕ) (xs : List ℕ) → joined_below n f ≡ Some xs → length xs ≡ n * size
  below_length f size parts zero xs e = let none : xs ≡ [] = cc in let len : length xs ≡ 0 = ap length none in omega (arith, len)
  below_length f size parts (suc n) xs e =
      let p = both_some (λ ys zs. ys ++ zs) (joined_below n f) (f n) xs e in
      let front = below_length f size parts n p.0 p.2 in
      let back = parts n p.1 p.3 in
      let all : length xs ≡ length p.0 + length p.1 = ap length p.4 ∙ length-append p.0 p.1 in
      omega (arith, front, back, all)

  pub listed_length : (sizes key vs : List ℕ) → listed told sizes key ≡ Some vs → length vs ≡ cells sizes
  listed_length [] key vs e = one (told key) e
    where
      one : (o : Option ℕ) → option_map (λ x. x ∷ []) o ≡ Some vs → length vs ≡ 1
      one None h = cc
      one (Some x) h = ap length (let same : vs ≡ x ∷ [] = cc in same)
  listed_length (n ∷ sizes) key vs e = below_length (λ x. listed told sizes (key ++ x ∷ [])) (cells sizes) (λ x xs h. listed_length sizes (key ++ x ∷ []) xs h) n vs e

  -- the part at a number stands behind those below it
  below_at : (f : ℕ → Option (List ℕ)) (size : ℕ) → Parts f size → (n : ℕ) (vs : List ℕ) → joined_below n f ≡ Some vs → (x : ℕ) → x < n
      → (xs : List ℕ) × (f x ≡ Some xs) × ((k : ℕ) → k < size → get_or vs (x * size + k) 0 ≡ get_or xs k 0)
  below_at f size parts zero vs e x lt = absurd (omega arith)
  below_at f size parts (suc n) vs e x lt =
      let p = both_some (λ ys zs. ys ++ zs) (joined_below n f) (f n) vs e in
      let front : length p.0 ≡ n * size = below_length f size parts n p.0 p.2 in
      ⊎_elim
      (λ y.
      let r = below_at f size parts n p.0 p.2 x (grind (arith, nat_tests, y)) in
      (r.0, r.1, λ k small. in_front p.0 p.1 x k (x * size + k) (within x n k (grind (arith, nat_tests, y)) small front) p.4 ∙ r.2 k small))
      (λ f'.
      let same : x ≡ n = grind (arith, nat_tests, f') in
      (p.1, rw same p.3, λ k small. behind p.0 p.1 x k same front p.4))
      (cases_Bool (nat_lt x n))
    where
      within : (a m k : ℕ) → a < m → k < size → {len : ℕ} → len ≡ m * size → a * size + k < len
      within a m k la lk e = rw e (row_within a m k size la lk)

      in_front : (front back : List ℕ) (a k at : ℕ) → at < length front → vs ≡ front ++ back → get_or vs at 0 ≡ get_or front at 0
      in_front front back a k at l e = ap (λ (ys : List ℕ). get_or ys at 0) e ∙ get_or_append_left front back 0 at l

      behind : (front back : List ℕ) (a k : ℕ) → a ≡ n → length front ≡ n * size → vs ≡ front ++ back → get_or vs (a * size + k) 0 ≡ get_or back k 0
      behind front back a k same len e =
          let at : a * size + k ≡ length front + k = rw (same, len) refl in
          ap (λ (ys : List ℕ). get_or ys (a * size + k) 0) e
          ∙ ap (λ (i : ℕ). get_or (front ++ back) i 0) at
          ∙ get_or-append-add front back k 0

  pub listed_at : (sizes key vs : List ℕ) → listed told sizes key ≡ Some vs → (xs : List ℕ) → are_within sizes xs ≡ true → told (key ++ xs) ≡ Some (get_or vs (cell sizes xs) 0)
  listed_at [] key vs e [] w = ap told (append-nil key) ∙ one (told key) e
    where
      one : (o : Option ℕ) → option_map (λ x. x ∷ []) o ≡ Some vs → o ≡ Some (get_or vs 0 0)
      one None h = cc
      one (Some x) h = let same : vs ≡ x ∷ [] = cc in rw same refl
  listed_at [] key vs e (x ∷ xs) w = cc
  listed_at (n ∷ sizes) key vs e [] w = cc
  listed_at (n ∷ sizes) key vs e (x ∷ xs) w =
      let parts = within_parts x n (are_within sizes xs) w in
      let row = below_at (λ y. listed told sizes (key ++ y ∷ [])) (cells sizes) (λ y ys h. listed_length sizes (key ++ y ∷ []) ys h) n vs e x parts.0 in
      let rest = listed_at sizes (key ++ x ∷ []) row.0 row.1 xs parts.1 in
      ap told (sym (append_assoc key (x ∷ []) xs)) ∙ rest ∙ ap Some (sym (row.2 (cell sizes xs) (cell_within sizes xs parts.1)))

  -- where a part lacks
  below_lacks : (f : ℕ → Option (List ℕ)) (n : ℕ) → joined_below n f ≡ None → (x : ℕ) × (x < n) × (f x ≡ None)
  below_lacks f zero e = cc
  below_lacks f (suc n) e = by (joined_below n f) refl (below_lacks f n)
    where
      by : (o : Option (List ℕ)) → joined_below n f ≡ o → (joined_below n f ≡ None → (x : ℕ) × (x < n) × (f x ≡ None)) → (x : ℕ) × (x < suc n) × (f x ≡ None)
      by None h earlier = let r = earlier h in (r.0, omega (arith, r.1), r.2)
      by (Some xs) h earlier = (n, omega arith, both_none (λ ys zs. ys ++ zs) (joined_below n f) (f n) xs h e)

  pub listed_lacks : (sizes key : List ℕ) → listed told sizes key ≡ None → (xs : List ℕ) × (are_within sizes xs ≡ true) × (told (key ++ xs) ≡ None)
  listed_lacks [] key e = ([], refl, ap told (append-nil key) ∙ one (told key) e)
    where
      one : (o : Option ℕ) → option_map (λ x. x ∷ []) o ≡ None → o ≡ None
      one None h = refl
      one (Some x) h = cc
  listed_lacks (n ∷ sizes) key e =
      let row = below_lacks (λ y. listed told sizes (key ++ y ∷ [])) n e in
      let rest = listed_lacks sizes (key ++ row.0 ∷ []) row.2 in
      let small : nat_lt row.0 n ≡ true = grind (arith, nat_tests, row.1) in
      (row.0 ∷ rest.0, rw small rest.1, ap told (sym (append_assoc key (row.0 ∷ []) rest.0)) ∙ rest.2)

-- ---- on the way to a place

positive : (sizes : List ℕ) (i : ℕ) → 0 < cells sizes → 0 < cells (drop i sizes)
positive sizes zero h = h
positive [] (suc i) h = h
positive (n ∷ sizes) (suc i) h = positive sizes i (second n (cells sizes) h)
  where
    second : (a b : ℕ) → 0 < a * b → 0 < b
    second a zero k = let none : a * 0 ≡ 0 = omega arith in omega (arith, none, k)
    second a (suc b) k = omega arith

-- other numbers of elements are not there
pub uneven : (sizes xs : List ℕ) → (length xs ≡ length sizes → ⊥) → are_within sizes xs ≡ false
uneven [] [] h = absurd (h refl)
uneven [] (x ∷ xs) h = refl
uneven (n ∷ sizes) [] h = refl
uneven (n ∷ sizes) (x ∷ xs) h = rw (uneven sizes xs (λ e. h (omega (arith, e)))) (and_no (nat_lt x n))
  where
    and_no : (b : Bool) → (b && false) ≡ false
    and_no true = refl
    and_no false = refl

-- the first i elements are there, and this many lists with others for them come before
pub record Reaches (sizes xs : List ℕ) (i at : ℕ) : Type 0 where
  pub within : are_within sizes xs ≡ are_within (drop i sizes) (drop i xs)
  pub place : cell sizes xs ≡ at * cells (drop i sizes) + cell (drop i sizes) (drop i xs)
  pub room : (at + 1) * cells (drop i sizes) ≤ cells sizes

pub reaches_first : (sizes xs : List ℕ) → Reaches sizes xs 0 0
reaches_first sizes xs = record { within = refl; place = omega arith; room = omega arith }

module _ (sizes xs : List ℕ) (i at n x : ℕ) (size_is : drop i sizes ≡ n ∷ drop (i + 1) sizes) (element_is : drop i xs ≡ x ∷ drop (i + 1) xs) (r : Reaches sizes xs i at) where
  pub reaches_more : x < n → Reaches sizes xs (i + 1) (at * n + x)
  reaches_more lt =
      let small : nat_lt x n ≡ true = grind (arith, nat_tests, lt) in
      let rest = cells (drop (i + 1) sizes) in
      let later = cell (drop (i + 1) sizes) (drop (i + 1) xs) in
      let place' : cell sizes xs ≡ at * (n * rest) + (x * rest + later) = rw (size_is, element_is) at r.place in
      let room' : (at + 1) * (n * rest) ≤ cells sizes = rw size_is at r.room in
      let within' : are_within sizes xs ≡ (nat_lt x n && are_within (drop (i + 1) sizes) (drop (i + 1) xs)) = rw (size_is, element_is) at r.within in
      record {
        within = within' ∙ (rw small refl);
        place = place' ∙ split at n x rest later;
        room = fits at n x rest (cells sizes) lt room';
      }
    where
      split : (a b c d e : ℕ) → a * (b * d) + (c * d + e) ≡ (a * b + c) * d + e
      split a b c d e = omega arith

      fits : (a b c d most : ℕ) → c < b → (a + 1) * (b * d) ≤ most → (a * b + c + 1) * d ≤ most
      fits a b c zero most l h = omega arith
      fits a b c (suc d) most l h = omega (arith, more (c + 1) b (suc d) (omega arith), h)
        where
          more : (s t u : ℕ) → s ≤ t → s * u ≤ t * u
          more zero t u k = omega arith
          more (suc s) zero u k = absurd (omega arith)
          more (suc s) (suc t) u k = omega (arith, more s t u (omega arith))

  pub misses : n ≤ x → are_within sizes xs ≡ false
  misses le =
      let large : nat_lt x n ≡ false = grind (arith, nat_tests, le) in
      let within' : are_within sizes xs ≡ (nat_lt x n && are_within (drop (i + 1) sizes) (drop (i + 1) xs)) = rw (size_is, element_is) at r.within in
      within' ∙ rw large refl

  pub in_table : 0 < cells sizes → x < n → at * n + x < cells sizes
  in_table some lt =
      let next = reaches_more lt in
      let one : 0 < cells (drop (i + 1) sizes) = positive sizes (i + 1) some in
      below (at * n + x) (cells (drop (i + 1) sizes)) (cells sizes) one next.room
    where
      below : (a b most : ℕ) → 0 < b → (a + 1) * b ≤ most → a < most
      below a zero most k h = absurd (omega arith)
      below a (suc b) most k h = omega (arith, h)

pub reaches_last : (sizes xs : List ℕ) (i at : ℕ) → drop i sizes ≡ [] → drop i xs ≡ [] → Reaches sizes xs i at → (are_within sizes xs ≡ true) × (cell sizes xs ≡ at)
reaches_last sizes xs i at s e r =
    let within' : are_within sizes xs ≡ true = rw (s, e) at r.within in
    let place' : cell sizes xs ≡ at * 1 + 0 = rw s at r.place in
    (within', omega (arith, place'))
