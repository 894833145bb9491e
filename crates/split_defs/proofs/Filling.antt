-- What is renamed, with the variables back in the places of the arguments, is what it was.
use Rattle.std.proofs.Common.{ℕ, ◌≡◌, ◌≤◌, ◌+◌, ◌-◌, ◌<◌, Bool, true, false, cond, List, [], ◌∷◌, map, length, get_or, nat_eq, nat_lt, arith, zero, suc, refl, sym, ap, subst, ◌∙◌, inl, inr, Option, Some, None, slice_get}
use Rattle.std.specs.Prelude.{position}
use Rattle.std.specs.List.{position_or_len, AllByRecursion, IsDistinct}
use Rattle.std.proofs.lemmas.Bool.Decides.{nat_tests}
use Rattle.std.proofs.lemmas.Bool.{lt-ltb, le-ltb}
use Rattle.std.proofs.lemmas.List.Sums.{passes_at_first}
use Rattle.fof_terms.proofs.LiftingLaws.{below_or_above, smaller, greater, here, moves}
use Rattle.fof_terms.specs.Lift.{lifted_term}
use Rattle.fof_terms.specs.Instance.{instance_term, instance_at}
use Rattle.fof_terms.proofs.Walks.{TermWalk, FormWalk, staying, staying_term, placing, placing_term, both_walks, both_terms, same_terms, same_forms}
use Rattle.fof_terms.specs.declared.term.Term.{Term, Var}
use Rattle.fof_terms.specs.declared.form.Form.{Form}
use Rattle.kernel.specs.Entries.{variables}
use Rattle.split_defs.specs.code.Renaming.{argument, place_in, renamed, renamed_term}
use Rattle.split_defs.proofs.RenamingFacts.{renamed_term-Var, renamed_term-App, renamed-Atom, renamed-Eq, renamed-Not, renamed-And, renamed-Or, renamed-Imp, renamed-Iff, renamed-All, renamed-Ex}
use Rattle.split_defs.proofs.Distinct.{is_equal, equals_itself}

-- Places.
there : (xs : List ℕ) (i d : ℕ) → i < length xs → slice_get xs i ≡ Some (get_or xs i d)
there [] i d lt = absurd (omega arith)
there (x ∷ xs) zero d lt = refl
there (x ∷ xs) (suc i) d lt = there xs i d (omega arith)

pub first_place : (xs : List ℕ) (k i : ℕ) → position (nat_eq k) xs ≡ Some i → (i < length xs) × (slice_get xs i ≡ Some k)
first_place xs k i e = placed (nat_lt (position_or_len (nat_eq k) xs) (length xs)) refl e where
  placed : (b : Bool) → nat_lt (position_or_len (nat_eq k) xs) (length xs) ≡ b → cond b (Some (position_or_len (nat_eq k) xs)) None ≡ Some i → (i < length xs) × (slice_get xs i ≡ Some k)
  placed true is at =
      let same : position_or_len (nat_eq k) xs ≡ i = cc in
      let lt : position_or_len (nat_eq k) xs < length xs = grind (arith, nat_tests) in
      let passes : nat_eq k (get_or xs (position_or_len (nat_eq k) xs) 0) ≡ true = passes_at_first (nat_eq k) xs 0 lt in
      let value : k ≡ get_or xs i 0 = subst (λ (j : ℕ). k ≡ get_or xs j 0) same (is_equal k (get_or xs (position_or_len (nat_eq k) xs) 0) passes) in
      let within : i < length xs = subst (λ (j : ℕ). j < length xs) same lt in
      (within, subst (λ (n : ℕ). slice_get xs i ≡ Some n) (sym value) (there xs i 0 within))
  placed false is at = absurd (let no : None ≡ Some i = at in cc)

-- the variables in the places of the arguments, the first one in that of the outermost
abbrev pub filled_term : List ℕ → ℕ → Term → Term
filled_term [] d t = t
filled_term (x ∷ xs) d t = filled_term xs d (instance_term (Var x) (length xs + d) t)

abbrev pub filled : List ℕ → ℕ → Form → Form
filled [] d a = a
filled (x ∷ xs) d a = filled xs d (instance_at (Var x) (length xs + d) a)

pub filling_term : (xs : List ℕ) (d : ℕ) → TermWalk (filled_term xs d)
filling_term [] d = staying_term
filling_term (x ∷ xs) d = both_terms (filled_term xs d) (instance_term (Var x) (length xs + d)) (filling_term xs d) (placing_term (Var x) (length xs + d))

next_place : (n d : ℕ) → n + (d + 1) ≡ n + d + 1
next_place n d = omega arith

pub filling : (xs : List ℕ) → FormWalk (filled_term xs) (filled xs)
filling [] = staying
filling (x ∷ xs) =
    both_walks (filled_term xs) (λ d. instance_term (Var x) (length xs + d)) (filled xs) (λ d. instance_at (Var x) (length xs + d)) (filling xs) (placing (Var x) (λ d. length xs + d) (next_place (length xs)))

pub renaming_term : (xs : List ℕ) (d : ℕ) → TermWalk (renamed_term xs d)
renaming_term xs d = record { app = λ s ts. renamed_term-App xs d s ts }

pub renaming : (xs : List ℕ) → FormWalk (renamed_term xs) (renamed xs)
renaming xs = record {
  atom = λ d p ts. renamed-Atom xs d p ts;
  eq = λ d l r. renamed-Eq xs d l r;
  not = λ d a. renamed-Not xs d a;
  and = λ d as_. renamed-And xs d as_;
  or = λ d as_. renamed-Or xs d as_;
  imp = λ d a b. renamed-Imp xs d a b;
  iff = λ d a b. renamed-Iff xs d a b;
  all = λ d s a. renamed-All xs d s a;
  ex = λ d s a. renamed-Ex xs d s a;
}

-- a variable below, one of the arguments, and one beyond
filled_low : (xs : List ℕ) (d k : ℕ) → k < d → filled_term xs d (Var k) ≡ Var k
filled_low [] d k lt = refl
filled_low (x ∷ xs) d k lt = ap (filled_term xs d) (smaller (Var x) (length xs + d) k (omega arith)) ∙ filled_low xs d k lt

filled_high : (xs : List ℕ) (d k j : ℕ) → d ≤ j → k ≡ length xs + j → filled_term xs d (Var k) ≡ Var j
filled_high [] d k j le e = ap Var (let same : k ≡ j = omega arith in same)
filled_high (x ∷ xs) d k j le e = ap (filled_term xs d) (greater (Var x) (length xs + d) k (omega arith)) ∙ filled_high xs d (k - 1) j le (omega arith)

filled_here : (xs : List ℕ) (d i x k : ℕ) → slice_get xs i ≡ Some x → i < length xs → k ≡ length xs - 1 - i + d → filled_term xs d (Var k) ≡ Var (x + d)
filled_here [] d i x k at lt e = absurd (omega arith)
filled_here (y ∷ xs) d zero x k at lt e =
    let same : y ≡ x = cc in
    let it : k ≡ length xs + d = omega arith in
    let moved : lifted_term (length xs + d) 0 (Var y) ≡ Var (y + (length xs + d)) = moves (length xs + d) 0 y (omega arith) in
    ap (filled_term xs d) (here (Var y) (length xs + d) k it ∙ moved) ∙ filled_high xs d (y + (length xs + d)) (x + d) (omega arith) (omega (arith, same))
filled_here (y ∷ xs) d (suc i) x k at lt e =
    ap (filled_term xs d) (smaller (Var y) (length xs + d) k (omega arith)) ∙ filled_here xs d i x k at (omega arith) (omega arith)

back_var : (xs : List ℕ) (d k : ℕ) → filled_term xs d (renamed_term xs d (Var k)) ≡ Var k
back_var xs d k =
    elim (below_or_above k d) [
      | inl lt ↦ let same : renamed_term xs d (Var k) ≡ Var k = rw (renamed_term-Var, lt-ltb k d lt) refl in ap (filled_term xs d) same ∙ filled_low xs d k lt
      | inr le ↦
          let same : renamed_term xs d (Var k) ≡ Var (argument xs (k - d) + d) = rw (renamed_term-Var, le-ltb k d le) refl in
          ap (filled_term xs d) same ∙ placed (position (nat_eq (k - d)) xs) refl le
    ] where
      placed : (o : Option ℕ) → position (nat_eq (k - d)) xs ≡ o → d ≤ k → filled_term xs d (Var (place_in (length xs) (k - d) o + d)) ≡ Var k
      placed None e le = filled_high xs d (length xs + (k - d) + d) k le (omega arith)
      placed (Some i) e le =
          let at = first_place xs (k - d) i e in
          let same : k - d + d ≡ k = omega arith in
          filled_here xs d i (k - d) (length xs - 1 - i + d) at.1 at.0 refl ∙ ap Var same

pub term_back : (xs : List ℕ) (d : ℕ) (t : Term) → filled_term xs d (renamed_term xs d t) ≡ t
term_back xs d = same_terms (λ t. filled_term xs d (renamed_term xs d t)) (λ t. t) (both_terms (filled_term xs d) (renamed_term xs d) (filling_term xs d) (renaming_term xs d)) staying_term (back_var xs d)

pub form_back : (xs : List ℕ) (a : Form) (d : ℕ) → filled xs d (renamed xs d a) ≡ a
form_back xs =
    same_forms (λ d t. filled_term xs d (renamed_term xs d t)) (λ d t. t) (λ d a. filled xs d (renamed xs d a)) (λ d a. a)
    (both_walks (filled_term xs) (renamed_term xs) (filled xs) (renamed xs) (filling xs) (renaming xs)) staying (term_back xs)

-- Distinct variables become the arguments themselves.
member_false : (x : ℕ) (ys : List ℕ) (i n : ℕ) → AllByRecursion (λ y. nat_eq x y ≡ false) ys → slice_get ys i ≡ Some n → nat_eq n x ≡ false
member_false x [] i n all at = absurd (let no : None ≡ Some n = at in cc)
member_false x (y ∷ ys) zero n all at = let same : y ≡ n = cc in let apart : nat_eq x n ≡ false = rw same at all.0 in grind (arith, nat_tests)
member_false x (y ∷ ys) (suc i) n all at = member_false x ys i n all.1 at

pub place_of : (xs : List ℕ) (i x : ℕ) → IsDistinct nat_eq xs → slice_get xs i ≡ Some x → position_or_len (nat_eq x) xs ≡ i
unfolding IsDistinct
place_of [] i x apart at = absurd (let no : None ≡ Some x = at in cc)
place_of (y ∷ xs) zero x apart at = let same : y ≡ x = cc in let is : nat_eq x y ≡ true = rw same (equals_itself x) in rw is refl
place_of (y ∷ xs) (suc i) x apart at =
    let other : nat_eq x y ≡ false = member_false y xs i x apart.0 at in
    rw other (omega (arith, place_of xs i x apart.1 at))

pub argument_at : (xs : List ℕ) (i x : ℕ) → IsDistinct nat_eq xs → slice_get xs i ≡ Some x → i < length xs → argument xs x ≡ length xs - 1 - i
argument_at xs i x apart at lt =
    let place = place_of xs i x apart at in
    let below : nat_lt (position_or_len (nat_eq x) xs) (length xs) ≡ true = rw place (lt-ltb i (length xs) lt) in
    let found : position (nat_eq x) xs ≡ Some i = rw (below, place) refl in
    ap (place_in (length xs) x) found

become_arguments : (xs zs : List ℕ) → ((i x : ℕ) → slice_get zs i ≡ Some x → i < length zs → argument xs x ≡ length zs - 1 - i) → map (renamed_term xs 0) (map Var zs) ≡ variables (length zs)
become_arguments xs [] h = refl
become_arguments xs (z ∷ zs) h =
    let is : argument xs z ≡ length zs = h 0 z refl (omega arith) ∙ (let same : suc (length zs) - 1 - 0 ≡ length zs = omega arith in same) in
    let none : z - 0 ≡ z = omega arith in
    let num : argument xs (z - 0) + 0 ≡ length zs = ap (λ (j : ℕ). argument xs j + 0) none ∙ (let same : argument xs z + 0 ≡ length zs = omega (arith, is) in same) in
    let above : nat_lt z 0 ≡ false = le-ltb z 0 (omega arith) in
    let first : renamed_term xs 0 (Var z) ≡ Var (length zs) = rw (renamed_term-Var, above) (ap Var num) in
    rw (first, become_arguments xs zs (λ i x at lt. h (suc i) x at (omega arith) ∙ (let same : suc (length zs) - 1 - suc i ≡ length zs - 1 - i = omega arith in same))) refl

pub arguments_are : (xs : List ℕ) → IsDistinct nat_eq xs → map (renamed_term xs 0) (map Var xs) ≡ variables (length xs)
arguments_are xs apart = become_arguments xs xs (λ i x at lt. argument_at xs i x apart at lt)
