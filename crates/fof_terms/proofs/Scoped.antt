-- What is well-sorted, taken together and apart by connectives.
use Rattle.std.specs.Prelude.{ℕ, ◌≡◌, ◌+◌, ◌<◌, ◌≤◌, ◌&&◌, nat_eq, nat_lt, Option, None, true, max, List, [], ◌∷◌, length, map, slice_get, Some, refl}
use Rattle.std.specs.List.{AllByRecursion, list_all}
use Rattle.std.proofs.Common.{ap, arith, zero, suc}
use Rattle.std.proofs.lemmas.Bool.Decides.{nat_tests}
use Rattle.std.proofs.lemmas.Bool.{lt-ltb}
use Rattle.fof_terms.specs.Vocabulary.{Vocabulary}
use Rattle.fof_terms.specs.Lift.{greatest}
use Rattle.fof_terms.specs.Sorts.{IsScope, SortedTo, Sorted, one_sort, sort_of_term, is_sorted, binder_depth}
use Rattle.fof_terms.proofs.SortsFacts.{is_sorted-Eq, binder_depth-Eq, is_sorted-Not, is_sorted-And, is_sorted-Or, is_sorted-Imp, is_sorted-Iff, is_sorted-All, is_sorted-Ex, binder_depth-Not, binder_depth-And, binder_depth-Or, binder_depth-Imp, binder_depth-Iff, binder_depth-All, binder_depth-Ex}
use Rattle.fof_terms.proofs.LiftingLaws.{both, each_true}
use Rattle.fof_terms.specs.declared.term.Term.{Term}
use Rattle.fof_terms.specs.declared.form.Form.{Form, Eq, Not, And, Or, Imp, Iff, All, Ex}

nat_eq_same : (s : ℕ) → nat_eq s s ≡ true
nat_eq_same s = grind (arith, nat_tests)

one_sort_both : (l r : Option ℕ) → one_sort l r ≡ true → (s : ℕ) × (l ≡ Some s) × (r ≡ Some s)
one_sort_both l None e = cc
one_sort_both None (Some y) e = cc
one_sort_both (Some x) (Some y) e = let same : x ≡ y = grind (arith, nat_tests) in (y, ap Some same, refl)

less_true : (a b : ℕ) → nat_lt a b ≡ true → a < b
less_true a b e = grind (arith, nat_tests)

greatest_within : {X : Type 0} (f : X → ℕ) (n : ℕ) (xs : List X) → AllByRecursion (λ x. f x ≤ n) xs → greatest (map f xs) ≤ n
greatest_within f n [] all = omega arith
greatest_within f n (x ∷ xs) all = omega (arith, all.0, greatest_within f n xs all.1)

each_within : {X : Type 0} (f : X → ℕ) (n : ℕ) (xs : List X) → greatest (map f xs) ≤ n → AllByRecursion (λ x. f x ≤ n) xs
each_within f n [] le = tt
each_within f n (x ∷ xs) le = (omega arith, each_within f n xs (omega arith))

-- what holds of each member holds of the member at a place
pub member_of : {X : Type 0} (P : X → Type 0) (xs : List X) (k : ℕ) (x : X) → AllByRecursion P xs → slice_get xs k ≡ Some x → P x
member_of P [] k x all e = cc
member_of P (y ∷ xs) zero x all e = let same : y ≡ x = cc in rw same at all.0
member_of P (y ∷ xs) (suc k) x all e = member_of P xs k x all.1 e

module _ (v : Vocabulary) (scope : List ℕ) where
  pub raised : (n m : ℕ) (a : Form) → n ≤ m → SortedTo n v scope a → SortedTo m v scope a
  raised n m a le s = record { scope_fits = s.scope_fits; few_binders = omega (arith, s.few_binders); fits = s.fits }

  module _ (n : ℕ) where
    pub not_sorted : (a : Form) → SortedTo n v scope a → SortedTo n v scope (Not a)
    not_sorted a s = record { scope_fits = s.scope_fits; few_binders = rw binder_depth-Not s.few_binders; fits = rw is_sorted-Not s.fits }

    pub sorted_of_not : (a : Form) → SortedTo n v scope (Not a) → SortedTo n v scope a
    sorted_of_not a s = record { scope_fits = s.scope_fits; few_binders = rw binder_depth-Not at s.few_binders; fits = rw is_sorted-Not at s.fits }

    each_sorted : IsScope v scope → (as_ : List Form) → AllByRecursion (λ a. binder_depth a ≤ n) as_ → AllByRecursion (λ a. is_sorted v scope a ≡ true) as_
        → AllByRecursion (SortedTo n v scope) as_
    each_sorted sc [] depths fits = tt
    each_sorted sc (a ∷ as_) depths fits = (record { scope_fits = sc; few_binders = depths.0; fits = fits.0 }, each_sorted sc as_ depths.1 fits.1)

    depths_of : (as_ : List Form) → AllByRecursion (SortedTo n v scope) as_ → AllByRecursion (λ a. binder_depth a ≤ n) as_
    depths_of [] all = tt
    depths_of (a ∷ as_) all = (all.0.few_binders, depths_of as_ all.1)

    fits_of : (as_ : List Form) → AllByRecursion (SortedTo n v scope) as_ → list_all (is_sorted v scope) as_ ≡ true
    fits_of [] all = refl
    fits_of (a ∷ as_) all = rw (all.0.fits, fits_of as_ all.1) refl

    pub and_sorted : IsScope v scope → (as_ : List Form) → AllByRecursion (SortedTo n v scope) as_ → SortedTo n v scope (And as_)
    and_sorted sc as_ all = record {
      scope_fits = sc;
      few_binders = rw binder_depth-And (greatest_within binder_depth n as_ (depths_of as_ all));
      fits = rw is_sorted-And (fits_of as_ all);
    }

    pub or_sorted : IsScope v scope → (as_ : List Form) → AllByRecursion (SortedTo n v scope) as_ → SortedTo n v scope (Or as_)
    or_sorted sc as_ all = record {
      scope_fits = sc;
      few_binders = rw binder_depth-Or (greatest_within binder_depth n as_ (depths_of as_ all));
      fits = rw is_sorted-Or (fits_of as_ all);
    }

    pub sorted_of_and : (as_ : List Form) → SortedTo n v scope (And as_) → AllByRecursion (SortedTo n v scope) as_
    sorted_of_and as_ s = each_sorted s.scope_fits as_ (each_within binder_depth n as_ (rw binder_depth-And at s.few_binders)) (each_true (is_sorted v scope) as_ (rw is_sorted-And at s.fits))

    pub sorted_of_or : (as_ : List Form) → SortedTo n v scope (Or as_) → AllByRecursion (SortedTo n v scope) as_
    sorted_of_or as_ s = each_sorted s.scope_fits as_ (each_within binder_depth n as_ (rw binder_depth-Or at s.few_binders)) (each_true (is_sorted v scope) as_ (rw is_sorted-Or at s.fits))

    pub imp_sorted : (a b : Form) → SortedTo n v scope a → SortedTo n v scope b → SortedTo n v scope (Imp a b)
    imp_sorted a b s r = record {
      scope_fits = s.scope_fits;
      few_binders = rw binder_depth-Imp (omega (arith, s.few_binders, r.few_binders));
      fits = rw (is_sorted-Imp, s.fits, r.fits) refl;
    }

    pub iff_sorted : (a b : Form) → SortedTo n v scope a → SortedTo n v scope b → SortedTo n v scope (Iff a b)
    iff_sorted a b s r = record {
      scope_fits = s.scope_fits;
      few_binders = rw binder_depth-Iff (omega (arith, s.few_binders, r.few_binders));
      fits = rw (is_sorted-Iff, s.fits, r.fits) refl;
    }

    sides : (a b : Form) → IsScope v scope → max (binder_depth a) (binder_depth b) ≤ n → is_sorted v scope a && is_sorted v scope b ≡ true → SortedTo n v scope a × SortedTo n v scope b
    sides a b sc few fits =
        let parts = both (is_sorted v scope a) (is_sorted v scope b) fits in
        (record { scope_fits = sc; few_binders = omega arith; fits = parts.0 }, record { scope_fits = sc; few_binders = omega arith; fits = parts.1 })

    pub sorted_of_imp : (a b : Form) → SortedTo n v scope (Imp a b) → SortedTo n v scope a × SortedTo n v scope b
    sorted_of_imp a b s = sides a b s.scope_fits (rw binder_depth-Imp at s.few_binders) (rw is_sorted-Imp at s.fits)

    pub sorted_of_iff : (a b : Form) → SortedTo n v scope (Iff a b) → SortedTo n v scope a × SortedTo n v scope b
    sorted_of_iff a b s = sides a b s.scope_fits (rw binder_depth-Iff at s.few_binders) (rw is_sorted-Iff at s.fits)

    outside : (s : ℕ) → IsScope v (s ∷ scope) → IsScope v scope
    outside s sc = record { few_variables = omega (arith, sc.few_variables); sorts_exist = sc.sorts_exist.1 }

    pub all_sorted : (s : ℕ) (a : Form) → SortedTo n v (s ∷ scope) a → SortedTo (n + 1) v scope (All s a)
    all_sorted s a r = record {
      scope_fits = outside s r.scope_fits;
      few_binders = rw binder_depth-All (omega (arith, r.few_binders));
      fits = rw (is_sorted-All, lt-ltb s (length v.sorts) r.scope_fits.sorts_exist.0, r.fits) refl;
    }

    pub ex_sorted : (s : ℕ) (a : Form) → SortedTo n v (s ∷ scope) a → SortedTo (n + 1) v scope (Ex s a)
    ex_sorted s a r = record {
      scope_fits = outside s r.scope_fits;
      few_binders = rw binder_depth-Ex (omega (arith, r.few_binders));
      fits = rw (is_sorted-Ex, lt-ltb s (length v.sorts) r.scope_fits.sorts_exist.0, r.fits) refl;
    }

    body : (m s : ℕ) (a : Form) → IsScope v scope → length scope < 2147483647 → binder_depth a ≤ m → nat_lt s (length v.sorts) && is_sorted v (s ∷ scope) a ≡ true → SortedTo m v (s ∷ scope) a
    body m s a sc room few fits =
        let parts = both (nat_lt s (length v.sorts)) (is_sorted v (s ∷ scope) a) fits in
        record {
          scope_fits = record { few_variables = omega arith; sorts_exist = (less_true s (length v.sorts) parts.0, sc.sorts_exist) };
          few_binders = few;
          fits = parts.1;
        }

    pub sorted_of_all : (m s : ℕ) (a : Form) → n ≤ m + 1 → length scope < 2147483647 → SortedTo n v scope (All s a) → SortedTo m v (s ∷ scope) a
    sorted_of_all m s a le room r = body m s a r.scope_fits room (let few : binder_depth a + 1 ≤ n = rw binder_depth-All at r.few_binders in omega arith) (rw is_sorted-All at r.fits)

    pub sorted_of_ex : (m s : ℕ) (a : Form) → n ≤ m + 1 → length scope < 2147483647 → SortedTo n v scope (Ex s a) → SortedTo m v (s ∷ scope) a
    sorted_of_ex m s a le room r = body m s a r.scope_fits room (let few : binder_depth a + 1 ≤ n = rw binder_depth-Ex at r.few_binders in omega arith) (rw is_sorted-Ex at r.fits)

    pub eq_sorted : IsScope v scope → (l r : Term) (s : ℕ) → sort_of_term v scope l ≡ Some s → sort_of_term v scope r ≡ Some s → SortedTo n v scope (Eq l r)
    eq_sorted sc l r s el er = record {
      scope_fits = sc;
      few_binders = rw binder_depth-Eq (omega arith);
      fits = rw (is_sorted-Eq, el, er) (nat_eq_same s);
    }

    pub sorted_of_eq : (l r : Term) → SortedTo n v scope (Eq l r) → (s : ℕ) × (sort_of_term v scope l ≡ Some s) × (sort_of_term v scope r ≡ Some s)
    sorted_of_eq l r s = one_sort_both (sort_of_term v scope l) (sort_of_term v scope r) (rw is_sorted-Eq at s.fits)
