-- How far the loops that read have come.
use Rattle.std.specs.Prelude.{ℕ, ◌≡◌, ◌+◌, ◌<◌, ◌≤◌, ◌||◌, Bool, true, false, not, IsTrue, ◌↔◌, List, [], ◌∷◌, length, map, drop, Option, Some, None, refl}
use Rattle.std.specs.List.{All as Every, list_any}
use Rattle.std.proofs.Common.{ap, sym, ◌∙◌, arith, zero, suc}
use Rattle.fof_terms.specs.declared.term.Term.{Term, Var, App}
use Rattle.fof_terms.specs.declared.form.Form.{Form}
use Rattle.fof_terms.specs.Occurs.{occurs_in}
use Rattle.kernel.specs.Statements.{Statements}
use Rattle.skolem_fresh.specs.declared.just.Use.{Use}
use Rattle.skolem_fresh.specs.declared.leaves.Leaf.{Leaf}
use Rattle.skolem_fresh.specs.code.Reading.{found_in, found_term, read, read_from}
use Rattle.skolem_fresh.proofs.ReadingFacts.{found_term-App-Var}
use Rattle.skolem_fresh.specs.code.Choosing.{IsFree}

none_in : (fs : List (Term → Option Term)) → found_in fs [] ≡ None
none_in [] = refl
none_in (f ∷ fs) = refl

none_read : (s : ℕ) (ls : List Leaf) → read s ls [] ≡ None
none_read s [] = refl
none_read s (l ∷ ls) = refl

past_end : {X : Type 0} (xs : List X) (i : ℕ) → length xs ≤ i → drop i xs ≡ []
past_end [] zero h = refl
past_end [] (suc i) h = refl
past_end (x ∷ xs) zero h = absurd (omega arith)
past_end (x ∷ xs) (suc i) h = past_end xs i (omega arith)

-- a term against a variable
pub nothing_in_variable : (n f k : ℕ) (ts : List Term) (term other : Term) → term ≡ App f ts → other ≡ Var k → None ≡ found_term n term other
nothing_in_variable n f k ts term other is at = sym (rw (is, at) (found_term-App-Var n f ts k ∙ none_in (map (found_term n) ts)))

pub no_term_left : (n i : ℕ) (terms others : List Term) → length others ≤ i → found_in (map (found_term n) (drop i terms)) (drop i others) ≡ found_in (map (found_term n) terms) others → None ≡ found_in (map (found_term n) terms) others
no_term_left n i terms others le same = sym (none_in (map (found_term n) (drop i terms))) ∙ ap (λ (us : List Term). found_in (map (found_term n) (drop i terms)) us) (sym (past_end others i le)) ∙ same

pub no_leaf_left : (e s i : ℕ) (leaves others : List Leaf) → length others ≤ i → read_from e s (drop i leaves) (drop i others) ≡ read_from e s leaves others → None ≡ read_from e s leaves others
no_leaf_left e s i leaves others le same = sym (none_read s (drop i leaves)) ∙ ap (λ (ms : List Leaf). read_from e s (drop i leaves) ms) (sym (past_end others i le)) ∙ same

-- a symbol that stands in none of the formulas
first_false : (a b : Bool) → (a || b) ≡ false → a ≡ false
first_false true b e = e
first_false false b e = refl

rest_false : (a b : Bool) → (a || b) ≡ false → b ≡ false
rest_false true b e = cc
rest_false false b e = e

none_has : {X : Type 0} (f : X → Bool) (xs : List X) → list_any f xs ≡ false → Every (λ x. f x ≡ false) xs
none_has f [] e k d lt = absurd (omega arith)
none_has f (x ∷ xs) e zero d lt = first_false (f x) (list_any f xs) e
none_has f (x ∷ xs) e (suc k) d lt = none_has f xs (rest_false (f x) (list_any f xs) e) k d (omega arith)

both_false : (a b : Bool) → a ≡ false → b ≡ false → (a || b) ≡ false
both_false a b e f = rw (e, f) refl

pub has_none : {X : Type 0} (f : X → Bool) (xs : List X) → Every (λ x. f x ≡ false) xs → list_any f xs ≡ false
has_none f [] h = refl
has_none f (x ∷ xs) h = both_false (f x) (list_any f xs) (h 0 x (omega arith)) (has_none f xs (λ k d lt. h (suc k) d (omega arith)))

module _ (t : Statements) (left : Form) (xs : List ℕ) (u : Use) where
  pub not_same : (b : Bool) → b ≡ false → (IsTrue b ↔ (u.variables ≡ xs)) → IsFree t left xs u → ⊥
  not_same b off e h = let on_ : IsTrue b = e.1 h.same in cc

  pub not_fresh : (b : Bool) → b ≡ true → b ≡ list_any (occurs_in u.function) t.formulas → IsFree t left xs u → ⊥
  not_fresh b on_ e h = let off : list_any (occurs_in u.function) t.formulas ≡ false = has_none (occurs_in u.function) t.formulas h.fresh in cc

  pub not_absent : (b : Bool) → b ≡ true → b ≡ occurs_in u.function left → IsFree t left xs u → ⊥
  not_absent b on_ e h = let off = h.absent in cc

  pub is_free_by : (b c e : Bool) → b ≡ true → (IsTrue b ↔ (u.variables ≡ xs)) → c ≡ false → c ≡ list_any (occurs_in u.function) t.formulas → e ≡ occurs_in u.function left → e ≡ false → IsFree t left xs u
  is_free_by b c e on_ same off used stands absent =
      record { same = same.0 on_; fresh = none_has (occurs_in u.function) t.formulas (sym used ∙ off); absent = sym stands ∙ absent }

-- the last test decides
not_of : (e : Bool) → IsTrue (not e) → e ≡ false
not_of true h = let never : false ≡ true = h in cc
not_of false h = refl

not_false : (e : Bool) → e ≡ false → IsTrue (not e)
not_false true h = cc
not_false false h = refl

pub free_at_end : (t : Statements) (left : Form) (xs : List ℕ) (u : Use) (b c e : Bool) → b ≡ true → (IsTrue b ↔ (u.variables ≡ xs)) → c ≡ false → c ≡ list_any (occurs_in u.function) t.formulas → e ≡ occurs_in u.function left
    → (IsTrue (not e) → IsFree t left xs u) × (IsFree t left xs u → IsTrue (not e))
free_at_end t left xs u b c e on_ same off used stands = (
  λ h. is_free_by t left xs u b c e on_ same off used stands (not_of e h),
  λ h. not_false e (stands ∙ h.absent),
)
