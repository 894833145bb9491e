-- New symbols of a line, as code finds them.
use Rattle.std.specs.Prelude.{ℕ, zero, suc, ◌≡◌, ◌+◌, ◌<◌, ◌≤◌, ◌==◌, ◌||◌, Bool, true, false, List, [], ◌∷◌, ◌++◌, length, take, get_or, slice_get, Some, refl}
use Rattle.std.specs.List.{All as Every, AllByRecursion as Each, list_any}
use Rattle.std.proofs.Common.{ap, sym, subst, ◌∙◌, arith, ◌⊎◌, inl, inr}
use Rattle.std.proofs.lemmas.List.{length-append}
use Rattle.std.proofs.lemmas.List.Folds.{list_any-append, list_any_more, list_any_at, list_any_none}
use Rattle.std.proofs.lemmas.Option.{get_or_from_slice_get}
use Rattle.std.proofs.lemmas.Bool.Decides.{nat_tests}
use Rattle.fof_terms.specs.declared.form.Form.{Form}
use Rattle.fof_terms.specs.Occurs.{occurs_in}
use Rattle.fof_terms.specs.Standing.{is_listed, GainsOnly}
use Rattle.kernel.specs.Statements.{Statements}
use Rattle.kernel.specs.Entries.{IsFresh}
use Rattle.function_choices.specs.NewSymbols.{AreNewSymbols}
use Rattle.function_choices.specs.code.Offered.{IsAdded}

neither : (a b : Bool) → (a || b) ≡ false → (a ≡ false) × (b ≡ false)
neither true b e = absurd (cc)
neither false b e = (refl, e)

-- a symbol is new exactly where no formula has it
none_all : {X : Type 0} (f : X → Bool) (xs : List X) → list_any f xs ≡ false → Every (λ x. f x ≡ false) xs
none_all f [] e k d lt = absurd (omega arith)
none_all f (x ∷ xs) e zero d lt = (neither (f x) (list_any f xs) e).0
none_all f (x ∷ xs) e (suc k) d lt = none_all f xs (neither (f x) (list_any f xs) e).1 k d (omega arith)

module _ (t : Statements) (f : ℕ) (old new : List ℕ) where
  pub full : new ≡ old → 100 ≤ length old → IsAdded t f old new
  full e h = inr (e, λ lt fresh. absurd (omega arith))

  pub used : new ≡ old → (b : Bool) → b ≡ true → b ≡ list_any (occurs_in f) t.formulas → IsAdded t f old new
  used e b on_ is = inr (e, λ lt fresh. (let off : list_any (occurs_in f) t.formulas ≡ false = list_any_none (occurs_in f) t.formulas fresh in absurd (cc)))

  pub listed : new ≡ old → is_listed old f ≡ true → IsAdded t f old new
  listed e h = inr (e, λ lt fresh. h)

  pub added : new ≡ old ++ f ∷ [] → length old < 100 → (b : Bool) → b ≡ false → b ≡ list_any (occurs_in f) t.formulas → IsAdded t f old new
  added e lt b off is = inl (e, lt, none_all (occurs_in f) t.formulas (sym is ∙ off))

-- the symbols that are found among the first of all
pub record AreFound (t : Statements) (line : Form) (all : List ℕ) (i : ℕ) (found : List ℕ) : Type 0 where
  pub fresh : Each (λ f. IsFresh f t) found
  pub occur : Each (λ f. occurs_in f line ≡ true) found
  pub few : length found ≤ 100
  pub each : length found < 100 → (f : ℕ) → IsFresh f t → is_listed (take i all) f ≡ true → is_listed found f ≡ true

pub each_snoc : {X : Type 0} (P : X → Type 0) (xs : List X) (x : X) → Each P xs → P x → Each P (xs ++ x ∷ [])
each_snoc P [] x all h = (h, tt)
each_snoc P (y ∷ xs) x all h = (all.0, each_snoc P xs x all.1 h)

one_of : (a b : Bool) → (a || b) ≡ true → (a ≡ true) ⊎ (b ≡ true)
one_of true b e = inl refl
one_of false b e = inr e

or_left : (a b : Bool) → a ≡ true → (a || b) ≡ true
or_left a b e = rw e refl

or_right : (a b : Bool) → b ≡ true → (a || b) ≡ true
or_right true b e = refl
or_right false b e = e

same_number : (a b : ℕ) → (a == b) ≡ true → a ≡ b
same_number a b e = grind (arith, nat_tests)

number_same : (a : ℕ) → (a == a) ≡ true
number_same a = grind (arith, nat_tests)

-- the symbols of the line are those that were listed
stands : (line : Form) (start whole all : List ℕ) (f : ℕ) → start ≡ [] → all ≡ whole → GainsOnly start (λ k. occurs_in k line) whole → is_listed all f ≡ occurs_in f line
stands line start whole all f e ew g = ap (λ xs. is_listed xs f) ew ∙ g.gained f ∙ ap (λ xs. is_listed xs f || occurs_in f line) e

module _ (t : Statements) (line : Form) (start whole all : List ℕ) (es : start ≡ []) (ew : all ≡ whole) (g : GainsOnly start (λ k. occurs_in k line) whole) where
  pub none_found : (found : List ℕ) → found ≡ [] → AreFound t line all 0 found
  none_found found e = subst (AreFound t line all 0) (sym e) (record { fresh = tt; occur = tt; few = (omega arith); each = λ lt f fresh h. h })

  module _ (i f : ℕ) (lt : i < length all) (there : slice_get all i ≡ Some f) (old new : List ℕ) (w : AreFound t line all i old) where
    is : f ≡ get_or all i f
    is = sym (get_or_from_slice_get all i f f there)

    -- what is listed among one more
    earlier : (k : ℕ) → is_listed (take (i + 1) all) k ≡ true → (is_listed (take i all) k ≡ true) ⊎ (f ≡ k)
    earlier k h =
        elim (one_of (is_listed (take i all) k) (get_or all i f == k) (sym (list_any_more (λ s. s == k) all i f lt) ∙ h)) [
          | inl e ↦ inl e
          | inr e ↦ inr (is ∙ same_number (get_or all i f) k e)
        ]

    occurs : occurs_in f line ≡ true
    occurs = sym (stands line start whole all f es ew g) ∙ list_any_at (λ s. s == f) all i f lt (ap (λ n. n == f) (sym is) ∙ number_same f)

    pub one_found : IsAdded t f old new → AreFound t line all (i + 1) new
    one_found (inl a) = subst (AreFound t line all (i + 1)) (sym a.0) (record {
      fresh = each_snoc (λ k. IsFresh k t) old f w.fresh a.2;
      occur = each_snoc (λ k. occurs_in k line ≡ true) old f w.occur occurs;
      few = (let one : length (old ++ f ∷ []) ≡ length old + 1 = length-append old (f ∷ []) in let less = a.1 in omega arith);
      each = λ less k fresh h. list_any-append (λ s. s == k) old (f ∷ []) ∙ elim (earlier k h) [
        | inl e ↦ or_left (is_listed old k) (is_listed (f ∷ []) k) (w.each a.1 k fresh e)
        | inr e ↦ or_right (is_listed old k) (is_listed (f ∷ []) k) (or_left (f == k) false (ap (λ n. f == n) (sym e) ∙ number_same f))
      ];
    })
    one_found (inr a) = subst (AreFound t line all (i + 1)) (sym a.0) (record {
      fresh = w.fresh;
      occur = w.occur;
      few = w.few;
      each = λ less k fresh h. elim (earlier k h) [
        | inl e ↦ w.each less k fresh e
        | inr e ↦ subst (λ n. is_listed old n ≡ true) e (a.1 less (subst (λ n. IsFresh n t) (sym e) fresh))
      ];
    })

  pub all_found : (i : ℕ) (found : List ℕ) → take i all ≡ all → AreFound t line all i found → AreNewSymbols t line found
  all_found i found e w = record {
    new = w.fresh;
    occur = w.occur;
    few = w.few;
    all = λ less f fresh h. w.each less f fresh (ap (λ xs. is_listed xs f) e ∙ stands line start whole all f es ew g ∙ h);
  }
