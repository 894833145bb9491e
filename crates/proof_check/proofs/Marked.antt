-- Which symbols are marked once those of formulas were.
use Rattle.std.specs.Prelude.{ℕ, ◌≡◌, ◌<◌, ◌≤◌, ◌||◌, Bool, true, false, List, [], ◌∷◌, ◌++◌, length, get_or, slice_get, Some, refl}
use Rattle.std.specs.List.{All as Each, list_any}
use Rattle.std.proofs.Common.{zero, suc, ap, sym, subst, ◌∙◌, arith, inl, inr}
use Rattle.std.proofs.lemmas.List.Folds.{list_any-append}
use Rattle.fof_terms.specs.Occurs.{occurs_in}
use Rattle.fof_terms.specs.Sorts.{Sorted}
use Rattle.fof_terms.specs.Vocabulary.{Vocabulary}
use Rattle.fof_terms.specs.declared.form.Form.{Form}
use Rattle.fof_terms.proofs.LiftingLaws.{below_or_above}
use Rattle.proof_check.specs.Uses.{is_marked, HasUsed}
use Rattle.proof_check.specs.code.Marking.{Marks}
use Rattle.proof_check.proofs.MarksFacts.{or_false}
use Rattle.proof_check.proofs.InVocabulary.{stays_inside, all_stay_inside}

past_all : (xs : List Bool) (k : ℕ) → length xs ≤ k → get_or xs k false ≡ false
past_all [] k past = refl
past_all (x ∷ xs) zero past = absurd (omega arith)
past_all (x ∷ xs) (suc k) past = past_all xs k (omega arith)

-- the test holds of no number past the marks
marked_all : (passes : ℕ → Bool) (old new : List Bool) → ((k : ℕ) → length old ≤ k → passes k ≡ false) → Marks passes old new → (k : ℕ) → is_marked new k ≡ (is_marked old k || passes k)
marked_all passes old new none m k =
    elim (below_or_above k (length old)) [
      | inl lt ↦ m.each k lt
      | inr past ↦ past_all new k (subst (λ (n : ℕ). n ≤ k) (sym m.count) past) ∙ sym (ap (λ (b : Bool). b || passes k) (past_all old k past) ∙ none k past)
    ]

-- one formula more
used_more : (v : Vocabulary) (used wide after : List Bool) (formulas : List Form) (a : Form) → length v.symbols ≤ length wide → Sorted v [] a → ((k : ℕ) → is_marked wide k ≡ is_marked used k)
    → HasUsed used formulas → Marks (λ k. occurs_in k a) wide after → HasUsed after (formulas ++ a ∷ [])
used_more v used wide after formulas a room sorted same has m = record {
  marks = λ symbol.
      marked_all (λ k. occurs_in k a) wide after (λ k past. stays_inside v k (omega (arith, room, past)) a sorted) m symbol
      ∙ (ap (λ (b : Bool). b || occurs_in symbol a) (same symbol ∙ has.marks symbol)
      ∙ (ap (λ (b : Bool). list_any (occurs_in symbol) formulas || b) (sym (or_false (occurs_in symbol a)))
      ∙ sym (list_any-append (occurs_in symbol) formulas (a ∷ []))));
}

-- all formulas, at first
pub used_first : (v : Vocabulary) (used wide after : List Bool) (formulas : List Form) → used ≡ [] → length v.symbols ≤ length wide → Each (Sorted v []) formulas → ((k : ℕ) → is_marked wide k ≡ is_marked used k)
    → Marks (λ k. list_any (occurs_in k) formulas) wide after → HasUsed after formulas
used_first v used wide after formulas none room sorted same m = record {
  marks = λ symbol.
      marked_all (λ k. list_any (occurs_in k) formulas) wide after (λ k past. all_stay_inside v k (omega (arith, room, past)) formulas sorted) m symbol
      ∙ ap (λ (b : Bool). b || list_any (occurs_in symbol) formulas) (same symbol ∙ ap (λ (m : List Bool). is_marked m symbol) none);
}

-- wider marks
pub used_same : (used wide : List Bool) (formulas : List Form) → ((k : ℕ) → is_marked wide k ≡ is_marked used k) → HasUsed used formulas → HasUsed wide formulas
used_same used wide formulas same has = record { marks = λ symbol. same symbol ∙ has.marks symbol }

all_push : {X : Type 0} (P : X → Type 0) (xs : List X) (x : X) → Each P xs → P x → Each P (xs ++ x ∷ [])
all_push P [] x all p zero d lt = p
all_push P [] x all p (suc k) d lt = absurd (omega arith)
all_push P (y ∷ ys) x all p zero d lt = all zero d (omega arith)
all_push P (y ∷ ys) x all p (suc k) d lt = all_push P ys x (λ j c there. all (suc j) c (omega arith)) p k d (omega arith)

-- what holds of the formulas and marks holds with one formula more
pub adopted : (v : Vocabulary) (used wide after : List Bool) (formulas next : List Form) (a : Form) → next ≡ formulas ++ a ∷ [] → length v.symbols ≤ length wide → Sorted v [] a → ((k : ℕ) → is_marked wide k ≡ is_marked used k)
    → Each (Sorted v []) formulas → HasUsed used formulas → Marks (λ k. occurs_in k a) wide after → Each (Sorted v []) next × HasUsed after next
adopted v used wide after formulas next a e room sorted same all has m =
    subst (λ (fs : List Form). Each (Sorted v []) fs × HasUsed after fs) (sym e) (all_push (Sorted v []) formulas a all sorted, used_more v used wide after formulas a room sorted same has m)

-- the last of a list
pub last_there : {X : Type 0} (xs : List X) (x : X) (n : ℕ) → n ≡ length xs → slice_get (xs ++ x ∷ []) n ≡ Some x
last_there [] x n e = rw e refl
last_there (y ∷ ys) x zero e = absurd (omega arith)
last_there (y ∷ ys) x (suc n) e = last_there ys x n (omega arith)
