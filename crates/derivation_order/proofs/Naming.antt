-- Names among lines.
use Rattle.std.specs.Prelude.{ℕ, zero, suc, ◌≡◌, ◌⊎◌, ◌<◌, ◌+◌, ◌^◌, Bool, true, List, [], ◌∷◌, ◌++◌, length, map, get_or, Some, slice_get, refl}
use Rattle.std.specs.List.{Contains}
use Rattle.std.proofs.Common.{sym, subst, arith, inl, inr}
use Rattle.std.proofs.lemmas.Bool.{cases_order}
use Rattle.std.proofs.lemmas.List.Elements.{Contains-append_cases, Contains-push_cases}
use Rattle.inference_proofs.proofs.Kept.{Has, has_before, has_behind, has_split}
use Rattle.derivation_items.specs.Words.{Text}
use Rattle.derivation_items.specs.declared.line.ProofLine.{ProofLine}
use Rattle.given_parts.specs.Chosen.{chosen_from}
use Rattle.refutation_lines.specs.Names.{clause_name}
use Rattle.refutation_lines.specs.Places.{in_order}
use Rattle.refutation_lines.proofs.PlaceFacts.{one_place, first_place_first, second_place_first}
use Rattle.derivation_order.specs.Links.{IsNameIn, AreNamesIn}
use Rattle.derivation_order.proofs.Chosen.{given_by}
use Rattle.derivation_order.proofs.Words.{same_number}

-- ---- among joined lines

pub named_has : (lines : List ProofLine) (l : ProofLine) → Has lines l → IsNameIn lines l.name
named_has lines l h = (h.0, l, h.1, refl)

pub named_left : (xs ys : List ProofLine) (word : Text) → IsNameIn xs word → IsNameIn (xs ++ ys) word
named_left xs ys word h = let there = has_before xs ys h.1 (h.0, h.2) in (there.0, h.1, there.1, h.3)

pub named_right : (xs ys : List ProofLine) (word : Text) → IsNameIn ys word → IsNameIn (xs ++ ys) word
named_right xs ys word h = let there = has_behind xs ys h.1 (h.0, h.2) in (there.0, h.1, there.1, h.3)

pub unnamed : (xs ys : List ProofLine) (word : Text) → (IsNameIn xs word → ⊥) → (IsNameIn ys word → ⊥) → IsNameIn (xs ++ ys) word → ⊥
unnamed xs ys word hx hy h =
    elim (has_split xs ys h.1 h.0 h.2) [
      | inl first ↦ hx (first.0, h.1, first.1, h.3)
      | inr later ↦ hy (later.0, h.1, later.1, h.3)
    ]

pub unnamed_nowhere : (word : Text) → IsNameIn [] word → ⊥
unnamed_nowhere word h = let at = h.2 in cc

-- ---- among lines that marked elements give

only_at : (l x : ProofLine) (n : ℕ) → slice_get (x ∷ []) n ≡ Some l → x ≡ l
only_at l x zero e = cc
only_at l x (suc n) e = cc

pub only_line : (x l : ProofLine) → Has (x ∷ []) l → x ≡ l
only_line x l h = only_at l x h.0 h.1

-- a marked element gives a line of which this holds
pub record IsSuch {X : Type 0} (Q : ℕ → X → ProofLine → Type 0) (marks : List Bool) (xs : List X) (l : ProofLine) : Type 0 where
  pub at : ℕ
  pub from : X
  pub marked : slice_get marks at ≡ Some true
  pub there : slice_get xs at ≡ Some from
  pub is : Q at from l

pub such : {X : Type 0} (give : ℕ → X → List ProofLine) (Q : ℕ → X → ProofLine → Type 0) → ((k : ℕ) (x : X) (l : ProofLine) → Has (give k x) l → Q k x l) → (marks : List Bool) (xs : List X) (l : ProofLine)
    → Has (chosen_from 0 give marks xs) l → IsSuch Q marks xs l
such give Q each marks xs l h =
    let g = given_by give 0 marks xs l h in
    let same : 0 + g.at ≡ g.at = omega arith in
    record {
      at = g.at;
      from = g.from;
      marked = g.marked;
      there = g.there;
      is = subst (λ (n : ℕ). Q n g.from l) same (each (0 + g.at) g.from l g.given);
    }

-- ---- one clause, or two

pub nothing_in : (word : Text) → Contains [] word → ⊥
nothing_in word h = let lt = h.1 in omega arith

-- a word of a longer list is the first or one of the others
first_or_other : (first : Text) (words : List Text) (word : Text) → Contains (first ∷ words) word → (first ≡ word) ⊎ Contains words word
first_or_other first words word h =
    elim (Contains-append_cases (first ∷ []) words word h) [
      | inl here ↦ elim (Contains-push_cases [] first word here) [
        | inl none ↦ absurd (nothing_in word none)
        | inr same ↦ inl same
      ]
      | inr other ↦ inr other
    ]

pub one_of_names : (lines : List ProofLine) (words : List Text) → AreNamesIn lines words → (word : Text) → Contains words word → IsNameIn lines word
one_of_names lines [] names word h = absurd (nothing_in word h)
one_of_names lines (first ∷ words) names word h =
    elim (first_or_other first words word h) [
      | inl same ↦ subst (IsNameIn lines) same names.0
      | inr other ↦ one_of_names lines words names.2 word other
    ]

one_in : (other word : Text) → (word ≡ other → ⊥) → Contains (other ∷ []) word → ⊥
one_in other word apart h = at h.0 h.1 h.2
  where
    at : (k : ℕ) → k < length (other ∷ []) → get_or (other ∷ []) k word ≡ word → ⊥
    at zero lt e = apart (sym e)
    at (suc k) lt e = omega arith

pub one_name : (lines : List ProofLine) (word : Text) → IsNameIn lines word → AreNamesIn lines (word ∷ [])
one_name lines word h = (h, nothing_in word, tt)

two_names : (lines : List ProofLine) (word other : Text) → (word ≡ other → ⊥) → IsNameIn lines word → IsNameIn lines other → AreNamesIn lines (word ∷ other ∷ [])
two_names lines word other apart h g = (h, one_in other word apart, (g, nothing_in other, tt))

pub names_in_order : (lines : List ProofLine) (a b : ℕ) → a < 2 ^ 64 → b < 2 ^ 64 → IsNameIn lines (clause_name a) → IsNameIn lines (clause_name b) → AreNamesIn lines (map clause_name (in_order a b))
names_in_order lines a b fits_a fits_b h g =
    elim (cases_order a b) [
      | inl same ↦ subst (λ (ns : List ℕ). AreNamesIn lines (map clause_name ns)) (sym (one_place a b same)) (one_name lines (clause_name a) h)
      | inr apart ↦ elim apart [
        | inl less ↦
            subst (λ (ns : List ℕ). AreNamesIn lines (map clause_name ns)) (sym (first_place_first a b less))
            (two_names lines (clause_name a) (clause_name b) (λ e. let same = same_number 99 a b fits_a fits_b e in omega arith) h g)
        | inr more ↦
            subst (λ (ns : List ℕ). AreNamesIn lines (map clause_name ns)) (sym (second_place_first a b more))
            (two_names lines (clause_name b) (clause_name a) (λ e. let same = same_number 99 b a fits_b fits_a e in omega arith) g h)
      ]
    ]
