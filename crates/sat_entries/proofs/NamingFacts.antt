-- Which clauses a log names.
use Rattle.std.specs.Prelude.{ℕ, zero, suc, ◌≡◌, ◌+◌, ◌<◌, ◌≤◌, ◌++◌, ◌∷◌, [], ◌⊎◌, Bool, true, List, length, take, Some, None, slice_get, slice_set, get_or, refl}
use Rattle.std.specs.List.{Contains}
use Rattle.std.proofs.Common.{ap, sym, subst, ◌∙◌, arith, inl, inr}
use Rattle.std.proofs.lemmas.List.{take_more}
use Rattle.std.proofs.lemmas.List.Elements.{Contains-push_cases}
use Rattle.clause_learning.proofs.Members.{some_same}
use Rattle.sat_step.specs.declared.decision.Learned.{Learned}
use Rattle.sat_entries.specs.code.Naming.{AreMarked, IsMarked, IsNamed, MarksNamed}

-- a mark that is set
set_here : (marks : List Bool) (k : ℕ) → k < length marks → slice_get (slice_set marks k true) k ≡ Some true
set_here [] k lt = absurd (omega arith)
set_here (m ∷ marks) zero lt = refl
set_here (m ∷ marks) (suc k) lt = set_here marks k (omega arith)

set_kept : (marks : List Bool) (k j : ℕ) → slice_get marks j ≡ Some true → slice_get (slice_set marks k true) j ≡ Some true
set_kept [] k j e = absurd (let never : None ≡ Some true = e in cc)
set_kept (m ∷ marks) zero zero e = refl
set_kept (m ∷ marks) zero (suc j) e = e
set_kept (m ∷ marks) (suc k) zero e = e
set_kept (m ∷ marks) (suc k) (suc j) e = set_kept marks k j e

set_count : (marks : List Bool) (k : ℕ) → length (slice_set marks k true) ≡ length marks
set_count [] k = refl
set_count (m ∷ marks) zero = refl
set_count (m ∷ marks) (suc k) = ap suc (set_count marks k)

pub no_numbers : (old : List Bool) → MarksNamed [] old old
no_numbers old = record { count = refl; kept = λ k h. h; named = λ k there lt. absurd (let none = there.1 in omega arith) }

module _ (numbers : List ℕ) (i n : ℕ) (old marks : List Bool) (lt : i < length numbers) (item : n ≡ get_or numbers i n) (h : MarksNamed (take i numbers) old marks) where
  longer : take (i + 1) numbers ≡ take i numbers ++ n ∷ []
  longer = take_more numbers i n lt ∙ ap (λ (d : ℕ). take i numbers ++ d ∷ []) (sym item)

  -- the place of the number is marked
  pub marked : (place : ℕ) (new : List Bool) → place ≡ n → place < length marks → new ≡ slice_set marks place true → MarksNamed (take (i + 1) numbers) old new
  marked place new place_is within new_is = subst (λ (ns : List ℕ). MarksNamed ns old new) (sym longer) (subst (λ (ms : List Bool). MarksNamed (take i numbers ++ n ∷ []) old ms) (sym new_is) (record {
    count = set_count marks place ∙ h.count;
    kept = λ k m. set_kept marks place k (h.kept k m);
    named = λ k there less. elim (Contains-push_cases (take i numbers) n k there) [
      | inl before ↦ set_kept marks place k (h.named k before less)
      | inr same ↦ subst (λ j. slice_get (slice_set marks place true) j ≡ Some true) (place_is ∙ same) (set_here marks place within)
    ];
  }))

  -- or there is none
  pub passed_by : (place : ℕ) → place ≡ n → length marks ≤ place → MarksNamed (take (i + 1) numbers) old marks
  passed_by place place_is beyond = subst (λ (ns : List ℕ). MarksNamed ns old marks) (sym longer) (record {
    count = h.count;
    kept = h.kept;
    named = λ k there less. elim (Contains-push_cases (take i numbers) n k there) [
      | inl before ↦ h.named k before less
      | inr same ↦ absurd (let many = h.count in let own : place ≡ k = place_is ∙ same in omega arith)
    ];
  })

pub nothing_named : (count : ℕ) (marks : List Bool) → length marks ≡ count → AreMarked count [] marks
nothing_named count marks size = record { size = size; named = λ k by lt. absurd (let none = by.1.1 in omega arith) }

pub one_named : (count : ℕ) (log : List Learned) (i : ℕ) (e : Learned) (from : List ℕ) (old new : List Bool) → i < length log → e ≡ get_or log i e → from ≡ e.from → AreMarked count (take i log) old → MarksNamed from old new → AreMarked count (take (i + 1) log) new
one_named count log i e from old new lt item from_is h m = subst (λ (l : List Learned). AreMarked count l new) (sym longer_log) (record {
  size = m.count ∙ h.size;
  named = λ k by less. elim (Contains-push_cases (take i log) e by.0 by.1) [
    | inl before ↦ m.kept k (h.named k (by.0, before, by.2) less)
    | inr same ↦ m.named k (subst (λ (ks : List ℕ). Contains ks k) (ap (λ (x : Learned). x.from) (sym same) ∙ sym from_is) by.2) (let many = h.size in omega arith)
  ];
}) where
  longer_log : take (i + 1) log ≡ take i log ++ e ∷ []
  longer_log = take_more log i e lt ∙ ap (λ (d : Learned). take i log ++ d ∷ []) (sym item)
