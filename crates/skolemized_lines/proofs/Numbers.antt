-- Which part an input is of, and how the functions of a part are numbered.
use Rattle.std.specs.Prelude.{ℕ, zero, suc, ◌≡◌, ◌+◌, ◌-◌, ◌<◌, ◌≤◌, Bool, true, false, if◌then◌else◌, List, [], ◌∷◌, ◌++◌, length, get_or, replicate, Some, slice_get, refl}
use Rattle.std.specs.List.{range_with_len}
use Rattle.std.proofs.Common.{ap, sym, subst, ◌∙◌, arith, inl, inr}
use Rattle.std.proofs.lemmas.Bool.{le-ltb}
use Rattle.std.proofs.lemmas.List.FromFn.{get_or-range_with_len, length-range_with_len}
use Rattle.std.proofs.lemmas.List.{length-replicate, get_or-replicate, get_or_append_left, get_or-append-add}
use Rattle.std.proofs.lemmas.Option.{slice_get_within}
use Rattle.clause_form.specs.declared.clause.Clause.{Clause}
use Rattle.clause_form.specs.ClauseWays.{IsIn}
use Rattle.clause_form.specs.Clauses.{clauses_of}
use Rattle.clause_form.specs.Norm.{norm_of}
use Rattle.clause_form.specs.Sizes.{clause_count_of}
use Rattle.clause_form.proofs.ClauseCount.{clauses_counted}
use Rattle.sort_check.specs.declared.line.GivenEntry.{GivenEntry}
use Rattle.step_clauses.specs.Inputs.{clauses_from, next_behind}
use Rattle.given_parts.specs.Numbers.{firsts_from, numbers_from, next_behind as next_number}
use Rattle.given_parts.specs.Owners.{owners_from}
use Rattle.given_parts.specs.Parts.{part_of, parts_of}
use Rattle.printed_clauses.specs.Renumbered.{new_number}
use Rattle.derivation_sentences.proofs.Linked.{ex_of, forms_in}
use Rattle.derivation_sentences.proofs.Owned.{in_either}

-- ---- lists

in_list : {X : Type 0} (xs : List X) (i : ℕ) (x : X) → slice_get xs i ≡ Some x → IsIn x xs
in_list [] i x e = cc
in_list (y ∷ xs) zero x e = let same : x ≡ y = cc in inl same
in_list (y ∷ xs) (suc i) x e = inr (in_list xs i x e)

-- ---- the part of an input

-- The clause is one of a part. Of the search's functions of this part, from `front` on behind the first, each has the
-- number of the derivation that stands as far behind the part's first.
pub record IsOfPart (given : List GivenEntry) (used : List Bool) (next new owner k : ℕ) (c : Clause) : Type 0 where
  pub part : ℕ
  pub owned : owner ≡ k + part
  pub entry : GivenEntry
  pub there : slice_get given part ≡ Some entry
  pub front : ℕ
  pub listed : IsIn c (clauses_of entry.form (next + front))
  pub numbered : length used ≡ length given → (j other : ℕ) → j < length (ex_of entry) → get_or (numbers_from new used (parts_of given)) (front + j) other ≡ get_or (firsts_from new used (parts_of given)) part 0 + j

module _ (g : GivenEntry) (given : List GivenEntry) (b : Bool) (used : List Bool) (next new owner k : ℕ) (c : Clause) where
  in_first : owner ≡ k → IsIn c (clauses_of g.form next) → IsOfPart (g ∷ given) (b ∷ used) next new owner k c
  in_first is listed = record {
    part = 0;
    owned = is ∙ (omega arith);
    entry = g;
    there = refl;
    front = 0;
    listed = let same : next ≡ next + 0 = omega arith in subst (λ (n : ℕ). IsIn c (clauses_of g.form n)) same listed;
    numbered = λ long j other lt.
        let count = length-range_with_len new (length (ex_of g)) in
        let same : 0 + j ≡ j = omega arith in
        ap (λ (n : ℕ). get_or (range_with_len new (length (ex_of g)) ++ numbers_from (next_number new b (part_of g.form)) used (parts_of given)) n other) same
        ∙ get_or_append_left (range_with_len new (length (ex_of g))) (numbers_from (next_number new b (part_of g.form)) used (parts_of given)) other j (omega (arith, count, lt))
        ∙ get_or-range_with_len new (length (ex_of g)) j other lt;
  }

  in_later : IsOfPart given used (next_behind next g.form) (next_number new b (part_of g.form)) owner (k + 1) c → IsOfPart (g ∷ given) (b ∷ used) next new owner k c
  in_later p = record {
    part = suc p.part;
    owned = p.owned ∙ (omega arith);
    entry = p.entry;
    there = p.there;
    front = length (ex_of g) + p.front;
    listed = let same : next + length (ex_of g) + p.front ≡ next + (length (ex_of g) + p.front) = omega arith in subst (λ (n : ℕ). IsIn c (clauses_of p.entry.form n)) same p.listed;
    numbered = λ long j other lt.
        let count = length-range_with_len new (length (ex_of g)) in
        let place : length (ex_of g) + p.front + j ≡ length (range_with_len new (length (ex_of g))) + (p.front + j) = omega (arith, count) in
        ap (λ (n : ℕ). get_or (range_with_len new (length (ex_of g)) ++ numbers_from (next_number new b (part_of g.form)) used (parts_of given)) n other) place
        ∙ get_or-append-add (range_with_len new (length (ex_of g))) (numbers_from (next_number new b (part_of g.form)) used (parts_of given)) (p.front + j) other
        ∙ p.numbered (omega (arith, long)) j other lt;
  }

pub part_of_input : (given : List GivenEntry) (used : List Bool) (next new k i : ℕ) (c : Clause) → length used ≡ length given → slice_get (clauses_from next (forms_in given)) i ≡ Some c
    → IsOfPart given used next new (get_or (owners_from k (parts_of given)) i 0) k c
part_of_input [] used next new k i c long at = cc
part_of_input (g ∷ given) [] next new k i c long at = absurd (omega arith)
part_of_input (g ∷ given) (b ∷ used) next new k i c long at =
    let others = owners_from (k + 1) (parts_of given) in
    let mine = replicate (clause_count_of (norm_of true g.form)) k in
    let counted = clauses_counted g.form next in
    let many = length-replicate (clause_count_of (norm_of true g.form)) k in
    elim (in_either (clauses_of g.form next) (clauses_from (next_behind next g.form) (forms_in given)) i c at) [
      | inl h ↦
          let inside : i < clause_count_of (norm_of true g.form) = omega (arith, slice_get_within (clauses_of g.form next) i c h, counted) in
          let own : get_or (mine ++ others) i 0 ≡ k = get_or_append_left mine others 0 i (omega (arith, many, inside)) ∙ get_or-replicate (clause_count_of (norm_of true g.form)) i k 0 inside in
          in_first g given b used next new (get_or (mine ++ others) i 0) k c own (in_list (clauses_of g.form next) i c h)
      | inr h ↦
          let place : i ≡ length mine + h.0 = omega (arith, h.1, counted, many) in
          let behind : get_or others h.0 0 ≡ get_or (mine ++ others) i 0 = sym (ap (λ (n : ℕ). get_or (mine ++ others) n 0) place ∙ get_or-append-add mine others h.0 0) in
          let later = part_of_input given used (next_behind next g.form) (next_number new b (part_of g.form)) (k + 1) h.0 c (omega (arith, long)) h.2 in
          in_later g given b used next new (get_or (mine ++ others) i 0) k c (subst (λ (o : ℕ). IsOfPart given used (next_behind next g.form) (next_number new b (part_of g.form)) o (k + 1) c) behind later)
    ]

-- the number in the derivation of a function of the search
pub new_behind : (first : ℕ) (numbers : List ℕ) (k : ℕ) → new_number first numbers (first + k) ≡ get_or numbers k (first + k)
new_behind first numbers k =
    let behind : first + k - first ≡ k = omega arith in
    ap (λ (b : Bool). if b then first + k else get_or numbers (first + k - first) (first + k)) (le-ltb (first + k) first (omega arith)) ∙ ap (λ (n : ℕ). get_or numbers n (first + k)) behind

-- ---- a part and those before it

-- the numbers begin with the first
pub firsts_least : (given : List GivenEntry) (used : List Bool) (new q : ℕ) → length used ≡ length given → q < length given → new ≤ get_or (firsts_from new used (parts_of given)) q 0
firsts_least [] used new q long inside = absurd (omega arith)
firsts_least (h ∷ given) [] new q long inside = absurd (omega arith)
firsts_least (h ∷ given) (b ∷ used) new zero long inside = omega arith
firsts_least (h ∷ given) (b ∷ used) new (suc q) long inside =
    let rest = firsts_least given used (next_number new b (part_of h.form)) q (omega (arith, long)) (omega (arith, inside)) in
    let more = further b in
    omega (arith, rest, more)
  where
    further : (c : Bool) → new ≤ next_number new c (part_of h.form)
    further true = omega arith
    further false = omega arith

-- the first number behind the functions of an earlier part is no greater
pub firsts_rise : (given : List GivenEntry) (used : List Bool) (new p q : ℕ) (g : GivenEntry) → p < q → length used ≡ length given → slice_get used p ≡ Some true → slice_get given p ≡ Some g → q < length given
    → get_or (firsts_from new used (parts_of given)) p 0 + length (ex_of g) ≤ get_or (firsts_from new used (parts_of given)) q 0
firsts_rise [] used new p q g lt long marked at inside = cc
firsts_rise (h ∷ given) [] new p q g lt long marked at inside = cc
firsts_rise (h ∷ given) (b ∷ used) new p zero g lt long marked at inside = absurd (omega arith)
firsts_rise (h ∷ given) (b ∷ used) new zero (suc q) g lt long marked at inside =
    let is : b ≡ true = cc in
    let same : h ≡ g = cc in
    let count : length (ex_of h) ≡ length (ex_of g) = ap (λ (x : GivenEntry). length (ex_of x)) same in
    let moved : next_number new b (part_of h.form) ≡ new + length (ex_of h) = ap (λ (c : Bool). next_number new c (part_of h.form)) is in
    let least = firsts_least given used (next_number new b (part_of h.form)) q (omega (arith, long)) (omega (arith, inside)) in
    omega (arith, count, moved, least)
firsts_rise (h ∷ given) (b ∷ used) new (suc p) (suc q) g lt long marked at inside = firsts_rise given used (next_number new b (part_of h.form)) p q g (omega (arith, lt)) (omega (arith, long)) marked at (omega (arith, inside))
