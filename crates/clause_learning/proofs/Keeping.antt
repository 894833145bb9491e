-- What is kept of a log is a log.
use Rattle.std.proofs.Common.{◌≡◌, ℕ, zero, suc, ◌+◌, ◌-◌, ◌<◌, ◌≤◌, List, [], ◌∷◌, ◌++◌, length, map, take, get_or, Option, Some, None, slice_get, ◌⊎◌, refl, sym, ap, ◌∙◌, subst, inl, inr, arith, append_assoc, append-nil}
use Rattle.std.specs.Prelude.{IfSome}
use Rattle.std.specs.List.{AllZip}
use Rattle.std.proofs.lemmas.List.{map-append, length-append, length-map, take_more}
use Rattle.std.proofs.lemmas.Option.{slice_get-get_or}
use Rattle.clause_learning.specs.declared.literal.Literal.{Literal}
use Rattle.clause_learning.specs.declared.clauses.Learned.{Learned}
use Rattle.clause_learning.specs.declared.trimming.Trimmed.{Trimmed}
use Rattle.clause_learning.specs.Literals.{complement}
use Rattle.clause_learning.specs.Refutations.{Resolves, IsDerived, IsLog, IsRefutation}
use Rattle.clause_learning.specs.Valuations.{entry_of}
use Rattle.clause_learning.specs.code.Trims.{IsNumber, KeepsOne, SkipsOne, GoesOn}
use Rattle.clause_learning.proofs.Members.{some_same, none_some, got_left, got_front, got_push}
use Rattle.clause_learning.proofs.Resolving.{log_more}

-- ---- other numbers for the same clauses

module _ {X : Type 0} (opposite : X → X) (old new : List (List X)) (R : ℕ → ℕ → Type 0) (same : (k n : ℕ) (q : List X) → R k n → slice_get old k ≡ Some q → slice_get new n ≡ Some q) where
  resolves_renumbered : (p : List X) (from renumbered : List ℕ) (r : List X) → AllZip R from renumbered → Resolves opposite old p from r → Resolves opposite new p renumbered r
  resolves_renumbered p [] [] r z h = h
  resolves_renumbered p [] (n ∷ ns) r z h = absurd z
  resolves_renumbered p (k ∷ ks) [] r z h = absurd z
  resolves_renumbered p (k ∷ ks) (n ∷ ns) r z h = (h.0, h.1, h.2, same k n h.1 z.0 h.3, h.4, resolves_renumbered h.2 ks ns r z.1 h.5)

  pub derived_renumbered : (from renumbered : List ℕ) (r : List X) → AllZip R from renumbered → IsDerived opposite old from r → IsDerived opposite new renumbered r
  derived_renumbered [] renumbered r z h = absurd h
  derived_renumbered (k ∷ ks) [] r z h = absurd z
  derived_renumbered (k ∷ ks) (n ∷ ns) r z h = (h.0, same k n h.0 z.0 h.1, resolves_renumbered h.0 ks ns r z.1 h.2)

abbrev lits_of : List Learned → List (List Literal)
lits_of log = map (λ l. l.lits) log

-- a clause of a log is made from those before it
log_at : (clauses : List (List Literal)) (log : List Learned) (i : ℕ) (l : Learned) → IsLog complement clauses (map entry_of log) → slice_get log i ≡ Some l
    → IsDerived complement (clauses ++ lits_of (take i log)) l.from l.lits
log_at clauses [] i l h at = absurd (none_some l at)
log_at clauses (e ∷ log) zero l h at =
    let D : List (List Literal) → Type 0 = λ cs. IsDerived complement cs e.from e.lits in
    let P : Learned → Type 0 = λ m. IsDerived complement (clauses ++ []) m.from m.lits in
    subst P (some_same at) (subst D (sym (append-nil clauses)) h.0)
log_at clauses (e ∷ log) (suc i) l h at =
    let P : List (List Literal) → Type 0 = λ cs. IsDerived complement cs l.from l.lits in
    subst P (append_assoc clauses (e.lits ∷ []) (lits_of (take i log))) (log_at (clauses ++ e.lits ∷ []) log i l h.1 at)

-- what is read from a list with one element more
got_cases : {X : Type 0} (xs : List X) (x : X) (j : ℕ) (y : X) → slice_get (xs ++ x ∷ []) j ≡ Some y → ((j < length xs) × (slice_get xs j ≡ Some y)) ⊎ ((j ≡ length xs) × (x ≡ y))
got_cases [] x zero y e = inr (refl, some_same e)
got_cases [] x (suc j) y e = absurd (none_some y e)
got_cases (z ∷ xs) x zero y e = inl (omega arith, e)
got_cases (z ∷ xs) x (suc j) y e = elim (got_cases xs x j y e) [
  | inl h ↦ let lt = h.0 in inl (omega (arith, lt), h.1)
  | inr h ↦ inr (ap suc h.0, h.1)
]

-- ---- what is kept of a part of the log

pub record IsTrimmed (inputs : List (List Literal)) (log : List Learned) (t : Trimmed) : Type 0 where
  pub many : length t.numbers ≡ length log
  pub steps : IsLog complement inputs (map entry_of t.log)
  pub same : (k n : ℕ) (q : List Literal) → IsNumber (length inputs) t.numbers k n → slice_get (inputs ++ lits_of log) k ≡ Some q → slice_get (inputs ++ lits_of t.log) n ≡ Some q

pub trimmed_none : (inputs : List (List Literal)) (t : Trimmed) → t.log ≡ [] → t.numbers ≡ [] → IsTrimmed inputs [] t
trimmed_none inputs t log numbers = record {
  many = ap length numbers;
  steps = let L : List Learned → Type 0 = λ ls. IsLog complement inputs (map entry_of ls) in subst L (sym log) tt;
  same = λ k n q is at. elim is [
    | inl given ↦ subst (λ (m : ℕ). slice_get (inputs ++ lits_of t.log) m ≡ Some q) (sym given.1) (given_left given.0 at)
    | inr kept ↦ absurd (none_some (Some n) (ap (λ (ns : List (Option ℕ)). slice_get ns (k - length inputs)) (sym numbers) ∙ kept.1))
  ];
}
  where
    given_left : {k : ℕ} {q : List Literal} → k < length inputs → slice_get (inputs ++ []) k ≡ Some q → slice_get (inputs ++ lits_of t.log) k ≡ Some q
    given_left {k} {q} lt at = got_front inputs (lits_of t.log) k lt ∙ sym (got_front inputs [] k lt) ∙ at

module _ (inputs : List (List Literal)) (log longer : List Learned) (l : Learned) (is : longer ≡ log ++ l ∷ []) (old new : Trimmed) (h : IsTrimmed inputs log old) where
  all_old : List (List Literal)
  all_old = inputs ++ lits_of log

  longer_clauses : inputs ++ lits_of longer ≡ (inputs ++ lits_of log) ++ l.lits ∷ []
  longer_clauses = ap (λ (ls : List Learned). inputs ++ lits_of ls) is ∙ ap (λ (cs : List (List Literal)). inputs ++ cs) (map-append (λ (m : Learned). m.lits) log (l ∷ [])) ∙ sym (append_assoc inputs (lits_of log) (l.lits ∷ []))

  -- a clause with a new number is one that had it before, or it is the last one
  renumbered_cases : (next : Option ℕ) → new.numbers ≡ old.numbers ++ next ∷ [] → (k n : ℕ) (q : List Literal) → IsNumber (length inputs) new.numbers k n → slice_get (inputs ++ lits_of longer) k ≡ Some q
      → (slice_get (inputs ++ lits_of old.log) n ≡ Some q) ⊎ ((next ≡ Some n) × (q ≡ l.lits))
  renumbered_cases next numbers k n q number at = elim number [
    | inl given ↦ inl (h.same k n q (inl given) (before k q (omega (arith, given.0, bound)) at))
    | inr kept ↦ elim (got_cases old.numbers next (k - length inputs) (Some n) (ap (λ (ns : List (Option ℕ)). slice_get ns (k - length inputs)) (sym numbers) ∙ kept.1)) [
      | inl a ↦ let lt = a.0 in let past = kept.0 in inl (h.same k n q (inr (kept.0, a.1)) (before k q (omega (arith, lt, past, many, bound)) at))
      | inr b ↦
          let here = b.0 in
          let past = kept.0 in
          let place : k ≡ length (inputs ++ lits_of log) = omega (arith, here, past, many, bound) in
          inr (b.1, some_same (sym at ∙ ap (λ (cs : List (List Literal)). slice_get cs k) longer_clauses ∙ ap (slice_get ((inputs ++ lits_of log) ++ l.lits ∷ [])) place ∙ got_push (inputs ++ lits_of log) l.lits))
    ]
  ]
    where
      many : length old.numbers ≡ length log
      many = h.many

      bound : length (inputs ++ lits_of log) ≡ length inputs + length log
      bound = let e = length-append inputs (lits_of log) in let f = length-map log (λ (m : Learned). m.lits) in omega (arith, e, f)

      before : (k : ℕ) (q : List Literal) → k < length (inputs ++ lits_of log) → slice_get (inputs ++ lits_of longer) k ≡ Some q → slice_get (inputs ++ lits_of log) k ≡ Some q
      before k q lt at = sym (got_front (inputs ++ lits_of log) (l.lits ∷ []) k lt) ∙ ap (λ (cs : List (List Literal)). slice_get cs k) (sym longer_clauses) ∙ at

  numbers_many : (next : Option ℕ) → new.numbers ≡ old.numbers ++ next ∷ [] → length new.numbers ≡ length longer
  numbers_many next numbers =
      let e = ap length numbers ∙ length-append old.numbers (next ∷ []) in
      let f = ap length is ∙ length-append log (l ∷ []) in
      let many = h.many in
      omega (arith, e, f, many)

  pub trimmed_skipped : SkipsOne old new → IsTrimmed inputs longer new
  trimmed_skipped s = record {
    many = numbers_many None s.numbers;
    steps = let L : List Learned → Type 0 = λ ls. IsLog complement inputs (map entry_of ls) in subst L (sym s.log) h.steps;
    same = λ k n q number at. elim (renumbered_cases None s.numbers k n q number at) [
      | inl before ↦ let P : List Learned → Type 0 = λ ls. slice_get (inputs ++ lits_of ls) n ≡ Some q in subst P (sym s.log) before
      | inr never ↦ absurd (none_some n never.0)
    ];
  }

  pub trimmed_kept : KeepsOne (length inputs) old l new → IsDerived complement (inputs ++ lits_of log) l.from l.lits → IsTrimmed inputs longer new
  trimmed_kept s derived = record {
    many = numbers_many (Some (length inputs + length old.log)) s.numbers;
    steps =
        let L : List Learned → Type 0 = λ ls. IsLog complement inputs (map entry_of ls) in
        let made : Learned = record { lits = l.lits; from = s.from } in
        subst L (sym s.log) (log_more inputs old.log made h.steps
        (derived_renumbered complement (inputs ++ lits_of log) (inputs ++ lits_of old.log) (IsNumber (length inputs) old.numbers) h.same l.from s.from l.lits s.renumbered derived));
    same = λ k n q number at. elim (renumbered_cases (Some (length inputs + length old.log)) s.numbers k n q number at) [
      | inl before ↦ ap (λ (cs : List (List Literal)). slice_get cs n) clauses ∙ got_left (inputs ++ lits_of old.log) (l.lits ∷ []) n q before
      | inr last ↦
          let place : n ≡ length (inputs ++ lits_of old.log) = let e = some_same last.0 in let f = bound in omega (arith, e, f) in
          ap (λ (cs : List (List Literal)). slice_get cs n) clauses ∙ ap (slice_get ((inputs ++ lits_of old.log) ++ l.lits ∷ [])) place ∙ got_push (inputs ++ lits_of old.log) l.lits ∙ ap (λ (c : List Literal). Some c) (sym last.1)
    ];
  }
    where
      clauses : inputs ++ lits_of new.log ≡ (inputs ++ lits_of old.log) ++ l.lits ∷ []
      clauses = ap (λ (ls : List Learned). inputs ++ lits_of ls) s.log ∙ ap (λ (cs : List (List Literal)). inputs ++ cs) (map-append (λ (m : Learned). m.lits) old.log (record { lits = l.lits; from = s.from } ∷ []))
          ∙ sym (append_assoc inputs (lits_of old.log) (l.lits ∷ []))

      bound : length (inputs ++ lits_of old.log) ≡ length inputs + length old.log
      bound = let e = length-append inputs (lits_of old.log) in let f = length-map old.log (λ (m : Learned). m.lits) in omega (arith, e, f)

-- one clause of the log more
module _ (inputs : List (List Literal)) (log : List Learned) (i : ℕ) (l : Learned) (within : i < length log) (read : l ≡ get_or log i l) (old new : Trimmed) (h : IsTrimmed inputs (take i log) old) where
  longer : take (i + 1) log ≡ take i log ++ l ∷ []
  longer = take_more log i l within ∙ ap (λ (m : Learned). take i log ++ m ∷ []) (sym read)

  skipped_next : SkipsOne old new → IsTrimmed inputs (take (i + 1) log) new
  skipped_next s = trimmed_skipped inputs (take i log) (take (i + 1) log) l longer old new h s

  kept_next : IsLog complement inputs (map entry_of log) → KeepsOne (length inputs) old l new → IsTrimmed inputs (take (i + 1) log) new
  kept_next steps s =
      let at : slice_get log i ≡ Some l = slice_get-get_or log i l within ∙ ap (λ (m : Learned). Some m) (sym read) in
      trimmed_kept inputs (take i log) (take (i + 1) log) l longer old new h s (log_at inputs log i l steps at)

  pub trimmed_next : IsLog complement inputs (map entry_of log) → GoesOn (length inputs) old l new → IsTrimmed inputs (take (i + 1) log) new
  trimmed_next steps on = elim on [ inl kept ↦ kept_next steps kept | inr skipped ↦ skipped_next skipped ]

-- a log that ends with no literal refutes
pub ended_refutes : (inputs : List (List Literal)) (log before : List Learned) (last : Learned) → IsLog complement inputs (map entry_of log) → log ≡ before ++ last ∷ [] → last.lits ≡ [] → IsRefutation complement inputs (map entry_of log)
ended_refutes inputs log before last steps is none = record {
  steps = steps;
  before = map entry_of before;
  from = last.from;
  last = ap (map entry_of) is ∙ map-append entry_of before (last ∷ []) ∙ ap (λ (ls : List Literal). map entry_of before ++ record { from = last.from; lits = ls } ∷ []) none;
}

-- what is read is the new number
pub number_read : (given : ℕ) (numbers : List (Option ℕ)) (k : ℕ) (o : Option ℕ) → given ≤ k → slice_get numbers (k - given) ≡ Some o → IfSome o (IsNumber given numbers k)
number_read given numbers k None past at = tt
number_read given numbers k (Some n) past at = inr (past, at)
