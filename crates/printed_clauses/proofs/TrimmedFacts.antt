-- Sorts and variables that are kept.
use Rattle.std.specs.Prelude.{ℕ, zero, suc, ◌≡◌, ◌<◌, ◌+◌, ◌-◌, Bool, true, false, if◌then◌else◌, List, [], ◌∷◌, ◌++◌, length, get_or, drop, refl}
use Rattle.std.proofs.Common.{ap, sym, ◌∙◌, arith, add-one, append_assoc}
use Rattle.std.proofs.lemmas.List.{drop_more, length-drop, append-nil}
use Rattle.fof_terms.specs.declared.term.Term.{Term, Var}
use Rattle.clause_form.specs.declared.clause.Clause.{Clause}
use Rattle.printed_clauses.specs.Trimmed.{count_below, new_variables, kept_sorts, occurs_in}
use Rattle.printed_clauses.specs.Marks.{is_marked}
use Rattle.printed_clauses.specs.code.Marked.{AreMarks}

-- two tests that agree on the variables below d
abbrev pub AgreeBelow : (ℕ → Bool) → (ℕ → Bool) → ℕ → Type 0
AgreeBelow f g d = (k : ℕ) → k < d → f k ≡ g k

less : (f g : ℕ → Bool) (d : ℕ) → AgreeBelow f g (suc d) → AgreeBelow f g d
less f g d e k lt = e k (omega arith)

pub same_count : (f g : ℕ → Bool) (d : ℕ) → AgreeBelow f g d → count_below f d ≡ count_below g d
same_count f g zero e = refl
same_count f g (suc d) e = rw (same_count f g d (less f g d e), e d (omega arith)) refl

pub same_variables : (f g : ℕ → Bool) (d : ℕ) → AgreeBelow f g d → new_variables f d ≡ new_variables g d
same_variables f g zero e = refl
same_variables f g (suc d) e = rw (same_variables f g d (less f g d e), same_count f g d (less f g d e)) refl

pub same_sorts : (f g : ℕ → Bool) (sorts : List ℕ) → AgreeBelow f g (length sorts) → kept_sorts f sorts ≡ kept_sorts g sorts
same_sorts f g [] e = refl
same_sorts f g (s ∷ sorts) e = rw (same_sorts f g sorts (less f g (length sorts) e), e (length sorts) (omega arith)) refl

-- one variable more
pub count_more : (f : ℕ → Bool) (d : ℕ) → count_below f (d + 1) ≡ count_below f d + (if f d then 1 else 0)
count_more f d = rw add-one refl

pub variables_more : (f : ℕ → Bool) (d : ℕ) → new_variables f (d + 1) ≡ new_variables f d ++ Var (count_below f d) ∷ []
variables_more f d = rw add-one refl

-- the first sort of a list
kept_first : (f : ℕ → Bool) (s : ℕ) (inner : List ℕ) → f (length inner) ≡ true → kept_sorts f (s ∷ inner) ≡ s ∷ kept_sorts f inner
kept_first f s inner e = ap (λ (b : Bool). if b then s ∷ kept_sorts f inner else kept_sorts f inner) e

left_first : (f : ℕ → Bool) (s : ℕ) (inner : List ℕ) → f (length inner) ≡ false → kept_sorts f (s ∷ inner) ≡ kept_sorts f inner
left_first f s inner e = ap (λ (b : Bool). if b then s ∷ kept_sorts f inner else kept_sorts f inner) e

-- the sort at a place
module _ (f : ℕ → Bool) (sorts : List ℕ) (i : ℕ) (lt : i < length sorts) where
  inner_count : length (drop (i + 1) sorts) ≡ length sorts - 1 - i
  inner_count = length-drop (i + 1) sorts ∙ (omega arith)

  kept_here : f (length sorts - 1 - i) ≡ true → kept_sorts f (drop i sorts) ≡ get_or sorts i 0 ∷ kept_sorts f (drop (i + 1) sorts)
  kept_here pass = ap (kept_sorts f) (drop_more sorts i 0 lt) ∙ kept_first f (get_or sorts i 0) (drop (i + 1) sorts) (ap f inner_count ∙ pass)

  left_here : f (length sorts - 1 - i) ≡ false → kept_sorts f (drop i sorts) ≡ kept_sorts f (drop (i + 1) sorts)
  left_here fail = ap (kept_sorts f) (drop_more sorts i 0 lt) ∙ left_first f (get_or sorts i 0) (drop (i + 1) sorts) (ap f inner_count ∙ fail)

pub sorts_kept : (f : ℕ → Bool) (sorts kept new : List ℕ) (i s : ℕ) → i < length sorts → s ≡ get_or sorts i 0 → kept ++ kept_sorts f (drop i sorts) ≡ kept_sorts f sorts → f (length sorts - 1 - i) ≡ true → new ≡ kept ++ s ∷ []
    → new ++ kept_sorts f (drop (i + 1) sorts) ≡ kept_sorts f sorts
sorts_kept f sorts kept new i s lt at so pass e =
    let rest = kept_sorts f (drop (i + 1) sorts) in
    ap (λ (x : List ℕ). x ++ rest) (e ∙ ap (λ (n : ℕ). kept ++ n ∷ []) at) ∙ append_assoc kept (get_or sorts i 0 ∷ []) rest ∙ ap (λ (x : List ℕ). kept ++ x) (sym (kept_here f sorts i lt pass)) ∙ so

pub sorts_left_out : (f : ℕ → Bool) (sorts kept : List ℕ) (i : ℕ) → i < length sorts → kept ++ kept_sorts f (drop i sorts) ≡ kept_sorts f sorts → f (length sorts - 1 - i) ≡ false
    → kept ++ kept_sorts f (drop (i + 1) sorts) ≡ kept_sorts f sorts
sorts_left_out f sorts kept i lt so fail = ap (λ (x : List ℕ). kept ++ x) (sym (left_here f sorts i lt fail)) ∙ so

pub sorts_step : (f : ℕ → Bool) (b : Bool) (sorts kept new : List ℕ) (i s : ℕ) → i < length sorts → s ≡ get_or sorts i 0 → f (length sorts - 1 - i) ≡ b → kept ++ kept_sorts f (drop i sorts) ≡ kept_sorts f sorts
    → new ≡ kept ++ (if b then s ∷ [] else []) → new ++ kept_sorts f (drop (i + 1) sorts) ≡ kept_sorts f sorts
sorts_step f true sorts kept new i s lt at here so e = sorts_kept f sorts kept new i s lt at so here e
sorts_step f false sorts kept new i s lt at here so e =
    ap (λ (x : List ℕ). x ++ kept_sorts f (drop (i + 1) sorts)) (e ∙ append-nil kept) ∙ sorts_left_out f sorts kept i lt so here

-- A loop over the marks.
pub variables_step : (marks : List Bool) (i : ℕ) (b : Bool) (images new : List Term) (number next : ℕ) → is_marked marks i ≡ b → images ≡ new_variables (is_marked marks) i → number ≡ count_below (is_marked marks) i
    → new ≡ images ++ Var number ∷ [] → next ≡ number + (if b then 1 else 0) → (new ≡ new_variables (is_marked marks) (i + 1)) × (next ≡ count_below (is_marked marks) (i + 1))
variables_step marks i b images new number next here so at made moved = (
  made ∙ ap (λ (x : List Term). x ++ Var number ∷ []) so ∙ ap (λ (n : ℕ). new_variables (is_marked marks) i ++ Var n ∷ []) at ∙ sym (variables_more (is_marked marks) i),
  moved ∙ ap (λ (n : ℕ). n + (if b then 1 else 0)) at ∙ ap (λ (x : Bool). count_below (is_marked marks) i + (if x then 1 else 0)) (sym here) ∙ sym (count_more (is_marked marks) i),
)

-- Marks that say what occurs give the trimmed clause.
pub trimmed_by : (c : Clause) (marks : List Bool) → AreMarks (occurs_in c.lits) (length c.sorts) marks
    → (new_variables (is_marked marks) (length marks) ≡ new_variables (occurs_in c.lits) (length c.sorts)) × (kept_sorts (is_marked marks) c.sorts ≡ kept_sorts (occurs_in c.lits) c.sorts)
trimmed_by c marks m = (
  ap (new_variables (is_marked marks)) m.count ∙ same_variables (is_marked marks) (occurs_in c.lits) (length c.sorts) m.each,
  same_sorts (is_marked marks) (occurs_in c.lits) c.sorts m.each,
)
