-- Lemmas on what specs/Wanted and specs/code/Pending define.
use Rattle.std.specs.Prelude.{ℕ, suc, ◌≡◌, ◌+◌, Bool, true, false, List, [], ◌∷◌, ◌++◌, length, map, Option, Some, None, slice_get, refl}
use Rattle.std.specs.Option.{option_map}
use Rattle.std.specs.List.{AllByRecursion as Each, list_any}
use Rattle.std.proofs.Common.{ap, ◌∙◌, arith, zero}
use Rattle.fof_terms.specs.declared.form.Form.{Form}
use Rattle.fof_terms.specs.Sorts.{Sorted}
use Rattle.fof_terms.proofs.Scoped.{member_of}
use Rattle.clause_form.specs.declared.clause.Clause.{Clause}
use Rattle.kernel.specs.Statements.{Statements}
use Rattle.kernel.specs.declared.proof.Proof.{Line}
use Rattle.kernel.proofs.Building.{by_line}
use Rattle.input_proofs.specs.Opened.{ShowsClause, StandFrom}
use Rattle.input_proofs.specs.Wanted.{IsWanted, AreWanted}
use Rattle.input_proofs.specs.code.Pending.{IsPending, cited}
use Rattle.input_proofs.specs.declared.pending.Pending.{Pending}
use Rattle.input_proofs.proofs.Passed.{IsPendingOn}

pub wanted_append : {X : Type 0} (P : Clause → X → Type 0) (ws vs : List Bool) (cs ds : List Clause) (xs ys : List (Option X)) → AreWanted P ws cs xs → AreWanted P vs ds ys → AreWanted P (ws ++ vs) (cs ++ ds) (xs ++ ys)
wanted_append P [] vs [] ds [] ys h g = g
wanted_append P [] vs [] ds (x ∷ xs) ys h g = absurd h
wanted_append P [] vs (c ∷ cs) ds xs ys h g = absurd h
wanted_append P (w ∷ ws) vs [] ds xs ys h g = absurd h
wanted_append P (w ∷ ws) vs (c ∷ cs) ds [] ys h g = absurd h
wanted_append P (w ∷ ws) vs (c ∷ cs) ds (x ∷ xs) ys h g = (h.0, wanted_append P ws vs cs ds xs ys h.1 g)

one_weaker : {X : Type 0} (P Q : Clause → X → Type 0) → ((c : Clause) (x : X) → P c x → Q c x) → (w : Bool) (c : Clause) (x : Option X) → IsWanted P w c x → IsWanted Q w c x
one_weaker P Q f true c None h = absurd h
one_weaker P Q f true c (Some x) h = f c x h
one_weaker P Q f false c None h = tt
one_weaker P Q f false c (Some x) h = absurd h

pub wanted_weaker : {X : Type 0} (P Q : Clause → X → Type 0) → ((c : Clause) (x : X) → P c x → Q c x) → (ws : List Bool) (cs : List Clause) (xs : List (Option X)) → AreWanted P ws cs xs → AreWanted Q ws cs xs
wanted_weaker P Q f [] [] [] h = tt
wanted_weaker P Q f [] [] (x ∷ xs) h = absurd h
wanted_weaker P Q f [] (c ∷ cs) xs h = absurd h
wanted_weaker P Q f (w ∷ ws) [] xs h = absurd h
wanted_weaker P Q f (w ∷ ws) (c ∷ cs) [] h = absurd h
wanted_weaker P Q f (w ∷ ws) (c ∷ cs) (x ∷ xs) h = (one_weaker P Q f w c x h.0, wanted_weaker P Q f ws cs xs h.1)

one_made : {X Y : Type 0} (P : Clause → X → Type 0) (Q : Clause → Y → Type 0) (f : X → Y) → ((c : Clause) (x : X) → P c x → Q c (f x)) → (w : Bool) (c : Clause) (x : Option X) → IsWanted P w c x → IsWanted Q w c (option_map f x)
one_made P Q f g true c None h = absurd h
one_made P Q f g true c (Some x) h = g c x h
one_made P Q f g false c None h = tt
one_made P Q f g false c (Some x) h = absurd h

pub wanted_made : {X Y : Type 0} (P : Clause → X → Type 0) (Q : Clause → Y → Type 0) (f : X → Y) → ((c : Clause) (x : X) → P c x → Q c (f x)) → (ws : List Bool) (cs : List Clause) (xs : List (Option X)) → AreWanted P ws cs xs
    → AreWanted Q ws cs (map (option_map f) xs)
wanted_made P Q f g [] [] [] h = tt
wanted_made P Q f g [] [] (x ∷ xs) h = absurd h
wanted_made P Q f g [] (c ∷ cs) xs h = absurd h
wanted_made P Q f g (w ∷ ws) [] xs h = absurd h
wanted_made P Q f g (w ∷ ws) (c ∷ cs) [] h = absurd h
wanted_made P Q f g (w ∷ ws) (c ∷ cs) (x ∷ xs) h = (one_made P Q f g w c x h.0, wanted_made P Q f g ws cs xs h.1)

pub as_many_marks : {X : Type 0} (P : Clause → X → Type 0) (ws : List Bool) (cs : List Clause) (xs : List (Option X)) → AreWanted P ws cs xs → length ws ≡ length xs
as_many_marks P [] [] [] h = refl
as_many_marks P [] [] (x ∷ xs) h = absurd h
as_many_marks P [] (c ∷ cs) xs h = absurd h
as_many_marks P (w ∷ ws) [] xs h = absurd h
as_many_marks P (w ∷ ws) (c ∷ cs) [] h = absurd h
as_many_marks P (w ∷ ws) (c ∷ cs) (x ∷ xs) h = ap suc (as_many_marks P ws cs xs h.1)

pub as_many_clauses : {X : Type 0} (P : Clause → X → Type 0) (ws : List Bool) (cs : List Clause) (xs : List (Option X)) → AreWanted P ws cs xs → length cs ≡ length xs
as_many_clauses P [] [] [] h = refl
as_many_clauses P [] [] (x ∷ xs) h = absurd h
as_many_clauses P [] (c ∷ cs) xs h = absurd h
as_many_clauses P (w ∷ ws) [] xs h = absurd h
as_many_clauses P (w ∷ ws) (c ∷ cs) [] h = absurd h
as_many_clauses P (w ∷ ws) (c ∷ cs) (x ∷ xs) h = ap suc (as_many_clauses P ws cs xs h.1)

pub none_wanted : {X : Type 0} (P : Clause → X → Type 0) (ws : List Bool) (cs : List Clause) → list_any (λ w. w) ws ≡ false → length ws ≡ length cs → AreWanted P ws cs (map (λ (w : Bool). None) ws)
none_wanted P [] [] none many = tt
none_wanted P [] (c ∷ cs) none many = absurd (omega arith)
none_wanted P (w ∷ ws) [] none many = absurd (omega arith)
none_wanted P (true ∷ ws) (c ∷ cs) none many = cc
none_wanted P (false ∷ ws) (c ∷ cs) none many = (tt, none_wanted P ws cs none (omega arith))

-- Formulas that stand in turn.
pub stands_at : (s : Statements) (n : ℕ) (forms : List Form) (k : ℕ) (a : Form) → StandFrom s n forms → slice_get forms k ≡ Some a → slice_get s.formulas (n + k) ≡ Some a
stands_at s n [] k a h e = cc
stands_at s n (b ∷ forms) zero a h e = let none : n + 0 ≡ n = omega arith in ap (slice_get s.formulas) none ∙ h.0 ∙ e
stands_at s n (b ∷ forms) (suc k) a h e = let same : n + suc k ≡ suc n + k = omega arith in ap (slice_get s.formulas) same ∙ stands_at s (suc n) forms k a h.1 e

module _ (s : Statements) (n : ℕ) (forms : List Form) (sorted : Each (Sorted s.vocabulary []) forms) (stand : StandFrom s n forms) where
  cited_shows : (c : Clause) (p : Pending) → IsPendingOn forms c p → ShowsClause s c (cited n p)
  cited_shows c p h =
      let own = member_of (Sorted s.vocabulary []) forms p.fact h.0 sorted h.1 in
      h.2 s (Line (n + p.fact)) own (by_line s [] [] (n + p.fact) h.0 own (stands_at s n forms p.fact h.0 stand h.1))

  pub all_cited : (ws : List Bool) (cs : List Clause) (xs : List (Option Pending)) → AreWanted (IsPendingOn forms) ws cs xs → AreWanted (ShowsClause s) ws cs (map (option_map (cited n)) xs)
  all_cited ws cs xs h = wanted_made (IsPendingOn forms) (ShowsClause s) (cited n) cited_shows ws cs xs h

-- More formulas.
in_front : {X : Type 0} (xs ys : List X) (k : ℕ) (x : X) → slice_get xs k ≡ Some x → slice_get (xs ++ ys) k ≡ Some x
in_front [] ys k x e = cc
in_front (y ∷ xs) ys zero x e = e
in_front (y ∷ xs) ys (suc k) x e = in_front xs ys k x e

at_end : {X : Type 0} (xs : List X) (k : ℕ) (x : X) → k ≡ length xs → slice_get (xs ++ x ∷ []) k ≡ Some x
at_end [] k x e = rw e refl
at_end (y ∷ xs) zero x e = absurd (omega arith)
at_end (y ∷ xs) (suc k) x e = at_end xs k x (omega arith)

pub pending_further : (forms : List Form) (a : Form) (ws : List Bool) (cs : List Clause) (xs : List (Option Pending)) → AreWanted (IsPendingOn forms) ws cs xs → AreWanted (IsPendingOn (forms ++ a ∷ [])) ws cs xs
pending_further forms a = wanted_weaker (IsPendingOn forms) (IsPendingOn (forms ++ a ∷ [])) (λ c p h. (h.0, in_front forms (a ∷ []) p.fact h.0 h.1, h.2))

pub pending_here : (forms : List Form) (a : Form) (fact : ℕ) → fact ≡ length forms → (ws : List Bool) (cs : List Clause) (xs : List (Option Pending)) → AreWanted (IsPending fact a) ws cs xs → AreWanted (IsPendingOn (forms ++ a ∷ [])) ws cs xs
pending_here forms a fact e = wanted_weaker (IsPending fact a) (IsPendingOn (forms ++ a ∷ [])) (λ c p h. (a, at_end forms p.fact a (h.0 ∙ e), h.1))
