-- A formula with new functions in place of its existential variables is well-sorted where it was so, and no larger.
use Rattle.std.specs.Prelude.{ℕ, ◌≡◌, ◌+◌, ◌≤◌, ◌&&◌, nat_lt, true, List, [], ◌∷◌, ◌++◌, length, map, sum, reverse, Option, Some, slice_get, refl}
use Rattle.std.specs.List.{AllByRecursion, list_all}
use Rattle.std.proofs.Common.{ap, sym, subst, ◌∙◌, arith, zero, suc, append_assoc, eq-eqb}
use Rattle.std.proofs.lemmas.List.{append-nil, length-append, length-reverse, reverse-append}
use Rattle.std.proofs.lemmas.Simd.{map-map}
use Rattle.fof_terms.proofs.Induction.{form_induction}
use Rattle.fof_terms.specs.Sorts.{are_sorts, holds_of, one_sort, sort_of_term, is_sorted}
use Rattle.fof_terms.proofs.LiftingLaws.{both, holds_found, one_found}
use Rattle.fof_terms.proofs.SortsFacts.{sort_of_term-Var, sort_of_term-App, is_sorted-Atom, is_sorted-Eq, is_sorted-Not, is_sorted-And, is_sorted-Or, is_sorted-Imp, is_sorted-Iff, is_sorted-All, is_sorted-Ex}
use Rattle.fof_terms.proofs.Walks.{lifted_sort}
use Rattle.fof_terms.specs.Vocabulary.{Vocabulary}
use Rattle.fof_terms.specs.declared.term.Term.{Term, Var, App}
use Rattle.fof_terms.specs.declared.form.Form.{Form}
use Rattle.clause_form.specs.Clauses.{variables, under_all, under_ex, in_turn, skolem_made, joined_lists}
use Rattle.clause_form.specs.Images.{image, IsImages}
use Rattle.clause_form.proofs.ImagesFacts.{image_sorted, kept_answers}
use Rattle.clause_form.specs.Sizes.{norm_size_of}
use Rattle.clause_form.proofs.SizesFacts.{norm_size_of-Atom, norm_size_of-Eq, norm_size_of-Not, norm_size_of-And, norm_size_of-Or, norm_size_of-Imp, norm_size_of-Iff, norm_size_of-All, norm_size_of-Ex}
use Rattle.clause_form.proofs.SizeLaws.{sum_cons}
use Rattle.step_clauses.specs.declared.existentials.Existential.{Existential}
use Rattle.step_clauses.specs.Existentials.{existentials_within}
use Rattle.step_clauses.specs.Skolems.{skolem_symbol, KnowsFrom}
use Rattle.step_clauses.proofs.ExistentialsFacts.{existentials_within-Not, existentials_within-And, existentials_within-Or, existentials_within-Imp, existentials_within-Iff, existentials_within-All, existentials_within-Ex, counted}
use Rattle.step_clauses.proofs.SkolemizingFacts.{goes, made-Atom, made-Eq, made-Not, made-And, made-Or, made-Imp, made-Iff, made-All, made-Ex}
use Rattle.step_clauses.proofs.WaysFacts.{at_seam}

of_each : {X : Type 0} (P : X → Type 0) (xs : List X) → ((x : X) → P x) → AllByRecursion P xs
of_each P [] h = tt
of_each P (x ∷ xs) h = (h x, of_each P xs h)

-- The functions of some existential quantifiers, and of those behind them.
pub knows_first : (w : Vocabulary) (k : ℕ) (xs ys : List Existential) → KnowsFrom w k (xs ++ ys) → KnowsFrom w k xs
knows_first w k [] ys h = tt
knows_first w k (x ∷ xs) ys h = (h.0, knows_first w (k + 1) xs ys h.1)

pub knows_others : (w : Vocabulary) (k m : ℕ) (xs ys : List Existential) → KnowsFrom w k (xs ++ ys) → m ≡ k + length xs → KnowsFrom w m ys
knows_others w k m [] ys h e = let same : k ≡ m = omega arith in subst (λ (n : ℕ). KnowsFrom w n ys) same h
knows_others w k m (x ∷ xs) ys h e = knows_others w (k + 1) m xs ys h.1 (omega arith)

-- Variables.
turn : (x : ℕ) (xs ys : List ℕ) → reverse (x ∷ xs) ++ ys ≡ reverse xs ++ x ∷ ys
turn x xs ys = ap (λ (zs : List ℕ). zs ++ ys) (reverse-append (x ∷ []) xs) ∙ append_assoc (reverse xs) (x ∷ []) ys

variables_found : (v : Vocabulary) (sorts tail : List ℕ) → map (sort_of_term v (reverse sorts ++ tail)) (variables (length sorts)) ≡ map Some sorts
variables_found v [] tail = refl
variables_found v (x ∷ xs) tail =
    let here : sort_of_term v (reverse xs ++ x ∷ tail) (Var (length xs)) ≡ Some x = sort_of_term-Var v (reverse xs ++ x ∷ tail) (length xs) ∙ at_seam (reverse xs) (length xs) x tail (length-reverse xs) in
    let rest = variables_found v xs (x ∷ tail) in
    ap (λ (scope : List ℕ). map (sort_of_term v scope) (variables (suc (length xs)))) (turn x xs tail) ∙ (rw (here, rest) refl)

pub own_variables : (v : Vocabulary) (sorts : List ℕ) → map (sort_of_term v (reverse sorts)) (variables (length sorts)) ≡ map Some sorts
own_variables v sorts = ap (λ (scope : List ℕ). map (sort_of_term v scope) (variables (length sorts))) (sym (append-nil (reverse sorts))) ∙ variables_found v sorts []

same_sorts : (sorts : List ℕ) → are_sorts (map Some sorts) sorts ≡ true
same_sorts [] = refl
same_sorts (s ∷ sorts) = rw (eq-eqb s s refl, same_sorts sorts) refl

pub value_sorted : (v : Vocabulary) (f : ℕ) (around : List ℕ) (sort : ℕ) → slice_get v.symbols f ≡ Some (skolem_symbol f (record { around = around; sort = sort }))
    → sort_of_term v (reverse around) (App f (variables (length around))) ≡ Some sort
value_sorted v f around sort e = rw (sort_of_term-App, e, own_variables v around, same_sorts around) refl

-- Images.
module _ (v : Vocabulary) (from to : List ℕ) (s : ℕ → Term) (h : IsImages v from to s) where
  under_all_sorted : (q k r : ℕ) → slice_get (q ∷ from) k ≡ Some r → sort_of_term v (q ∷ to) (under_all s k) ≡ Some r
  under_all_sorted q zero r e = sort_of_term-Var v (q ∷ to) 0 ∙ e
  under_all_sorted q (suc k) r e = lifted_sort v (q ∷ []) to [] (s k) ∙ h.sorted k r e

  under_ex_sorted : (q : ℕ) (t : Term) → sort_of_term v to t ≡ Some q → (k r : ℕ) → slice_get (q ∷ from) k ≡ Some r → sort_of_term v to (under_ex t s k) ≡ Some r
  under_ex_sorted q t et zero r e = et ∙ e
  under_ex_sorted q t et (suc k) r e = h.sorted k r e

  pub images_under_all : (q : ℕ) → IsImages v (q ∷ from) (q ∷ to) (under_all s)
  images_under_all q = record { sorted = under_all_sorted q }

  pub images_under_ex : (q : ℕ) (t : Term) → sort_of_term v to t ≡ Some q → IsImages v (q ∷ from) to (under_ex t s)
  images_under_ex q t et = record { sorted = under_ex_sorted q t et }

-- Formulas.
module _ (w : Vocabulary) where
  abbrev Fits : Form → Type 0
  Fits a =
      (next n : ℕ) (around from to : List ℕ) (s : ℕ → Term) → n ≡ length around → to ≡ reverse around → IsImages w from to s → KnowsFrom w next (existentials_within a around) → is_sorted w from a ≡ true
      → is_sorted w to (skolem_made a next n s).0 ≡ true

  turn_fits : (as_ : List Form) → AllByRecursion Fits as_ → (next n : ℕ) (around from to : List ℕ) (s : ℕ → Term) → n ≡ length around → to ≡ reverse around → IsImages w from to s
      → KnowsFrom w next (joined_lists (map (λ (a : Form). existentials_within a around) as_)) → list_all (is_sorted w from) as_ ≡ true → list_all (is_sorted w to) (in_turn (map skolem_made as_) next n s).0 ≡ true
  turn_fits [] all next n around from to s en et h knows e = refl
  turn_fits (a ∷ as_) all next n around from to s en et h knows e =
      let parts = both (is_sorted w from a) (list_all (is_sorted w from) as_) e in
      let others = joined_lists (map (λ (b : Form). existentials_within b around) as_) in
      let number : (skolem_made a next n s).1 ≡ next + length (existentials_within a around) = goes a next n s ∙ ap (λ (m : ℕ). next + m) (sym (counted a around)) in
      let first = all.0 next n around from to s en et h (knows_first w next (existentials_within a around) others knows) parts.0 in
      let rest = turn_fits as_ all.1 (skolem_made a next n s).1 n around from to s en et h (knows_others w next (skolem_made a next n s).1 (existentials_within a around) others knows number) parts.1 in
      rw (first, rest) refl

  pub atom_fits : (p : ℕ) (ts : List Term) (from to : List ℕ) (s : ℕ → Term) → IsImages w from to s → holds_of (slice_get w.symbols p) (map (sort_of_term w from) ts) ≡ true
      → holds_of (slice_get w.symbols p) (map (sort_of_term w to) (map (image s) ts)) ≡ true
  atom_fits p ts from to s h old =
      let each = holds_found (sort_of_term w from) ts (slice_get w.symbols p) old in
      let images = of_each (λ (t : Term). (r : ℕ) → sort_of_term w from t ≡ Some r → sort_of_term w to (image s t) ≡ Some r) ts (image_sorted w from to s h) in
      let same = kept_answers (sort_of_term w from) (λ (t : Term). sort_of_term w to (image s t)) ts images each in
      rw (map-map, same) old

  pub equation_fits : (l r : Term) (from to : List ℕ) (s : ℕ → Term) → IsImages w from to s → one_sort (sort_of_term w from l) (sort_of_term w from r) ≡ true → one_sort (sort_of_term w to (image s l)) (sort_of_term w to (image s r)) ≡ true
  equation_fits l r from to s h old =
      let found = one_found (sort_of_term w from l) (sort_of_term w from r) old in
      let left = image_sorted w from to s h l found.0.0 found.0.1 in
      let right = image_sorted w from to s h r found.1.0 found.1.1 in
      ap (λ (x : Option ℕ). one_sort x (sort_of_term w to (image s r))) (left ∙ sym found.0.1) ∙ ap (λ (y : Option ℕ). one_sort (sort_of_term w from l) y) (right ∙ sym found.1.1) ∙ old

  pair_fits : (a b : Form) → Fits a → Fits b → (next n : ℕ) (around from to : List ℕ) (s : ℕ → Term) → n ≡ length around → to ≡ reverse around → IsImages w from to s
      → KnowsFrom w next (existentials_within a around ++ existentials_within b around) → is_sorted w from a && is_sorted w from b ≡ true → (is_sorted w to (skolem_made a next n s).0 && is_sorted w to (skolem_made b (skolem_made a next n s).1 n s).0) ≡ true
  pair_fits a b ih jh next n around from to s en et h knows e =
      let parts = both (is_sorted w from a) (is_sorted w from b) e in
      let number : (skolem_made a next n s).1 ≡ next + length (existentials_within a around) = goes a next n s ∙ ap (λ (m : ℕ). next + m) (sym (counted a around)) in
      let first = ih next n around from to s en et h (knows_first w next (existentials_within a around) (existentials_within b around) knows) parts.0 in
      let second = jh (skolem_made a next n s).1 n around from to s en et h (knows_others w next (skolem_made a next n s).1 (existentials_within a around) (existentials_within b around) knows number) parts.1 in
      rw (first, second) refl

  all_fits : (q : ℕ) (a : Form) → Fits a → (next n : ℕ) (around from to : List ℕ) (s : ℕ → Term) → n ≡ length around → to ≡ reverse around → IsImages w from to s → KnowsFrom w next (existentials_within a (around ++ q ∷ []))
      → nat_lt q (length w.sorts) && is_sorted w (q ∷ from) a ≡ true → (nat_lt q (length w.sorts) && is_sorted w (q ∷ to) (skolem_made a next (n + 1) (under_all s)).0) ≡ true
  all_fits q a ih next n around from to s en et h knows e =
      let parts = both (nat_lt q (length w.sorts)) (is_sorted w (q ∷ from) a) e in
      let count : n + 1 ≡ length (around ++ q ∷ []) = rw length-append (omega arith) in
      let scope : q ∷ to ≡ reverse (around ++ q ∷ []) = ap (λ (l : List ℕ). q ∷ l) et ∙ sym (reverse-append around (q ∷ [])) in
      let inner = ih next (n + 1) (around ++ q ∷ []) (q ∷ from) (q ∷ to) (under_all s) count scope (images_under_all w from to s h q) knows parts.1 in
      rw (parts.0, inner) refl

  ex_fits : (q : ℕ) (a : Form) → Fits a → (next n : ℕ) (around from to : List ℕ) (s : ℕ → Term) → n ≡ length around → to ≡ reverse around → IsImages w from to s
      → KnowsFrom w next (record { around = around; sort = q } ∷ existentials_within a around) → nat_lt q (length w.sorts) && is_sorted w (q ∷ from) a ≡ true
      → is_sorted w to (skolem_made a (next + 1) n (under_ex (App next (variables n)) s)).0 ≡ true
  ex_fits q a ih next n around from to s en et h knows e =
      let parts = both (nat_lt q (length w.sorts)) (is_sorted w (q ∷ from) a) e in
      let value : sort_of_term w to (App next (variables n)) ≡ Some q = rw (et, en) (value_sorted w next around q knows.0) in
      ih (next + 1) n around (q ∷ from) to (under_ex (App next (variables n)) s) en et (images_under_ex w from to s h q (App next (variables n)) value) knows.1 parts.1

  pub made_fits : (a : Form) → Fits a
  made_fits = form_induction Fits (record {
    atom = λ p ts next n around from to s en et h knows e. rw (made-Atom, is_sorted-Atom) (atom_fits p ts from to s h (rw is_sorted-Atom at e));
    eq = λ l r next n around from to s en et h knows e. rw (made-Eq, is_sorted-Eq) (equation_fits l r from to s h (rw is_sorted-Eq at e));
    not = λ a ih next n around from to s en et h knows e. rw (made-Not, is_sorted-Not) (ih next n around from to s en et h (rw existentials_within-Not at knows) (rw is_sorted-Not at e));
    and = λ as_ all next n around from to s en et h knows e. rw (made-And, is_sorted-And) (turn_fits as_ all next n around from to s en et h (rw existentials_within-And at knows) (rw is_sorted-And at e));
    or = λ as_ all next n around from to s en et h knows e. rw (made-Or, is_sorted-Or) (turn_fits as_ all next n around from to s en et h (rw existentials_within-Or at knows) (rw is_sorted-Or at e));
    imp = λ a b ih jh next n around from to s en et h knows e. rw (made-Imp, is_sorted-Imp) (pair_fits a b ih jh next n around from to s en et h (rw existentials_within-Imp at knows) (rw is_sorted-Imp at e));
    iff = λ a b ih jh next n around from to s en et h knows e. rw (made-Iff, is_sorted-Iff) (pair_fits a b ih jh next n around from to s en et h (rw existentials_within-Iff at knows) (rw is_sorted-Iff at e));
    all = λ q a ih next n around from to s en et h knows e. rw (made-All, is_sorted-All) (all_fits q a ih next n around from to s en et h (rw existentials_within-All at knows) (rw is_sorted-All at e));
    ex = λ q a ih next n around from to s en et h knows e. rw made-Ex (ex_fits q a ih next n around from to s en et h (rw existentials_within-Ex at knows) (rw is_sorted-Ex at e));
  })

-- Sizes.
abbrev Small : Form → Type 0
Small a = (next n : ℕ) (s : ℕ → Term) → norm_size_of (skolem_made a next n s).0 ≤ norm_size_of a

turn_small : (as_ : List Form) → AllByRecursion Small as_ → (next n : ℕ) (s : ℕ → Term) → sum (map norm_size_of (in_turn (map skolem_made as_) next n s).0) ≤ sum (map norm_size_of as_)
turn_small [] all next n s = omega arith
turn_small (a ∷ as_) all next n s =
    let first = all.0 next n s in
    let rest = turn_small as_ all.1 (skolem_made a next n s).1 n s in
    let old = sum_cons (norm_size_of a) (map norm_size_of as_) in
    let new = sum_cons (norm_size_of (skolem_made a next n s).0) (map norm_size_of (in_turn (map skolem_made as_) (skolem_made a next n s).1 n s).0) in
    omega (arith, first, rest, old, new)

pub made_small : (a : Form) → Small a
made_small = form_induction Small (record {
  atom = λ p ts next n s. rw (made-Atom, norm_size_of-Atom, norm_size_of-Atom) (omega arith);
  eq = λ l r next n s. rw (made-Eq, norm_size_of-Eq, norm_size_of-Eq) (omega arith);
  not = λ a ih next n s. rw (made-Not, norm_size_of-Not, norm_size_of-Not) (ih next n s);
  and = λ as_ all next n s. let small = turn_small as_ all next n s in rw (made-And, norm_size_of-And, norm_size_of-And) (omega arith);
  or = λ as_ all next n s. let small = turn_small as_ all next n s in rw (made-Or, norm_size_of-Or, norm_size_of-Or) (omega arith);
  imp = λ a b ih jh next n s.
      let first = ih next n s in
      let second = jh (skolem_made a next n s).1 n s in
      rw (made-Imp, norm_size_of-Imp, norm_size_of-Imp) (omega arith);
  iff = λ a b ih jh next n s.
      let first = ih next n s in
      let second = jh (skolem_made a next n s).1 n s in
      rw (made-Iff, norm_size_of-Iff, norm_size_of-Iff) (omega arith);
  all = λ q a ih next n s. let small = ih next (n + 1) (under_all s) in rw (made-All, norm_size_of-All, norm_size_of-All) (omega arith);
  ex = λ q a ih next n s. let small = ih (next + 1) n (under_ex (App next (variables n)) s) in rw (made-Ex, norm_size_of-Ex) (omega arith);
})
