-- Lemmas on what specs/Existentials defines.
use Rattle.std.specs.Prelude.{ℕ, ◌≡◌, ◌+◌, ◌<◌, List, [], ◌∷◌, ◌++◌, length, map, sum, take, get_or, refl}
use Rattle.std.specs.List.{AllByRecursion}
use Rattle.std.proofs.Common.{ap, sym, ◌∙◌, arith, zero, suc, add-one, append_assoc}
use Rattle.std.proofs.lemmas.List.{append-nil, length-append}
use Rattle.std.proofs.lemmas.Simd.{map-map}
use Rattle.fof_terms.proofs.Trees.{fold-Atom, fold-Eq, fold-Not, fold-And, fold-Or, fold-Imp, fold-Iff, fold-All, fold-Ex}
use Rattle.fof_terms.specs.declared.term.Term.{Term}
use Rattle.fof_terms.specs.declared.form.Form.{Form, Atom, Eq, Not, And, Or, Imp, Iff, All, Ex}
use Rattle.fof_terms.specs.declared.form.Form.TheFolds.{fold-Form}
use Rattle.fof_terms.proofs.Induction.{form_induction}
use Rattle.clause_form.specs.Clauses.{joined_lists}
use Rattle.clause_form.proofs.SizeLaws.{sum_cons}
use Rattle.step_clauses.specs.declared.existentials.Existential.{Existential}
use Rattle.step_clauses.specs.Existentials.{existentials_step, existentials_within}
use Rattle.step_clauses.specs.code.Counts.{some_step, some_count}
use Rattle.fof_terms.specs.declared.form.Form.TheOpen as form

-- The equations of these words.
pub existentials_within-Atom : (p : ℕ) (ts : List Term) (around : List ℕ) → existentials_within (Atom p ts) around ≡ []
unfolding existentials_within
existentials_within-Atom p ts around = ap (λ (g : List ℕ → List Existential). g around) (fold-Atom (List ℕ → List Existential) existentials_step p ts)

pub existentials_within-Eq : (l r : Term) (around : List ℕ) → existentials_within (Eq l r) around ≡ []
unfolding existentials_within
existentials_within-Eq l r around = ap (λ (g : List ℕ → List Existential). g around) (fold-Eq (List ℕ → List Existential) existentials_step l r)

pub existentials_within-Not : (a : Form) (around : List ℕ) → existentials_within (Not a) around ≡ existentials_within a around
unfolding existentials_within
existentials_within-Not a around = ap (λ (g : List ℕ → List Existential). g around) (fold-Not (List ℕ → List Existential) existentials_step a)

pub existentials_within-And : (as_ : List Form) (around : List ℕ) → existentials_within (And as_) around ≡ joined_lists (map (λ (a : Form). existentials_within a around) as_)
unfolding existentials_within
existentials_within-And as_ around = ap (λ (g : List ℕ → List Existential). g around) (fold-And (List ℕ → List Existential) existentials_step as_) ∙ ap joined_lists (map-map (λ (g : List ℕ → List Existential). g around) (fold-Form (List ℕ → List Existential) existentials_step) as_)

pub existentials_within-Or : (as_ : List Form) (around : List ℕ) → existentials_within (Or as_) around ≡ joined_lists (map (λ (a : Form). existentials_within a around) as_)
unfolding existentials_within
existentials_within-Or as_ around = ap (λ (g : List ℕ → List Existential). g around) (fold-Or (List ℕ → List Existential) existentials_step as_) ∙ ap joined_lists (map-map (λ (g : List ℕ → List Existential). g around) (fold-Form (List ℕ → List Existential) existentials_step) as_)

pub existentials_within-Imp : (a b : Form) (around : List ℕ) → existentials_within (Imp a b) around ≡ existentials_within a around ++ existentials_within b around
unfolding existentials_within
existentials_within-Imp a b around = ap (λ (g : List ℕ → List Existential). g around) (fold-Imp (List ℕ → List Existential) existentials_step a b)

pub existentials_within-Iff : (a b : Form) (around : List ℕ) → existentials_within (Iff a b) around ≡ existentials_within a around ++ existentials_within b around
unfolding existentials_within
existentials_within-Iff a b around = ap (λ (g : List ℕ → List Existential). g around) (fold-Iff (List ℕ → List Existential) existentials_step a b)

pub existentials_within-All : (s : ℕ) (a : Form) (around : List ℕ) → existentials_within (All s a) around ≡ existentials_within a (around ++ s ∷ [])
unfolding existentials_within
existentials_within-All s a around = ap (λ (g : List ℕ → List Existential). g around) (fold-All (List ℕ → List Existential) existentials_step s a)

pub existentials_within-Ex : (s : ℕ) (a : Form) (around : List ℕ) → existentials_within (Ex s a) around ≡ record { around = around; sort = s } ∷ existentials_within a around
unfolding existentials_within
existentials_within-Ex s a around = ap (λ (g : List ℕ → List Existential). g around) (fold-Ex (List ℕ → List Existential) existentials_step s a)

pub some_count-Atom : (p : ℕ) (ts : List Term) → some_count (Atom p ts) ≡ some_step (form.Atom p ts)
unfolding some_count
some_count-Atom p ts = fold-Atom (ℕ) some_step p ts

pub some_count-Eq : (l r : Term) → some_count (Eq l r) ≡ some_step (form.Eq l r)
unfolding some_count
some_count-Eq l r = fold-Eq (ℕ) some_step l r

pub some_count-Not : (a : Form) → some_count (Not a) ≡ some_step (form.Not (some_count a))
unfolding some_count
some_count-Not a = fold-Not (ℕ) some_step a

pub some_count-And : (as_ : List Form) → some_count (And as_) ≡ some_step (form.And (map some_count as_))
unfolding some_count
some_count-And as_ = fold-And (ℕ) some_step as_

pub some_count-Or : (as_ : List Form) → some_count (Or as_) ≡ some_step (form.Or (map some_count as_))
unfolding some_count
some_count-Or as_ = fold-Or (ℕ) some_step as_

pub some_count-Imp : (a b : Form) → some_count (Imp a b) ≡ some_step (form.Imp (some_count a) (some_count b))
unfolding some_count
some_count-Imp a b = fold-Imp (ℕ) some_step a b

pub some_count-Iff : (a b : Form) → some_count (Iff a b) ≡ some_step (form.Iff (some_count a) (some_count b))
unfolding some_count
some_count-Iff a b = fold-Iff (ℕ) some_step a b

pub some_count-All : (s : ℕ) (a : Form) → some_count (All s a) ≡ some_step (form.All s (some_count a))
unfolding some_count
some_count-All s a = fold-All (ℕ) some_step s a

pub some_count-Ex : (s : ℕ) (a : Form) → some_count (Ex s a) ≡ some_step (form.Ex s (some_count a))
unfolding some_count
some_count-Ex s a = fold-Ex (ℕ) some_step s a

pub ruleset existential_equations =
    (existentials_within-Atom, existentials_within-Eq, existentials_within-Not, existentials_within-And, existentials_within-Or, existentials_within-Imp, existentials_within-Iff, existentials_within-All, existentials_within-Ex)

pub ruleset count_equations = (some_count-Atom, some_count-Eq, some_count-Not, some_count-And, some_count-Or, some_count-Imp, some_count-Iff, some_count-All, some_count-Ex)

-- their number doesn't depend on what is around
abbrev Counted : Form → Type 0
Counted a = (around : List ℕ) → length (existentials_within a around) ≡ some_count a

counted_all : (as_ : List Form) → AllByRecursion Counted as_ → (around : List ℕ) → length (joined_lists (map (λ (a : Form). existentials_within a around) as_)) ≡ sum (map some_count as_)
counted_all [] all around = refl
counted_all (a ∷ as_) all around =
    rw (length-append (existentials_within a around) (joined_lists (map (λ (b : Form). existentials_within b around) as_)), all.0 around, counted_all as_ all.1 around, sum_cons (some_count a) (map some_count as_)) refl

pub counted : (a : Form) → Counted a
counted = form_induction Counted (record {
  atom = λ p ts around. rw (existentials_within-Atom, some_count-Atom) refl;
  eq = λ l r around. rw (existentials_within-Eq, some_count-Eq) refl;
  not = λ a ih around. rw (existentials_within-Not, some_count-Not) (ih around);
  and = λ as_ all around. rw (existentials_within-And, some_count-And) (counted_all as_ all around);
  or = λ as_ all around. rw (existentials_within-Or, some_count-Or) (counted_all as_ all around);
  imp = λ a b ih jh around. rw (existentials_within-Imp, some_count-Imp, length-append, ih around, jh around) refl;
  iff = λ a b ih jh around. rw (existentials_within-Iff, some_count-Iff, length-append, ih around, jh around) refl;
  all = λ s a ih around. rw (existentials_within-All, some_count-All) (ih (around ++ s ∷ []));
  ex = λ s a ih around. rw (existentials_within-Ex, some_count-Ex) (let e = ih around in omega arith);
})

-- one list more
pub joined_more : {X : Type 0} (f : Form → List X) (as_ : List Form) (i : ℕ) (a : Form) → i < length as_ → a ≡ get_or as_ i a → joined_lists (map f (take (i + 1) as_)) ≡ joined_lists (map f (take i as_)) ++ f a
joined_more {X} f [] i a lt is = absurd (omega arith)
joined_more {X} f (b ∷ as_) zero a lt is = let same : a ≡ b = is in rw same (append-nil (f b))
joined_more {X} f (b ∷ as_) (suc i) a lt is =
    let rest : joined_lists (map f (take (i + 1) as_)) ≡ joined_lists (map f (take i as_)) ++ f a = joined_more f as_ i a (omega arith) is in
    let rest' : joined_lists (map f (take (suc i) as_)) ≡ joined_lists (map f (take i as_)) ++ f a = rw add-one at rest in
    rw add-one (ap (λ (l : List X). f b ++ l) rest' ∙ sym (append_assoc (f b) (joined_lists (map f (take i as_))) (f a)))

-- As code meets them.
module _ (form : Form) (around : List ℕ) (old new : List Existential) where
  pub atom_found : (p : ℕ) (ts : List Term) → form ≡ Atom p ts → new ≡ old → new ≡ old ++ existentials_within form around
  atom_found p ts is e = e ∙ sym (ap (λ (l : List Existential). old ++ l) (ap (λ (a : Form). existentials_within a around) is ∙ existentials_within-Atom p ts around) ∙ append-nil old)

  pub equation_found : (l r : Term) → form ≡ Eq l r → new ≡ old → new ≡ old ++ existentials_within form around
  equation_found l r is e = e ∙ sym (ap (λ (x : List Existential). old ++ x) (ap (λ (a : Form). existentials_within a around) is ∙ existentials_within-Eq l r around) ∙ append-nil old)

  pub both_found : (a b a0 b0 : Form) (mid : List Existential) (between : List ℕ) → existentials_within form around ≡ existentials_within a0 around ++ existentials_within b0 around → a ≡ a0 → b ≡ b0 → mid ≡ old ++ existentials_within a around → between ≡ around → new ≡ mid ++ existentials_within b between
      → new ≡ old ++ existentials_within form around
  both_found a b a0 b0 mid between is ea eb em eo en =
      en ∙ (rw (em, eo, ea, eb) (append_assoc old (existentials_within a0 around) (existentials_within b0 around) ∙ ap (λ (l : List Existential). old ++ l) (sym is)))

  pub imp_parts : (a b : Form) → form ≡ Imp a b → existentials_within form around ≡ existentials_within a around ++ existentials_within b around
  imp_parts a b is = ap (λ (x : Form). existentials_within x around) is ∙ existentials_within-Imp a b around

  pub iff_parts : (a b : Form) → form ≡ Iff a b → existentials_within form around ≡ existentials_within a around ++ existentials_within b around
  iff_parts a b is = ap (λ (x : Form). existentials_within x around) is ∙ existentials_within-Iff a b around

  pub ex_found : (s : ℕ) (body b0 : Form) (copy : List ℕ) (mid : List Existential) → form ≡ Ex s b0 → body ≡ b0 → copy ≡ around → mid ≡ old ++ record { around = copy; sort = s } ∷ [] → new ≡ mid ++ existentials_within body around
      → new ≡ old ++ existentials_within form around
  ex_found s body b0 copy mid is eb ec em en =
      let one : Existential = record { around = around; sort = s } in
      let first : mid ≡ old ++ one ∷ [] = em ∙ ap (λ (l : List ℕ). old ++ record { around = l; sort = s } ∷ []) ec in
      let whole : existentials_within form around ≡ one ∷ existentials_within b0 around = ap (λ (x : Form). existentials_within x around) is ∙ existentials_within-Ex s b0 around in
      en ∙ ap (λ (l : List Existential). l ++ existentials_within body around) first ∙ append_assoc old (one ∷ []) (existentials_within body around)
      ∙ ap (λ (b : Form). old ++ (one ∷ existentials_within b around)) eb ∙ ap (λ (l : List Existential). old ++ l) (sym whole)

pub found_more : (as_ : List Form) (i : ℕ) (a : Form) (around between : List ℕ) (old mid new : List Existential) → i < length as_ → a ≡ get_or as_ i a → between ≡ around → mid ≡ old ++ joined_lists (map (λ (b : Form). existentials_within b around) (take i as_)) → new ≡ mid ++ existentials_within a between
    → new ≡ old ++ joined_lists (map (λ (b : Form). existentials_within b around) (take (i + 1) as_))
found_more as_ i a around between old mid new lt is eo em en =
    let more = joined_more (λ (b : Form). existentials_within b around) as_ i a lt is in
    en ∙ ap (λ (l : List Existential). l ++ existentials_within a between) em ∙ append_assoc old (joined_lists (map (λ (b : Form). existentials_within b around) (take i as_))) (existentials_within a between)
    ∙ ap (λ (l : List ℕ). old ++ (joined_lists (map (λ (b : Form). existentials_within b around) (take i as_)) ++ existentials_within a l)) eo ∙ ap (λ (l : List Existential). old ++ l) (sym more)
