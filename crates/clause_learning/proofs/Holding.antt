-- What is held while clauses are resolved.
use Rattle.std.proofs.Common.{◌≡◌, ◌≢◌, ℕ, not, eqb, cond, Bool, true, false, List, [], ◌∷◌, ◌++◌, Option, Some, None, slice_get, Contains, refl, sym, ap, ◌∙◌, subst, inl, inr}
use Rattle.std.proofs.lemmas.Bool.{cases_eq, eq-eqb, ne_eqb, false≢true}
use Rattle.std.proofs.lemmas.List.Elements.{Contains-append_cases, Contains-append_left, Contains-append_right}
use Rattle.clause_learning.specs.declared.literal.Literal.{Literal}
use Rattle.clause_learning.specs.declared.trail.Value.{Value}
use Rattle.clause_learning.specs.declared.trail.Step.{Step}
use Rattle.clause_learning.specs.declared.trail.Trail.{Trail}
use Rattle.clause_learning.specs.declared.marks.Marks.{Marks}
use Rattle.clause_learning.specs.Literals.{complement}
use Rattle.clause_learning.specs.Refutations.{HasSame, IsResolvent, IsDerived}
use Rattle.clause_learning.specs.code.Trails.{value_at, Fails, AllFail, IsConflict, IsReason, IsJustified, IsUndone}
use Rattle.clause_learning.specs.code.Marked.{mark_at, AreClear, AreListed, AreMarked}
use Rattle.clause_learning.specs.code.Held.{IsHeld, IsHeldAt, IsMerged, IsCollected}
use Rattle.clause_learning.proofs.Members.{nothing_in, in_cons, head_in, tail_in, some_same, none_some}
use Rattle.clause_learning.proofs.Resolving.{derived_more, derived_one, derived_same}
use Rattle.clause_learning.proofs.Trailing.{Undone, fails_before, apart_from_free, one_false, one_sign, lit_same, twice}

-- ---- a clause without the literals of an atom

abbrev without : ℕ → List Literal → List Literal
without a [] = []
without a (x ∷ xs) = cond (eqb x.atom a) (without a xs) (x ∷ without a xs)

abbrev IsKept : ℕ → List Literal → Literal → Type 0
IsKept a xs x = Contains xs x × (x.atom ≢ a)

without_kept : (a : ℕ) (xs : List Literal) (x : Literal) → Contains (without a xs) x → IsKept a xs x
without_kept a [] x h = absurd (nothing_in x h)
without_kept a (y ∷ xs) x h =
    elim (cases_eq y.atom a) [
      | inl e ↦
          let rest : Contains (without a xs) x = rw (eq-eqb y.atom a e) at h in
          let k = without_kept a xs x rest in (tail_in y xs x k.0, k.1)
      | inr apart ↦
          let both : Contains (y ∷ without a xs) x = rw (ne_eqb y.atom a apart) at h in
          elim (in_cons y (without a xs) x both) [
            | inl same ↦ (subst (λ (z : Literal). Contains (y ∷ xs) z) same (head_in y xs), λ e. apart (ap (λ (z : Literal). z.atom) same ∙ e))
            | inr rest ↦ let k = without_kept a xs x rest in (tail_in y xs x k.0, k.1)
          ]
    ]

without_keeps : (a : ℕ) (xs : List Literal) (x : Literal) → Contains xs x → x.atom ≢ a → Contains (without a xs) x
without_keeps a [] x h apart = h
without_keeps a (y ∷ xs) x h apart =
    elim (cases_eq y.atom a) [
      | inl e ↦ rw (eq-eqb y.atom a e) (elim (in_cons y xs x h) [
        | inl same ↦ absurd (apart (ap (λ (z : Literal). z.atom) (sym same) ∙ e))
        | inr rest ↦ without_keeps a xs x rest apart
      ])
      | inr other ↦ rw (ne_eqb y.atom a other) (elim (in_cons y xs x h) [
        | inl same ↦ subst (λ (z : Literal). Contains (y ∷ without a xs) z) same (head_in y (without a xs))
        | inr rest ↦ tail_in y (without a xs) x (without_keeps a xs x rest apart)
      ])
    ]

double : (l : Literal) → complement (complement l) ≡ l
double l = lit_same (complement (complement l)) l refl (sym (twice l.positive))

-- a literal and its opposite are not both false
one_fails : (values : List (Option Value)) (x : Literal) → Fails values x → Fails values (complement x) → ⊥
one_fails values x f g = both x.positive (one_sign (value_at values x.atom) (not x.positive) (not (not x.positive)) f.0 g.0 f.1 g.1)
  where
    both : (b : Bool) → not b ≡ not (not b) → ⊥
    both true h = false≢true h
    both false h = false≢true (sym h)

-- ---- the literal at which what is held is resolved

module _ (clauses : List (List Literal)) (from : List ℕ) (m : Marks) (values : List (Option Value)) (l : Literal) (h : IsHeldAt clauses from m values l) where
  -- another literal that is held is false
  other_fails : (x : Literal) → Contains h.lits x → x.atom ≢ l.atom → Fails values x
  other_fails x there apart = elim (h.fails x there) [ inl f ↦ f | inr e ↦ absurd (apart (ap (λ (z : Literal). z.atom) e)) ]

  -- where the atom is marked, the opposite literal is held
  pub pivot_held : mark_at m l.atom ≡ true → Contains h.lits (complement l)
  pivot_held marked =
      let one = h.follows.only l.atom marked in
      elim (h.fails one.0 one.1) [
        | inl f ↦ absurd (apart_from_free values one.0 l.atom h.free f one.2)
        | inr e ↦ subst (λ (z : Literal). Contains h.lits z) e one.1
      ]

  -- where it is not, all that is held is false
  pub held_over : mark_at m l.atom ≡ false → IsHeld clauses from m values
  held_over never = record {
    lits = h.lits;
    follows = h.follows;
    fails = λ x there. elim (h.fails x there) [
      | inl f ↦ f
      | inr e ↦ absurd (false≢true (sym never ∙ ap (mark_at m) (ap (λ (z : Literal). z.atom) (sym e)) ∙ h.follows.marked x there))
    ];
  }

  -- what is collected has the same literals
  pub collected_same : (lits : List Literal) → mark_at m l.atom ≡ true → IsCollected (complement l) values m lits → HasSame h.lits lits
  collected_same lits marked c = λ x. (
    λ there. elim (c.only x there) [
      | inl e ↦ subst (λ (z : Literal). Contains h.lits z) (sym e) (pivot_held marked)
      | inr both ↦
          let one = h.follows.only x.atom both.0 in
          let apart : one.0.atom ≢ l.atom = λ e. apart_from_free values x l.atom h.free both.1 (sym one.2 ∙ e) in
          let same : one.0 ≡ x = one_false values one.0 x (other_fails one.0 one.1 apart) both.1 one.2 in
          subst (λ (z : Literal). Contains h.lits z) same one.1
    ],
    λ there. elim (h.fails x there) [
      | inl f ↦ c.all x (h.follows.listed x.atom (h.follows.marked x there)) (h.follows.marked x there) f
      | inr e ↦ subst (λ (z : Literal). Contains lits z) (sym e) c.asserted
    ],
  )

  -- what is collected gives its first literal
  pub collected_reason : (lits : List Literal) → IsCollected (complement l) values m lits → IsReason lits (complement l) values
  collected_reason lits c = record {
    has = c.asserted;
    others = λ x there apart. elim (c.only x there) [ inl e ↦ absurd (apart e) | inr both ↦ both.1 ];
  }

  -- what is held, resolved with the reason of l
  pub held_resolved : (k : ℕ) (q : List Literal) (m' : Marks) → mark_at m l.atom ≡ true → slice_get clauses k ≡ Some q → IsReason q l values → IsMerged m q l.atom m'
      → IsHeld clauses (from ++ k ∷ []) m' values
  held_resolved k q m' marked at reason merged = record {
    lits = all;
    follows = record {
      derived = derived_more complement clauses from h.lits k q (complement l) all h.follows.derived at resolvent;
      marked = λ x there. elim (Contains-append_cases left right x there) [
        | inl a ↦ let kept = without_kept l.atom h.lits x a in merged.unmarked.others x.atom kept.1 ∙ merged.marked.kept x.atom (h.follows.marked x kept.0)
        | inr b ↦ let kept = without_kept l.atom q x b in merged.unmarked.others x.atom kept.1 ∙ merged.marked.marked x kept.0
      ];
      only = λ a is.
          let apart : a ≢ l.atom = λ e. false≢true (sym merged.unmarked.unmarked ∙ ap (mark_at m') (sym e) ∙ is) in
          elim (merged.marked.only a (sym (merged.unmarked.others a apart) ∙ is)) [
            | inl old ↦
                let one = h.follows.only a old in
                (one.0, Contains-append_left left right one.0 (without_keeps l.atom h.lits one.0 one.1 (λ e. apart (sym one.2 ∙ e))), one.2)
            | inr new ↦
                (new.0, Contains-append_right left right new.0 (without_keeps l.atom q new.0 new.1 (λ e. apart (sym new.2 ∙ e))), new.2)
          ];
      listed = λ a is.
          let apart : a ≢ l.atom = λ e. false≢true (sym merged.unmarked.unmarked ∙ ap (mark_at m') (sym e) ∙ is) in
          let there = merged.marked.listed h.follows.listed a (sym (merged.unmarked.others a apart) ∙ is) in
          subst (λ (ts : List ℕ). Contains ts a) (sym merged.unmarked.touched) there;
    };
    fails = λ x there. elim (Contains-append_cases left right x there) [
      | inl a ↦ let kept = without_kept l.atom h.lits x a in other_fails x kept.0 kept.1
      | inr b ↦ let kept = without_kept l.atom q x b in reason.others x kept.0 (λ e. kept.1 (ap (λ (z : Literal). z.atom) e))
    ];
  }
    where
      left : List Literal
      left = without l.atom h.lits

      right : List Literal
      right = without l.atom q

      all : List Literal
      all = left ++ right

      apart_of : (x : Literal) → Fails values x → x.atom ≢ l.atom
      apart_of x f = apart_from_free values x l.atom h.free f

      resolvent : IsResolvent complement (complement l) h.lits q all
      resolvent = record {
        first = pivot_held marked;
        second = subst (λ (z : Literal). Contains q z) (sym (double l)) reason.has;
        alone = λ x there other. elim (h.fails x there) [
          | inl f ↦ absurd (one_fails values x f (reason.others (complement x) other (λ e. apart_of x f (ap (λ (z : Literal). z.atom) e))))
          | inr e ↦ e
        ];
        literals = λ x. (
          λ there. elim (Contains-append_cases left right x there) [
            | inl a ↦ let kept = without_kept l.atom h.lits x a in inl (kept.0, λ e. kept.1 (ap (λ (z : Literal). z.atom) e))
            | inr b ↦ let kept = without_kept l.atom q x b in inr (kept.0, λ e. kept.1 (ap (λ (z : Literal). z.atom) e))
          ],
          λ either. elim either [
            | inl a ↦ Contains-append_left left right x (without_keeps l.atom h.lits x a.0 (apart_of x (elim (h.fails x a.0) [ inl f ↦ f | inr e ↦ absurd (a.1 e) ])))
            | inr b ↦ Contains-append_right left right x (without_keeps l.atom q x b.0 (apart_of x (reason.others x b.0 (λ e. b.1 (e ∙ sym (double l))))))
          ],
        );
      }

-- what is held, when the last step is taken back
pub held_popped : (clauses : List (List Literal)) (from : List ℕ) (m : Marks) (old new : Trail) (s : Step) → IsHeld clauses from m old.values → Undone clauses old new s → IsUndone old new s
    → IsHeldAt clauses from m new.values s.literal
held_popped clauses from m old new s h u undone = record {
  lits = h.lits;
  follows = h.follows;
  free = u.free;
  fails = λ x there. fails_before clauses old new s u undone x (h.fails x there);
}

-- ---- passing a step

pub passed_over : (clauses : List (List Literal)) (from from' : List ℕ) (m m' : Marks) (values : List (Option Value)) (s : Step) → mark_at m s.literal.atom ≡ false → from' ≡ from → m' ≡ m
    → IsHeldAt clauses from m values s.literal → IsHeld clauses from' m' values
passed_over clauses from from' m m' values s never ef em h =
    let P : List ℕ → Type 0 = λ f. IsHeld clauses f m' values in
    let Q : Marks → Type 0 = λ n. IsHeld clauses from n values in
    subst P (sym ef) (subst Q (sym em) (held_over clauses from m values s.literal h never))

-- ---- the begin

pub begun : (clauses : List (List Literal)) (k : ℕ) (q : List Literal) (from : List ℕ) (m m' : Marks) (values : List (Option Value)) (atoms : ℕ) → slice_get clauses k ≡ Some q → AreMarked m q m'
    → from ≡ [] → AreClear atoms m → AreListed m → AllFail values q → IsHeld clauses (from ++ k ∷ []) m' values
begun clauses k q from m m' values atoms at marked none clear listed fails = record {
  lits = q;
  follows = record {
    derived = derived_one complement clauses from k q none at;
    marked = marked.marked;
    only = λ a is. elim (marked.only a is) [ inl old ↦ absurd (false≢true (sym (clear.none a) ∙ old)) | inr new ↦ new ];
    listed = marked.listed listed;
  };
  fails = fails;
}

-- where no atom has a value, nothing is held
pub held_empty : (clauses : List (List Literal)) (from : List ℕ) (m : Marks) (values : List (Option Value)) → ((a : ℕ) → value_at values a ≡ None) → IsHeld clauses from m values
    → IsDerived complement clauses from []
held_empty clauses from m values none h =
    derived_same complement clauses from h.lits [] h.follows.derived (λ x. (λ there. absurd (nothing_in x there), λ there. absurd (never x there)))
  where
    never : (x : Literal) → Contains h.lits x → ⊥
    never x there = let f = h.fails x there in let n = none x.atom in cc

-- ---- how calls give these

pub begun_some : (clauses : List (List Literal)) (k : ℕ) (q q' : List Literal) (from from' : List ℕ) (m mid m' : Marks) (values : List (Option Value)) (atoms : ℕ) → slice_get clauses k ≡ Some q → q' ≡ q → AreMarked m q' mid → m' ≡ mid
    → from' ≡ from ++ k ∷ [] → from ≡ [] → AreClear atoms m → AreListed m → IsConflict clauses values k → IsHeld clauses from' m' values
begun_some clauses k q q' from from' m mid m' values atoms at same marked em ef none clear listed conflict =
    let one : Some q ≡ Some conflict.0 = sym at ∙ conflict.1 in
    let fails : AllFail values q = subst (λ (c : List Literal). AllFail values c) (some_same (sym one)) conflict.2 in
    let P : List ℕ → Type 0 = λ f. IsHeld clauses f m' values in
    let Q : Marks → Type 0 = λ n. IsHeld clauses (from ++ k ∷ []) n values in
    let R : List Literal → Type 0 = λ c. AreMarked m c mid in
    subst P (sym ef) (subst Q (sym em) (begun clauses k q from m mid values atoms at (subst R same marked) none clear listed fails))

pub passed_resolved : (clauses : List (List Literal)) (from from' : List ℕ) (m m' : Marks) (values : List (Option Value)) (l : Literal) (reason : Option ℕ) (k : ℕ) (q q' : List Literal) → reason ≡ Some k → IsJustified clauses reason l values
    → slice_get clauses k ≡ Some q → q' ≡ q → IsMerged m q' l.atom m' → from' ≡ from ++ k ∷ [] → mark_at m l.atom ≡ true → IsHeldAt clauses from m values l → IsHeld clauses from' m' values
passed_resolved clauses from from' m m' values l reason k q q' is just at same merged ef marked held =
    let J : Option ℕ → Type 0 = λ r. IsJustified clauses r l values in
    let known = subst J is just in
    let one : Some known.0 ≡ Some q = sym known.1 ∙ at in
    let because : IsReason q l values = subst (λ (c : List Literal). IsReason c l values) (some_same one) known.2 in
    let M : List Literal → Type 0 = λ c. IsMerged m c l.atom m' in
    let P : List ℕ → Type 0 = λ f. IsHeld clauses f m' values in
    subst P (sym ef) (held_resolved clauses from m values l held k q m' marked at because (subst M same merged))

-- a reason is there
pub justified_there : (clauses : List (List Literal)) (values : List (Option Value)) (l : Literal) (reason : Option ℕ) (k : ℕ) → reason ≡ Some k → IsJustified clauses reason l values → slice_get clauses k ≡ None → ⊥
justified_there clauses values l reason k is just none =
    let J : Option ℕ → Type 0 = λ r. IsJustified clauses r l values in
    let known = subst J is just in
    none_some known.0 (sym none ∙ known.1)
