-- Loops over marks, literals and atoms.
use mathlib.Core.Bool.{beq}
use Rattle.std.proofs.Common.{◌≡◌, ◌≢◌, ℕ, zero, suc, ◌+◌, ◌<◌, ◌≤◌, not, Bool, true, false, List, [], ◌∷◌, ◌++◌, length, take, replicate, get_or, Option, Some, None, is_some, Contains, ◌⊎◌, refl, sym, ap, ◌∙◌, subst, inl, inr}
use Rattle.std.proofs.lemmas.Bool.{cases_eq, false≢true, false_from_ne_true}
use Rattle.std.proofs.lemmas.List.{take_more, take_all, get_or_default, length-replicate}
use Rattle.std.proofs.lemmas.List.Elements.{Contains-push, Contains-push_cases, Contains-append_left}
use Rattle.clause_learning.specs.declared.literal.Literal.{Literal}
use Rattle.clause_learning.specs.declared.trail.Value.{Value}
use Rattle.clause_learning.specs.declared.marks.Marks.{Marks}
use Rattle.clause_learning.specs.declared.examining.Finding.{Finding}
use Rattle.clause_learning.specs.declared.examining.Finding.TheVariants.{Broken, Unit as Forced, Loose}
use Rattle.clause_learning.specs.code.Trails.{value_at, Fails, AllFail, IsReason}
use Rattle.clause_learning.specs.code.Marked.{mark_at, AreClear, AreListed, IsMarkedAt, IsUnmarkedAt, AreMarked}
use Rattle.clause_learning.specs.code.States.{IsFound, AllLoose}
use Rattle.clause_learning.proofs.Members.{nothing_in}
use Rattle.clause_learning.proofs.Trailing.{lit_same, one_sign, twice}

-- ---- one element more

module _ {X : Type 0} (xs : List X) (i : ℕ) (x : X) (within : i < length xs) (is : x ≡ get_or xs i x) where
  longer : take (i + 1) xs ≡ take i xs ++ x ∷ []
  longer = take_more xs i x within ∙ ap (λ (y : X). take i xs ++ y ∷ []) (sym is)

  pub more_cases : (y : X) → Contains (take (i + 1) xs) y → Contains (take i xs) y ⊎ (x ≡ y)
  more_cases y h = Contains-push_cases (take i xs) x y (subst (λ (ys : List X). Contains ys y) longer h)

  pub more_old : (y : X) → Contains (take i xs) y → Contains (take (i + 1) xs) y
  more_old y h = subst (λ (ys : List X). Contains ys y) (sym longer) (Contains-append_left (take i xs) (x ∷ []) y h)

  pub more_new : Contains (take (i + 1) xs) x
  more_new = subst (λ (ys : List X). Contains ys x) (sym longer) (Contains-push (take i xs) x)

-- ---- marks

pub no_marks : (n a : ℕ) → get_or (replicate n false) a false ≡ false
no_marks zero a = refl
no_marks (suc n) zero = refl
no_marks (suc n) (suc a) = no_marks n a

pub marks_clear : (atoms : ℕ) (m : Marks) → m.marks ≡ replicate atoms false → AreClear atoms m
marks_clear atoms m e = record {
  many = ap length e ∙ length-replicate atoms false;
  none = λ a. ap (λ (ms : List Bool). get_or ms a false) e ∙ no_marks atoms a;
}

pub marked_none : (old : Marks) → AreMarked old [] old
marked_none old = record {
  many = refl;
  kept = λ a h. h;
  marked = λ x there. absurd (nothing_in x there);
  only = λ a h. inl h;
  listed = λ h. h;
}

pub marked_more : (old mid new : Marks) (lits : List Literal) (i : ℕ) (x : Literal) → i < length lits → x ≡ get_or lits i x → AreMarked old (take i lits) mid → IsMarkedAt mid x.atom new
    → AreMarked old (take (i + 1) lits) new
marked_more old mid new lits i x within is h step = record {
  many = step.many ∙ h.many;
  kept = λ a m. stays a (h.kept a m);
  marked = λ y there. elim (more_cases lits i x within is y there) [
    | inl a ↦ stays y.atom (h.marked y a)
    | inr e ↦ subst (λ (z : Literal). mark_at new z.atom ≡ true) e step.marked
  ];
  only = λ a m. elim (cases_eq a x.atom) [
    | inl e ↦ inr (x, more_new lits i x within is, sym e)
    | inr apart ↦ elim (h.only a (sym (step.others a apart) ∙ m)) [
      | inl old_one ↦ inl old_one
      | inr one ↦ inr (one.0, more_old lits i x within is one.0 one.1, one.2)
    ]
  ];
  listed = λ l. step.listed (h.listed l);
}
  where
    stays : (a : ℕ) → mark_at mid a ≡ true → mark_at new a ≡ true
    stays a m = elim (cases_eq a x.atom) [ inl e ↦ ap (mark_at new) e ∙ step.marked | inr apart ↦ step.others a apart ∙ m ]

-- each marked atom is among those still to be cleared
pub record IsClearing (old new : Marks) : Type 0 where
  pub many : length new.marks ≡ length old.marks
  pub listed : AreListed new

pub clearing_more : (old mid popped new : Marks) (atom : ℕ) → IsClearing old mid → popped.marks ≡ mid.marks → mid.touched ≡ popped.touched ++ atom ∷ [] → IsUnmarkedAt popped atom new
    → IsClearing old new
clearing_more old mid popped new atom h same touched step = record {
  many = step.many ∙ ap length same ∙ h.many;
  listed = λ a m.
      let apart : a ≢ atom = λ e. false≢true (sym step.unmarked ∙ ap (mark_at new) (sym e) ∙ m) in
      let before : mark_at mid a ≡ true = ap (λ (ms : List Bool). get_or ms a false) (sym same) ∙ sym (step.others a apart) ∙ m in
      let there = subst (λ (ts : List ℕ). Contains ts a) touched (h.listed a before) in
      elim (Contains-push_cases popped.touched atom a there) [
        | inl old_one ↦ subst (λ (ts : List ℕ). Contains ts a) (sym step.touched) old_one
        | inr e ↦ absurd (apart (sym e))
      ];
}

pub cleared : (old mid new : Marks) → IsClearing old mid → mid.touched ≡ [] → new.marks ≡ mid.marks → AreClear (length old.marks) new
cleared old mid new h none same = record {
  many = ap length same ∙ h.many;
  none = λ a. false_from_ne_true (mark_at new a) (λ m. nothing_in a (subst (λ (ts : List ℕ). Contains ts a) none (h.listed a (ap (λ (ms : List Bool). get_or ms a false) (sym same) ∙ m))));
}

-- ---- the literals of a clause

-- the literals so far fail, but for at most one that has no value
pub record IsScanned (values : List (Option Value)) (lits : List Literal) (one : Option Literal) : Type 0 where
  pub others : (x : Literal) → Contains lits x → Fails values x ⊎ (one ≡ Some x)
  pub free : (l : Literal) → one ≡ Some l → (value_at values l.atom ≡ None) × Contains lits l

pub scanned_none : (values : List (Option Value)) → IsScanned values [] None
scanned_none values = record {
  others = λ x there. absurd (nothing_in x there);
  free = λ l e. absurd (let never : None ≡ Some l = e in cc);
}

pub fails_by : (values : List (Option Value)) (x : Literal) (v : Value) → value_at values x.atom ≡ Some v → (v.positive ≡ x.positive → ⊥) → Fails values x
fails_by values x v e differ = (v.place, e ∙ ap (λ (b : Bool). Some (record { positive = b; place = v.place })) (other v.positive x.positive differ))
  where
    other : (a b : Bool) → (a ≡ b → ⊥) → a ≡ not b
    other true true differ = absurd (differ refl)
    other true false differ = refl
    other false true differ = refl
    other false false differ = absurd (differ refl)

pub not_failing : (values : List (Option Value)) (x : Literal) (v : Value) → value_at values x.atom ≡ Some v → v.positive ≡ x.positive → Fails values x → ⊥
not_failing values x v e same f = both x.positive (sym same ∙ one_sign (value_at values x.atom) v.positive (not x.positive) v.place f.0 e f.1)
  where
    both : (b : Bool) → b ≡ not b → ⊥
    both true h = false≢true (sym h)
    both false h = false≢true h

pub not_failing_free : (values : List (Option Value)) (x : Literal) → value_at values x.atom ≡ None → Fails values x → ⊥
not_failing_free values x e f = let some = f.1 in cc

module _ (values : List (Option Value)) (lits : List Literal) (i : ℕ) (x : Literal) (within : i < length lits) (is : x ≡ get_or lits i x) where
  pub scanned_false : (one : Option Literal) → IsScanned values (take i lits) one → Fails values x → IsScanned values (take (i + 1) lits) one
  scanned_false one h f = record {
    others = λ y there. elim (more_cases lits i x within is y there) [ inl a ↦ h.others y a | inr e ↦ inl (subst (λ (z : Literal). Fails values z) e f) ];
    free = λ l e. let old = h.free l e in (old.0, more_old lits i x within is l old.1);
  }

  pub scanned_free : IsScanned values (take i lits) None → value_at values x.atom ≡ None → IsScanned values (take (i + 1) lits) (Some x)
  scanned_free h free = record {
    others = λ y there. elim (more_cases lits i x within is y there) [
      | inl a ↦ elim (h.others y a) [ inl f ↦ inl f | inr never ↦ absurd (let none : None ≡ Some y = never in cc) ]
      | inr e ↦ inr (ap (λ (z : Literal). Some z) e)
    ];
    free = λ l e.
        let same : x ≡ l = cc in
        (subst (λ (z : Literal). value_at values z.atom ≡ None) same free, subst (λ (z : Literal). Contains (take (i + 1) lits) z) same (more_new lits i x within is));
  }

pub scanned_broken : (values : List (Option Value)) (lits : List Literal) → IsScanned values lits None → AllFail values lits
scanned_broken values lits h x there = elim (h.others x there) [ inl f ↦ f | inr never ↦ absurd (let none : None ≡ Some x = never in cc) ]

pub scanned_forced : (values : List (Option Value)) (lits : List Literal) (l : Literal) → IsScanned values lits (Some l) → (value_at values l.atom ≡ None) × IsReason lits l values
scanned_forced values lits l h =
    let free = h.free l refl in (
      free.0,
      record {
        has = free.1;
        others = λ x there apart. elim (h.others x there) [ inl f ↦ f | inr e ↦ absurd (apart (let same : Some l ≡ Some x = e in cc)) ];
      },
    )

-- ---- what is collected

pub record IsCollecting (l : Literal) (values : List (Option Value)) (m : Marks) (atoms : List ℕ) (lits : List Literal) : Type 0 where
  pub asserted : Contains lits l
  pub only : (x : Literal) → Contains lits x → (x ≡ l) ⊎ ((mark_at m x.atom ≡ true) × Fails values x)
  pub all : (x : Literal) → Contains atoms x.atom → mark_at m x.atom ≡ true → Fails values x → Contains lits x

pub collecting_none : (l : Literal) (values : List (Option Value)) (m : Marks) → IsCollecting l values m [] (l ∷ [])
collecting_none l values m = record {
  asserted = Contains-push [] l;
  only = λ x there. elim (Contains-push_cases [] l x there) [ inl never ↦ absurd (nothing_in x never) | inr e ↦ inl (sym e) ];
  all = λ x there marked f. absurd (nothing_in x.atom there);
}

module _ (l : Literal) (values : List (Option Value)) (m : Marks) (atoms : List ℕ) (i : ℕ) (a : ℕ) (within : i < length atoms) (is : a ≡ get_or atoms i a) (lits : List Literal) (h : IsCollecting l values m (take i atoms) lits) where
  -- an atom that gives nothing
  pub collecting_over : ((x : Literal) → x.atom ≡ a → mark_at m x.atom ≡ true → Fails values x → ⊥) → IsCollecting l values m (take (i + 1) atoms) lits
  collecting_over never = record {
    asserted = h.asserted;
    only = h.only;
    all = λ x there marked f. elim (more_cases atoms i a within is x.atom there) [ inl old ↦ h.all x old marked f | inr e ↦ absurd (never x (sym e) marked f) ];
  }

  -- an atom that gives a literal
  pub collecting_more : (v : Value) → mark_at m a ≡ true → value_at values a ≡ Some v → IsCollecting l values m (take (i + 1) atoms) (lits ++ record { atom = a; positive = not v.positive } ∷ [])
  collecting_more v marked e = record {
    asserted = Contains-append_left lits (made ∷ []) l h.asserted;
    only = λ x there. elim (Contains-push_cases lits made x there) [
      | inl old ↦ h.only x old
      | inr same ↦ inr (subst (λ (z : Literal). (mark_at m z.atom ≡ true) × Fails values z) same (marked, (v.place, e ∙ ap (λ (b : Bool). Some (record { positive = b; place = v.place })) (twice v.positive))))
    ];
    all = λ x there mark f. elim (more_cases atoms i a within is x.atom there) [
      | inl old ↦ Contains-append_left lits (made ∷ []) x (h.all x old mark f)
      | inr same ↦ subst (λ (z : Literal). Contains (lits ++ made ∷ []) z) (is_made x same f) (Contains-push lits made)
    ];
  }
    where
      made : Literal
      made = record { atom = a; positive = not v.positive }

      is_made : (x : Literal) → a ≡ x.atom → Fails values x → made ≡ x
      is_made x same f =
          let signs : v.positive ≡ not x.positive = one_sign (value_at values a) v.positive (not x.positive) v.place f.0 e (ap (value_at values) same ∙ f.1) in
          lit_same made x same (ap not signs ∙ sym (twice x.positive))

-- ---- the ends of loops

pub taken_all : {X : Type 0} (xs : List X) (i : ℕ) → length xs ≤ i → take i xs ≡ xs
taken_all xs i h = take_all i xs h

-- what is read, read again
pub read_again : {X : Type 0} (xs : List X) (i : ℕ) (d : X) → i < length xs → get_or xs i d ≡ get_or xs i (get_or xs i d)
read_again xs i d h = get_or_default xs i d (get_or xs i d) h

pub beq_same : (a b : Bool) → beq a b ≡ true → a ≡ b
beq_same true true e = refl
beq_same true false e = absurd (false≢true e)
beq_same false true e = absurd (false≢true e)
beq_same false false e = refl

pub beq_differ : (a b : Bool) → beq a b ≡ false → a ≡ b → ⊥
beq_differ true true e h = false≢true (sym e)
beq_differ true false e h = false≢true (sym h)
beq_differ false true e h = false≢true h
beq_differ false false e h = false≢true (sym e)

pub none_of : {X : Type 0} (o : Option X) → is_some o ≡ false → o ≡ None
none_of None e = refl
none_of (Some x) e = absurd (false≢true (sym e))

-- ---- clauses that are not false

found_loose : (values : List (Option Value)) (c : List Literal) (f : Finding) → IsFound values c f → (f ≡ Broken → ⊥) → (x : Literal) × Contains c x × (Fails values x → ⊥)
found_loose values c Broken h differ = absurd (differ refl)
found_loose values c (Forced l) h differ = (l, h.1.has, not_failing_free values l h.0)
found_loose values c Loose h differ = h

pub loose_more : (values : List (Option Value)) (inputs : List (List Literal)) (i : ℕ) (q q' : List Literal) (f : Finding) → i < length inputs → q ≡ get_or inputs i q → q' ≡ q → IsFound values q' f → (f ≡ Broken → ⊥)
    → AllLoose values (take i inputs) → AllLoose values (take (i + 1) inputs)
loose_more values inputs i q q' f within is same found differ h c there =
    elim (more_cases inputs i q within is c there) [
      | inl old ↦ h c old
      | inr e ↦ subst (λ (k : List Literal). (x : Literal) × Contains k x × (Fails values x → ⊥)) (same ∙ e) (found_loose values q' f found differ)
    ]

pub loose_all : (values : List (Option Value)) (inputs : List (List Literal)) (i : ℕ) → length inputs ≤ i → AllLoose values (take i inputs) → AllLoose values inputs
loose_all values inputs i past h = let P : List (List Literal) → Type 0 = λ cs. AllLoose values cs in subst P (take_all i inputs past) h
