-- How trails grow and shrink.
use Rattle.std.proofs.Common.{◌≡◌, ◌≢◌, ℕ, zero, suc, ◌+◌, ◌<◌, ◌≤◌, not, Bool, true, false, List, [], ◌∷◌, ◌++◌, length, reverse, replicate, set, Option, Some, None, ◌⊎◌, refl, sym, ap, ◌∙◌, subst, inl, inr, arith}
use Rattle.std.proofs.lemmas.List.{get_or-set_same, get_or-set_other, set-set, set-get_or, length-set, reverse-append, length-reverse, get_or_past}
use Rattle.std.proofs.lemmas.Bool.{cases_lt, cases_eq}
use Rattle.clause_learning.specs.declared.literal.Literal.{Literal}
use Rattle.clause_learning.specs.declared.trail.Value.{Value}
use Rattle.clause_learning.specs.declared.trail.Step.{Step}
use Rattle.clause_learning.specs.declared.trail.Trail.{Trail}
use Rattle.clause_learning.specs.Literals.{complement}
use Rattle.clause_learning.specs.code.Trails.{value_at, Fails, IsJustified, IsStep, Gives, IsTrail, IsFresh, IsPushed, IsUndone}
use Rattle.clause_learning.proofs.Members.{got_left}

-- ---- values

-- an atom that has a value is there
pub valued_within : (values : List (Option Value)) (a : ℕ) (v : Value) → value_at values a ≡ Some v → a < length values
valued_within values a v e =
    elim (cases_lt a (length values)) [ inl h ↦ h | inr h ↦ absurd (let past : value_at values a ≡ None = get_or_past values a None h in cc) ]

pub fails_within : (values : List (Option Value)) (x : Literal) → Fails values x → x.atom < length values
fails_within values x h = valued_within values x.atom (record { positive = not x.positive; place = h.0 }) h.1

-- an atom that has no value is not that of a false literal
pub apart_from_free : (values : List (Option Value)) (x : Literal) (a : ℕ) → value_at values a ≡ None → Fails values x → x.atom ≢ a
apart_from_free values x a free h e = let other : value_at values x.atom ≡ None = ap (value_at values) e ∙ free in let some = h.1 in cc

pub twice : (b : Bool) → b ≡ not (not b)
twice true = refl
twice false = refl

not_same : (a b : Bool) → not a ≡ not b → a ≡ b
not_same a b e = twice a ∙ ap not e ∙ sym (twice b)

-- literals of one atom and one sign are the same
pub lit_same : (x y : Literal) → x.atom ≡ y.atom → x.positive ≡ y.positive → x ≡ y
lit_same x y atom sign =
    let made : ℕ → Bool → Literal = λ a b. record { atom = a; positive = b } in
    ap (λ (a : ℕ). made a x.positive) atom ∙ ap (λ (b : Bool). made y.atom b) sign

-- the sign of a value
positive_of : Option Value → Bool
positive_of (Some v) = v.positive
positive_of None = true

-- one atom has one sign
pub one_sign : (o : Option Value) (a b : Bool) (p q : ℕ) → o ≡ Some (record { positive = a; place = p }) → o ≡ Some (record { positive = b; place = q }) → a ≡ b
unfolding positive_of
one_sign o a b p q e f = ap positive_of (sym e ∙ f)

-- two false literals of one atom are the same
pub one_false : (values : List (Option Value)) (x y : Literal) → Fails values x → Fails values y → x.atom ≡ y.atom → x ≡ y
one_false values x y f g e =
    lit_same x y e (not_same x.positive y.positive (one_sign (value_at values y.atom) (not x.positive) (not y.positive) f.0 g.0 (ap (value_at values) (sym e) ∙ f.1) g.1))

-- a false literal of another atom stays false
pub fails_without : (values : List (Option Value)) (a : ℕ) (v : Option Value) (x : Literal) → x.atom ≢ a → Fails values x → Fails (set values a v) x
fails_without values a v x apart h = (h.0, get_or-set_other values a x.atom v None apart ∙ h.1)

-- a literal that is false without a value of this atom is false with it
pub fails_with : (values : List (Option Value)) (a : ℕ) (v : Option Value) (x : Literal) → value_at values a ≡ None → Fails values x → Fails (set values a v) x
fails_with values a v x free h = fails_without values a v x (apart_from_free values x a free h) h

-- ---- trails

-- the values before a step that gave this atom one
set_back : (values : List (Option Value)) (a : ℕ) (v : Option Value) → value_at values a ≡ None → set (set values a v) a None ≡ values
set_back values a v free = set-set values a v None ∙ ap (set values a) (sym free) ∙ set-get_or values a None

pub gives_pushed : (clauses : List (List Literal)) (back : List Step) (values : List (Option Value)) (l : Literal) (reason : Option ℕ) → Gives clauses back values → l.atom < length values
    → value_at values l.atom ≡ None → IsJustified clauses reason l values
    → Gives clauses (record { literal = l; reason = reason } ∷ back) (set values l.atom (Some (record { positive = l.positive; place = length back })))
gives_pushed clauses back values l reason g within free just =
    let v : Option Value = Some (record { positive = l.positive; place = length back }) in
    let back_again : values ≡ set (set values l.atom v) l.atom None = sym (set_back values l.atom v free) in
    let J : List (Option Value) → Type 0 = λ vs. IsJustified clauses reason l vs in
    let G : List (Option Value) → Type 0 = λ vs. Gives clauses back vs in (
      record {
        within = subst (λ (n : ℕ). l.atom < n) (sym (length-set values l.atom v)) within;
        value = get_or-set_same values l.atom v None within;
        reason = subst J back_again just;
      },
      subst G back_again g,
    )

pub trail_pushed : (clauses : List (List Literal)) (old new : Trail) (l : Literal) (reason : Option ℕ) → IsTrail clauses old → l.atom < length old.values → value_at old.values l.atom ≡ None
    → IsJustified clauses reason l old.values → IsPushed old l reason new → IsTrail clauses new
trail_pushed clauses old new l reason g within free just h =
    let s : Step = record { literal = l; reason = reason } in
    let steps : s ∷ reverse old.steps ≡ reverse new.steps = sym (ap reverse h.steps ∙ reverse-append old.steps (s ∷ [])) in
    let V : ℕ → List (Option Value) = λ n. set old.values l.atom (Some (record { positive = l.positive; place = n })) in
    let values : V (length (reverse old.steps)) ≡ new.values = ap V (length-reverse old.steps) ∙ sym h.values in
    let G : List Step → Type 0 = λ ss. Gives clauses ss new.values in
    let W : List (Option Value) → Type 0 = λ vs. Gives clauses (s ∷ reverse old.steps) vs in
    subst G steps (subst W values (gives_pushed clauses (reverse old.steps) old.values l reason g within free just))

-- the last step, and the trail before it
pub record Undone (clauses : List (List Literal)) (old new : Trail) (s : Step) : Type 0 where
  pub steps : reverse old.steps ≡ s ∷ reverse new.steps
  pub many : length new.values ≡ length old.values
  pub step : IsStep clauses s (length new.steps) old.values
  pub reason : IsJustified clauses s.reason s.literal new.values
  pub free : value_at new.values s.literal.atom ≡ None
  pub trail : IsTrail clauses new

pub trail_undone : (clauses : List (List Literal)) (old new : Trail) (s : Step) → IsTrail clauses old → IsUndone old new s → Undone clauses old new s
trail_undone clauses old new s g h =
    let steps : reverse old.steps ≡ s ∷ reverse new.steps = ap reverse h.steps ∙ reverse-append new.steps (s ∷ []) in
    let G : List Step → Type 0 = λ ss. Gives clauses ss old.values in
    let both = subst G steps g in
    let S : ℕ → Type 0 = λ n. IsStep clauses s n old.values in
    let J : List (Option Value) → Type 0 = λ vs. IsJustified clauses s.reason s.literal vs in
    let W : List (Option Value) → Type 0 = λ vs. Gives clauses (reverse new.steps) vs in
    record {
      steps = steps;
      many = ap length h.values ∙ length-set old.values s.literal.atom None;
      step = subst S (length-reverse new.steps) both.0;
      reason = subst J (sym h.values) both.0.reason;
      free = ap (λ (vs : List (Option Value)). value_at vs s.literal.atom) h.values ∙ get_or-set_same old.values s.literal.atom None None both.0.within;
      trail = subst W (sym h.values) both.1;
    }

-- a false literal is false before the last step, or the opposite of that
pub fails_before : (clauses : List (List Literal)) (old new : Trail) (s : Step) → Undone clauses old new s → IsUndone old new s → (x : Literal) → Fails old.values x
    → Fails new.values x ⊎ (x ≡ complement s.literal)
fails_before clauses old new s u h x f =
    elim (cases_eq x.atom s.literal.atom) [
      | inl e ↦ inr (opposite_of e)
      | inr apart ↦ inl (subst (λ (vs : List (Option Value)). Fails vs x) (sym h.values) (fails_without old.values s.literal.atom None x apart f))
    ]
  where
    opposite_of : x.atom ≡ s.literal.atom → x ≡ complement s.literal
    opposite_of e =
        let signs : not x.positive ≡ s.literal.positive
        = one_sign (value_at old.values s.literal.atom) (not x.positive) s.literal.positive f.0 (length new.steps) (ap (value_at old.values) (sym e) ∙ f.1) u.step.value in
        lit_same x (complement s.literal) e (not_same x.positive (not s.literal.positive) (signs ∙ twice s.literal.positive))

justified_more : (clauses more : List (List Literal)) (reason : Option ℕ) (l : Literal) (values : List (Option Value)) → IsJustified clauses reason l values → IsJustified (clauses ++ more) reason l values
justified_more clauses more None l values h = h
justified_more clauses more (Some r) l values h = (h.0, got_left clauses more r h.0 h.1, h.2)

-- clauses more
pub gives_more : (clauses more : List (List Literal)) (back : List Step) (values : List (Option Value)) → Gives clauses back values → Gives (clauses ++ more) back values
gives_more clauses more [] values g = g
gives_more clauses more (s ∷ back) values g = (
  record { within = g.0.within; value = g.0.value; reason = justified_more clauses more s.reason s.literal (set values s.literal.atom None) g.0.reason },
  gives_more clauses more back (set values s.literal.atom None) g.1,
)

pub trail_fresh : (clauses : List (List Literal)) (atoms : ℕ) (t : Trail) → IsFresh atoms t → IsTrail clauses t
trail_fresh clauses atoms t h =
    let G : List Step → Type 0 = λ ss. Gives clauses ss t.values in
    let none : (a : ℕ) → value_at t.values a ≡ None = λ a. ap (λ (vs : List (Option Value)). value_at vs a) h.values ∙ none_at atoms a in
    subst G (sym (ap reverse h.steps)) none
  where
    none_at : (n a : ℕ) → value_at (replicate n None) a ≡ None
    none_at zero a = refl
    none_at (suc n) zero = refl
    none_at (suc n) (suc a) = none_at n a

-- ---- how long a trail can be

abbrev frees : List (Option Value) → ℕ
frees [] = 0
frees (None ∷ values) = suc (frees values)
frees (Some v ∷ values) = frees values

frees_all : (values : List (Option Value)) → ((a : ℕ) → value_at values a ≡ None) → frees values ≡ length values
frees_all [] h = refl
frees_all (None ∷ values) h = ap suc (frees_all values (λ a. h (suc a)))
frees_all (Some v ∷ values) h = absurd (let never = h 0 in cc)

frees_one : (values : List (Option Value)) (a : ℕ) (v : Value) → value_at values a ≡ Some v → frees (set values a None) ≡ suc (frees values)
frees_one [] a v e = absurd (let never : None ≡ Some v = e in cc)
frees_one (None ∷ values) zero v e = absurd (let never : None ≡ Some v = e in cc)
frees_one (Some w ∷ values) zero v e = refl
frees_one (None ∷ values) (suc a) v e = ap suc (frees_one values a v e)
frees_one (Some w ∷ values) (suc a) v e = frees_one values a v e

pub gives_length : (clauses : List (List Literal)) (back : List Step) (values : List (Option Value)) → Gives clauses back values → length back + frees values ≡ length values
gives_length clauses [] values g = let all = frees_all values g in omega (arith, all)
gives_length clauses (s ∷ back) values g =
    let rest = gives_length clauses back (set values s.literal.atom None) g.1 in
    let one = frees_one values s.literal.atom (record { positive = s.literal.positive; place = length back }) g.0.value in
    let same = length-set values s.literal.atom None in
    omega (arith, rest, one, same)

-- a trail is no longer than there are atoms
pub trail_short : (clauses : List (List Literal)) (t : Trail) → IsTrail clauses t → length (reverse t.steps) ≤ length t.values
trail_short clauses t g = omega (arith, gives_length clauses (reverse t.steps) t.values g)
