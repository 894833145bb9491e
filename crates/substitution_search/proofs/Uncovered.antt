-- Literals no instances of which can be covered, as code finds them.
use Rattle.std.specs.Prelude.{ℕ, ◌≡◌, ◌≢◌, ◌+◌, ◌<◌, ◌≤◌, ◌⊎◌, Bool, true, false, not, List, [], ◌∷◌, ◌++◌, length, map, Some, slice_get, refl}
use Rattle.std.proofs.Common.{ap, sym, subst, ◌∙◌, arith, zero, suc, inl, inr, below_more}
use Rattle.std.proofs.lemmas.Option.{slice_get_within}
use Rattle.fof_terms.specs.declared.term.Term.{Term, Var}
use Rattle.clause_form.specs.declared.clause.AtomOf.{AtomOf}
use Rattle.clause_form.specs.declared.clause.AtomOf.TheVariants.{Pred, Eq, True, False}
use Rattle.clause_form.specs.declared.clause.Lit.{Lit}
use Rattle.clause_form.proofs.ClauseLaws.{get_image}
use Rattle.clause_form.specs.Covers.{at_terms, lit_image, IsSame, Denies, IsCovered}
use Rattle.clause_form.specs.Images.{image}
use Rattle.substitution_search.specs.Screens.{Stays, NeverEqual, NeverClash, NeverAll, NeverCovered, NeverPivot, NeverOthers, NeverTogether}
use Rattle.substitution_search.specs.code.Screens.{NeverSame, NeverBecomes, NeverAbsurd, NeverStays, NeverAmong}
use Rattle.clause_rules.proofs.Firsts.{one_at}
use Rattle.clause_rules.proofs.LitImages.{image_itself, same_maps}

-- no line is spoken of
pub no_line : (r : ℕ → Term) → Stays false r
no_line r = record { stays = λ e t. cc }

pub itself : Stays true Var
itself = record { stays = λ e t. image_itself t }

not_itself : (b c : Bool) → b ≡ c → not b ≡ c → ⊥
not_itself true true e f = cc
not_itself true false e f = cc
not_itself false true e f = cc
not_itself false false e f = cc

pub never_clash_signs : (k l : Lit) → k.positive ≡ l.positive → NeverClash k l
never_clash_signs k l e = λ s r h.
    elim h [
      | inl same ↦ not_itself k.positive l.positive e (ap (λ (x : Lit). x.positive) same)
      | inr same ↦ not_itself k.positive l.positive e (ap (λ (x : Lit). x.positive) same)
    ]

pub never_clash_atoms : (k l : Lit) → NeverSame false k.atom l.atom → NeverClash k l
never_clash_atoms k l never = λ s r h.
    elim h [
      | inl same ↦ never s r (no_line r) (inl (ap (λ (x : Lit). x.atom) same))
      | inr same ↦ never s r (no_line r) (inr (ap (λ (x : Lit). x.atom) same))
    ]

pub never_becomes_signs : (is_line : Bool) (k l : Lit) → (k.positive ≡ l.positive → ⊥) → NeverBecomes is_line k l
never_becomes_signs is_line k l other = λ s r st h.
    elim h [
      | inl same ↦ other (ap (λ (x : Lit). x.positive) same)
      | inr same ↦ other (ap (λ (x : Lit). x.positive) same)
    ]

pub never_becomes_atoms : (is_line : Bool) (k l : Lit) → NeverSame is_line k.atom l.atom → NeverBecomes is_line k l
never_becomes_atoms is_line k l never = λ s r st h.
    elim h [
      | inl same ↦ never s r st (inl (ap (λ (x : Lit). x.atom) same))
      | inr same ↦ never s r st (inr (ap (λ (x : Lit). x.atom) same))
    ]

-- the atom as it is, and not the field of a literal
abbrev DeniesNever : AtomOf → Bool → Type 0
DeniesNever a positive = (s : ℕ → Term) → Denies (at_terms (image s) a) positive → ⊥

as_atom : (k : Lit) (a : AtomOf) → k.atom ≡ a → DeniesNever a k.positive → NeverAbsurd k
as_atom k a e never = subst (λ (x : AtomOf). DeniesNever x k.positive) (sym e) never

pub never_absurd_pred : (k : Lit) (p : ℕ) (ts : List Term) → k.atom ≡ Pred p ts → NeverAbsurd k
never_absurd_pred k p ts e = as_atom k (Pred p ts) e (λ s h. h)

pub never_absurd_stated : (k : Lit) (l r : Term) → k.atom ≡ Eq l r → k.positive ≡ true → NeverAbsurd k
never_absurd_stated k l r e stated = as_atom k (Eq l r) e (λ s h. let denied = h.0 in cc)

pub never_absurd_sides : (k : Lit) (l r : Term) → k.atom ≡ Eq l r → NeverEqual false l r → NeverAbsurd k
never_absurd_sides k l r e never = as_atom k (Eq l r) e (λ s h. never s s (no_line s) h.1)

pub never_absurd_true : (k : Lit) → k.atom ≡ True → k.positive ≡ true → NeverAbsurd k
never_absurd_true k e stated = as_atom k True e (λ s h. cc)

pub never_absurd_false : (k : Lit) → k.atom ≡ False → k.positive ≡ false → NeverAbsurd k
never_absurd_false k e denied = as_atom k False e (λ s h. cc)

-- literals of the line stay as they are
atom_itself : (a : AtomOf) → at_terms (image Var) a ≡ a
atom_itself (Pred p ts) = ap (Pred p) (same_maps (image Var) (λ t. t) ts image_itself ∙ map_itself ts) where
  map_itself : (us : List Term) → map (λ t. t) us ≡ us
  map_itself [] = refl
  map_itself (u ∷ us) = ap (λ vs. u ∷ vs) (map_itself us)
atom_itself (Eq l r) = rw (image_itself l, image_itself r) refl
atom_itself True = refl
atom_itself False = refl

lit_itself : (l : Lit) → lit_image Var l ≡ l
lit_itself l = ap (λ (a : AtomOf). record { positive = l.positive; atom = a }) (atom_itself l.atom)

-- the literal is no literal of the line before that number
abbrev pub NotBefore : List Lit → Lit → ℕ → Type 0
NotBefore line k n = (m : ℕ) → m < n → (l : Lit) → slice_get line m ≡ Some l → NeverBecomes true k l

pub not_before_more : (line : List Lit) (k : Lit) (n : ℕ) (x : Lit) → slice_get line n ≡ Some x → NeverBecomes true k x → NotBefore line k n → NotBefore line k (n + 1)
not_before_more line k n x at never before = below_more _ _ before (λ l e. subst (NeverBecomes true k) (one_at line n x l at e) never)

pub never_covered : (line : List Lit) (k : Lit) (n : ℕ) → length line ≤ n → NotBefore line k n → NeverAbsurd k → NeverCovered line k
never_covered line k n end before never = λ s h.
    elim h [
      | inl w ↦
          let lt = slice_get_within line w.0 w.1 w.2 in
          before w.0 (omega arith) w.1 w.2 s Var itself (subst (λ (x : Lit). IsSame (lit_image s k) x) (sym (lit_itself w.1)) w.3)
      | inr a ↦ never s a
    ]

further : (x : Lit) (line : List Lit) (k : Lit) → IsCovered line k → IsCovered (x ∷ line) k
further x line k (inl w) = inl (suc w.0, w.1, w.2, w.3)
further x line k (inr a) = inr a

-- of the line and one literal more
one_more : (line : List Lit) (p k : Lit) (i : ℕ) (l : Lit) → slice_get (line ++ p ∷ []) i ≡ Some l → IsSame k l → IsCovered line k ⊎ IsSame k p
one_more [] p k zero l e h = let same : p ≡ l = cc in inr (subst (IsSame k) (sym same) h)
one_more [] p k (suc i) l e h = cc
one_more (x ∷ line) p k zero l e h = inl (inl (0, l, e, h))
one_more (x ∷ line) p k (suc i) l e h =
    elim (one_more line p k i l e h) [
      | inl c ↦ inl (further x line k c)
      | inr same ↦ inr same
    ]

pub covered_or_pivot : (line : List Lit) (p k : Lit) → IsCovered (line ++ p ∷ []) k → IsCovered line k ⊎ IsSame k p
covered_or_pivot line p k (inl w) = one_more line p k w.0 w.1 w.2 w.3
covered_or_pivot line p k (inr a) = inl (inr a)

pub never_stays : (line : List Lit) (k p : Lit) → NeverBecomes false k p → NeverCovered line k → NeverStays line k p
never_stays line k p one two = λ s h.
    elim h [
      | inl c ↦ two s c
      | inr same ↦ one s s (no_line s) same
    ]

pub never_pivot : (line lits : List Lit) (i m : ℕ) (p k : Lit) → slice_get lits i ≡ Some p → slice_get lits m ≡ Some k → NeverStays line k p → NeverPivot line lits i
never_pivot line lits i m p k at there never = λ s pivot is all.
    let same : lit_image s p ≡ pivot = let e = get_image s lits i p at in cc in
    never s (subst (λ (x : Lit). IsCovered line (lit_image s k) ⊎ IsSame (lit_image s k) x) (sym same) (covered_or_pivot line pivot (lit_image s k) (all m (lit_image s k) (get_image s lits m k there))))

pub never_others : (line lits : List Lit) (i m : ℕ) (k : Lit) → m ≢ i → slice_get lits m ≡ Some k → NeverCovered line k → NeverOthers line lits i
never_others line lits i m k other there never = λ s all. never s (all m (lit_image s k) other (get_image s lits m k there))

pub never_all : (line lits : List Lit) (m : ℕ) (k : Lit) → slice_get lits m ≡ Some k → NeverCovered line k → NeverAll line lits
never_all line lits m k there never = λ s all. never s (all m (lit_image s k) (get_image s lits m k there))

-- the literal becomes none of the targets before that number
abbrev pub NotYet : List Lit → Lit → ℕ → Type 0
NotYet targets k n = (m : ℕ) → m < n → (l : Lit) → slice_get targets m ≡ Some l → NeverBecomes false k l

pub not_yet_more : (targets : List Lit) (k : Lit) (n : ℕ) (x : Lit) → slice_get targets n ≡ Some x → NeverBecomes false k x → NotYet targets k n → NotYet targets k (n + 1)
not_yet_more targets k n x at never before = below_more _ _ before (λ l e. subst (NeverBecomes false k) (one_at targets n x l at e) never)

imaged : (s : ℕ → Term) (lits : List Lit) (i : ℕ) (l : Lit) → slice_get (map (lit_image s) lits) i ≡ Some l → (k : Lit) × (slice_get lits i ≡ Some k) × (lit_image s k ≡ l)
imaged s [] i l e = cc
imaged s (k ∷ lits) zero l e = (k, refl, cc)
imaged s (k ∷ lits) (suc i) l e = imaged s lits i l e

pub never_among : (targets : List Lit) (k : Lit) (n : ℕ) → length targets ≤ n → NotYet targets k n → NeverAbsurd k → NeverAmong targets k
never_among targets k n end before never = λ s h.
    elim h [
      | inl w ↦
          let found = imaged s targets w.0 w.1 w.2 in
          let lt = slice_get_within targets w.0 found.0 found.1 in
          before w.0 (omega arith) found.0 found.1 s s (no_line s) (subst (λ (x : Lit). IsSame (lit_image s k) x) (sym found.2) w.3)
      | inr a ↦ never s a
    ]

pub never_together : (targets lits : List Lit) (m : ℕ) (k : Lit) → slice_get lits m ≡ Some k → NeverAmong targets k → NeverTogether targets lits
never_together targets lits m k there never = λ s all. never s (all m (lit_image s k) (get_image s lits m k there))
