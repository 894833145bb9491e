-- Inferences keep literals plain.
use Rattle.std.specs.Prelude.{ℕ, zero, suc, ◌≡◌, true, List, [], ◌∷◌, ◌++◌, map, remove, drop, take, Some, slice_get, slice_set, refl}
use Rattle.std.proofs.Common.{ap, sym, subst, ◌∙◌, inl, inr}
use Rattle.fof_terms.proofs.KnownSorts.{at_place}
use Rattle.fof_terms.specs.Vocabulary.{Vocabulary}
use Rattle.fof_terms.specs.declared.term.Term.{Term}
use Rattle.inference_proofs.proofs.Kept.{Has, changed_or, has_split, image_from}
use Rattle.clause_form.specs.Covers.{at_terms, in_lit}
use Rattle.clause_form.specs.Paths.{is_plain}
use Rattle.clause_form.specs.declared.clause.AtomOf.{AtomOf}
use Rattle.clause_form.specs.declared.clause.AtomOf.TheVariants.{Pred, Eq, True, False}
use Rattle.clause_form.specs.declared.clause.Clause.{Clause}
use Rattle.clause_form.specs.declared.clause.Lit.{Lit}
use Rattle.clause_rules.specs.Places.{args_of_atom, atom_with_args, lit_put_at, put_at, sides_of}
use Rattle.clause_rules.specs.Steps.{apart_from, unequal}
use Rattle.superpose.specs.Drafts.{Draft, IsMadeBy}
use Rattle.superpose.specs.Inferences.{InfersFromOne, InfersFromTwo, IsDraftOfOne, IsDraftOfTwo}
use Rattle.printed_steps.specs.Printed.{IsPlain}
use Rattle.derivation_order.proofs.Chosen.{taken_at}

-- each literal that stands there is plain
abbrev pub ArePlain : List Lit → Type 0
ArePlain lits = (n : ℕ) (l : Lit) → slice_get lits n ≡ Some l → is_plain l.atom ≡ true

pub each_plain : (lits : List Lit) → IsPlain lits → ArePlain lits
each_plain lits h n l e = at_place (λ (k : Lit). is_plain k.atom ≡ true) lits n l h e

pub all_plain : (lits : List Lit) → ArePlain lits → IsPlain lits
all_plain [] h = tt
all_plain (l ∷ lits) h = (h 0 l refl, all_plain lits (λ n k e. h (suc n) k e))

-- ---- changes of lists

dropped_at : {X : Type 0} (m : ℕ) (xs : List X) (n : ℕ) (x : X) → slice_get (drop m xs) n ≡ Some x → Has xs x
dropped_at zero xs n x e = (n, e)
dropped_at (suc m) [] n x e = cc
dropped_at (suc m) (y ∷ xs) n x e = let rest = dropped_at m xs n x e in (suc rest.0, rest.1)

removed_at : {X : Type 0} (xs : List X) (i n : ℕ) (x : X) → slice_get (remove xs i) n ≡ Some x → Has xs x
removed_at xs i n x e =
    elim (has_split (take i xs) (drop (suc i) xs) x n e) [
      | inl front ↦ (front.0, (taken_at i xs front.0 x front.1).1)
      | inr back ↦ dropped_at (suc i) xs back.0 x back.1
    ]

plain_removed : (lits : List Lit) (i : ℕ) → ArePlain lits → ArePlain (remove lits i)
plain_removed lits i h n l e = let there = removed_at lits i n l e in h there.0 l there.1

plain_both : (ks lits : List Lit) → ArePlain ks → ArePlain lits → ArePlain (ks ++ lits)
plain_both ks lits hk hl n l e =
    elim (has_split ks lits l n e) [
      | inl first ↦ hk first.0 l first.1
      | inr later ↦ hl later.0 l later.1
    ]

pub plain_atom : (g : Term → Term) (a : AtomOf) → is_plain (at_terms g a) ≡ is_plain a
plain_atom g (Pred p ts) = refl
plain_atom g (Eq l r) = refl
plain_atom g True = refl
plain_atom g False = refl

pub plain_mapped : (g : Term → Term) (lits : List Lit) → ArePlain lits → ArePlain (map (in_lit g) lits)
plain_mapped g lits h n l e =
    let own = image_from (in_lit g) lits l n e in
    ap (λ (k : Lit). is_plain k.atom) (sym own.2) ∙ plain_atom g own.0.atom ∙ h n own.0 own.1

plain_changed : (lits : List Lit) (i : ℕ) (k : Lit) → is_plain k.atom ≡ true → ArePlain lits → ArePlain (slice_set lits i k)
plain_changed lits i k own h n l e =
    elim (changed_or lits i k n l e) [
      | inl same ↦ ap (λ (x : Lit). is_plain x.atom) same ∙ own
      | inr other ↦ plain_removed lits i h other.0 l other.1
    ]

-- ---- a term put into a literal

abbrev IsPair : List Term → Type 0
IsPair ts = (a b : Term) × (ts ≡ a ∷ b ∷ [])

set_pair : (n : ℕ) (u l r : Term) → IsPair (slice_set (l ∷ r ∷ []) n u)
set_pair zero u l r = (u, r, refl)
set_pair (suc zero) u l r = (l, u, refl)
set_pair (suc (suc n)) u l r = (l, r, refl)

put_pair : (place : List ℕ) (u l r : Term) → IsPair (put_at place u (l ∷ r ∷ []))
put_pair [] u l r = (l, r, refl)
put_pair (n ∷ []) u l r = set_pair n u l r
put_pair (zero ∷ m ∷ place) u l r = set_pair 0 _ l r
put_pair (suc zero ∷ m ∷ place) u l r = set_pair 1 _ l r
put_pair (suc (suc n) ∷ m ∷ place) u l r = (l, r, refl)

plain_put_atom : (place : List ℕ) (u : Term) (a : AtomOf) → is_plain a ≡ true → is_plain (atom_with_args a (put_at place u (args_of_atom a))) ≡ true
plain_put_atom place u (Pred p ts) e = refl
plain_put_atom place u (Eq l r) e = let pair = put_pair place u l r in ap (λ (ts : List Term). is_plain (sides_of ts)) pair.2
plain_put_atom place u True e = absurd (cc)
plain_put_atom place u False e = absurd (cc)

plain_put : (place : List ℕ) (u : Term) (k : Lit) → is_plain k.atom ≡ true → is_plain (lit_put_at place u k).atom ≡ true
plain_put place u k own = plain_put_atom place u k.atom own

-- ---- inferences

module _ (v : Vocabulary) (c e : Clause) (s : ℕ → Term) (hc : ArePlain c.lits) where
  made_plain : (scope : List ℕ) (f : Draft) → ArePlain f.left → IsMadeBy v scope f e s → ArePlain e.lits
  made_plain scope f left made = subst ArePlain (sym made.same) (plain_mapped _ f.left left)

  left_of_one : (f : Draft) → IsDraftOfOne c f → ArePlain f.left
  left_of_one f (inl p) = subst ArePlain (sym p.at.left) (plain_removed c.lits p.j hc)
  left_of_one f (inr (inl p)) = subst ArePlain (sym p.at.left) (plain_removed c.lits p.i hc)
  left_of_one f (inr (inr p)) = subst ArePlain (sym p.at.left) (plain_both (remove c.lits p.i) (unequal p.at.t p.at.w ∷ []) (plain_removed c.lits p.i hc) (each_plain (unequal p.at.t p.at.w ∷ []) (refl, tt)))

  pub plain_of_one : InfersFromOne v c e s → ArePlain e.lits
  plain_of_one i = made_plain _ i.0 (left_of_one i.0 i.1) i.2

  module _ (d : Clause) (hd : ArePlain d.lits) where
    apart : ArePlain (apart_from c d.lits)
    apart = plain_mapped _ d.lits hd

    left_of_two : (f : Draft) → IsDraftOfTwo c d f → ArePlain f.left
    left_of_two f (inl p) = subst ArePlain (sym p.at.left) (plain_both (remove c.lits p.i) (remove (apart_from c d.lits) p.j) (plain_removed c.lits p.i hc) (plain_removed (apart_from c d.lits) p.j apart))
    left_of_two f (inr p) =
        subst ArePlain (sym p.at.left)
        (plain_both (remove c.lits p.i) (slice_set (apart_from c d.lits) p.j (lit_put_at p.place p.at.r p.at.target)) (plain_removed c.lits p.i hc)
        (plain_changed (apart_from c d.lits) p.j (lit_put_at p.place p.at.r p.at.target) (plain_put p.place p.at.r p.at.target (apart p.j p.at.target p.at.there)) apart))

    pub plain_of_two : InfersFromTwo v c d e s → ArePlain e.lits
    plain_of_two i = made_plain _ i.0 (left_of_two i.0 i.1) i.2
