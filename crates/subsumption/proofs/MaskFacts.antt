-- Lemmas on masks.
use Rattle.std.specs.Prelude.{ℕ, ◌≡◌, ◌+◌, max, List, [], ◌∷◌, take, Some, slice_get, refl}
use Rattle.std.proofs.Common.{ap, sym, ◌∙◌, inl, inr, zero, suc, arith}
use Rattle.std.specs.Int.{bit_at}
use Rattle.std.specs.Int.RustNames.{bit_or}
use Rattle.std.specs.Int.Bits.{or_self, or_zero_l}
use Rattle.std.proofs.lemmas.Nat.{or_comm}
use Rattle.std.proofs.lemmas.Nat.Bits.{bit_at_or, same_from_bits}
use Rattle.fof_terms.specs.declared.term.Term.{Term}
use Rattle.fof_terms.specs.Vocabulary.{Vocabulary}
use Rattle.clause_form.specs.declared.clause.AtomOf.{AtomOf}
use Rattle.clause_form.specs.declared.clause.AtomOf.TheVariants.{Pred, Eq, True, False}
use Rattle.clause_form.specs.declared.clause.Lit.{Lit}
use Rattle.clause_form.specs.declared.clause.Clause.{Clause}
use Rattle.clause_form.specs.Images.{image}
use Rattle.clause_form.specs.Covers.{at_terms, lit_image, turned_atom, IsSame}
use Rattle.subsumption.specs.Mask.{head_number, lit_bit, mask, IsWithin}
use Rattle.subsumption.specs.Subsumes.{Subsumes}

pub mask-nil : mask [] ≡ 0
unfolding mask
mask-nil = refl

pub mask-cons : (l : Lit) (lits : List Lit) → mask (l ∷ lits) ≡ bit_or (lit_bit l) (mask lits)
unfolding mask
mask-cons l lits = refl

max_grouped : (a b c : ℕ) → max (max a b) c ≡ max a (max b c)
max_grouped a b c = omega arith

or_grouped : (a b c : ℕ) → bit_or (bit_or a b) c ≡ bit_or a (bit_or b c)
or_grouped a b c = same_from_bits (bit_or (bit_or a b) c) (bit_or a (bit_or b c)) (λ i.
    bit_at_or (bit_or a b) c i ∙ ap (λ x. max x (bit_at c i)) (bit_at_or a b i) ∙ max_grouped (bit_at a i) (bit_at b i) (bit_at c i)
    ∙ sym (bit_at_or a (bit_or b c) i ∙ ap (max (bit_at a i)) (bit_at_or b c i)))

-- the mask of one literal more
pub mask_more : (lits : List Lit) (i : ℕ) (l : Lit) → slice_get lits i ≡ Some l → mask (take (i + 1) lits) ≡ bit_or (mask (take i lits)) (lit_bit l)
mask_more [] i l e = cc
mask_more (k ∷ lits) zero l e =
    let same : k ≡ l = cc in
    mask-cons k [] ∙ ap (bit_or (lit_bit k)) mask-nil ∙ or_comm (lit_bit k) 0 ∙ ap (λ (x : Lit). bit_or 0 (lit_bit x)) same ∙ ap (λ n. bit_or n (lit_bit l)) (sym mask-nil)
mask_more (k ∷ lits) (suc i) l e =
    let n : suc i + 1 ≡ suc (i + 1) = omega arith in
    ap (λ m. mask (take m (k ∷ lits))) n ∙ mask-cons k (take (i + 1) lits) ∙ ap (bit_or (lit_bit k)) (mask_more lits i l e) ∙ sym (or_grouped (lit_bit k) (mask (take i lits)) (lit_bit l))
    ∙ ap (λ m. bit_or m (lit_bit l)) (sym (mask-cons k (take i lits)))

-- the bit of a literal is in the mask
bit_there : (lits : List Lit) (i : ℕ) (l : Lit) → slice_get lits i ≡ Some l → bit_or (lit_bit l) (mask lits) ≡ mask lits
bit_there [] i l e = cc
bit_there (k ∷ lits) zero l e =
    let same : l ≡ k = cc in
    ap (bit_or (lit_bit l)) (mask-cons k lits) ∙ ap (λ (x : Lit). bit_or (lit_bit x) (bit_or (lit_bit k) (mask lits))) same ∙ sym (or_grouped (lit_bit k) (lit_bit k) (mask lits))
    ∙ ap (λ n. bit_or n (mask lits)) (or_self (lit_bit k)) ∙ sym (mask-cons k lits)
bit_there (k ∷ lits) (suc i) l e =
    ap (bit_or (lit_bit l)) (mask-cons k lits) ∙ sym (or_grouped (lit_bit l) (lit_bit k) (mask lits)) ∙ ap (λ n. bit_or n (mask lits)) (or_comm (lit_bit l) (lit_bit k))
    ∙ or_grouped (lit_bit k) (lit_bit l) (mask lits) ∙ ap (bit_or (lit_bit k)) (bit_there lits i l e) ∙ sym (mask-cons k lits)

all_within : (lits : List Lit) (n : ℕ) → ((i : ℕ) (k : Lit) → slice_get lits i ≡ Some k → bit_or (lit_bit k) n ≡ n) → bit_or (mask lits) n ≡ n
all_within [] n h = ap (λ m. bit_or m n) mask-nil ∙ or_zero_l n
all_within (k ∷ lits) n h =
    ap (λ m. bit_or m n) (mask-cons k lits) ∙ or_grouped (lit_bit k) (mask lits) n ∙ ap (bit_or (lit_bit k)) (all_within lits n (λ i l e. h (suc i) l e)) ∙ h 0 k refl

-- the same head
head_image : (f : Term → Term) (a : AtomOf) → head_number (at_terms f a) ≡ head_number a
head_image f (Pred p ts) = refl
head_image f (Eq s t) = refl
head_image f True = refl
head_image f False = refl

head_turned : (a : AtomOf) → head_number (turned_atom a) ≡ head_number a
head_turned (Pred p ts) = refl
head_turned (Eq s t) = refl
head_turned True = refl
head_turned False = refl

bit_by : (k l : Lit) → head_number k.atom ≡ head_number l.atom → k.positive ≡ l.positive → lit_bit k ≡ lit_bit l
bit_by k l e f = rw (e, f) refl

same_bit : (s : ℕ → Term) (k l : Lit) → IsSame (lit_image s k) l → lit_bit k ≡ lit_bit l
same_bit s k l (inl e) = bit_by k l (sym (head_image (image s) k.atom) ∙ ap (λ (x : Lit). head_number x.atom) e) (ap (λ (x : Lit). x.positive) e)
same_bit s k l (inr e) = bit_by k l (sym (head_turned (at_terms (image s) k.atom) ∙ head_image (image s) k.atom) ∙ ap (λ (x : Lit). head_number x.atom) e) (ap (λ (x : Lit). x.positive) e)

-- the mask of a clause has each bit of the mask of what subsumes it
pub mask_subsumed : (v : Vocabulary) (m c : Clause) → Subsumes v m c → IsWithin (mask m.lits) (mask c.lits)
mask_subsumed v m c h = all_within m.lits (mask c.lits) (λ i k at.
    let there = h.3.stands i k at in
    ap (λ n. bit_or n (mask c.lits)) (same_bit h.1 k there.0 there.2) ∙ bit_there c.lits (h.2 i) there.0 there.1)
