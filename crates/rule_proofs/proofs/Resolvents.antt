-- From a resolvent to what refutes the line's body.
use Rattle.std.specs.Prelude.{ℕ, ◌≡◌, ◌+◌, ◌⊎◌, Bool, true, false, not, List, [], ◌∷◌, ◌++◌, map, slice_get, Some, refl}
use Rattle.std.proofs.Common.{ap, sym, subst, ◌∙◌, zero, suc, inl, inr}
use Rattle.fof_terms.specs.declared.term.Term.{Term}
use Rattle.fof_terms.specs.Lift.{lifted_term}
use Rattle.clause_form.specs.declared.clause.AtomOf.{AtomOf}
use Rattle.clause_form.specs.declared.clause.AtomOf.TheVariants.{Pred, Eq as Equation, True, False}
use Rattle.clause_form.specs.declared.clause.Lit.{Lit}
use Rattle.clause_form.specs.Covers.{lit_image, lit_apart, turned_atom, negated, IsSame, IsSameAtom, AreComplementary, IsCovered}
use Rattle.clause_form.specs.Images.{image}
use Rattle.clause_form.proofs.ImagesFacts.{image_of_lifted}
use Rattle.clause_rules.specs.ResolutionRule.{IsResolvent}
use Rattle.clause_proofs.specs.Refuting.{AllSettled, IsSettled}
use Rattle.clause_proofs.proofs.TurnedSides.{same_back, same_sign, same_atoms_of}
use Rattle.clause_proofs.proofs.Peeling.{lits_same, lits_twice}

-- what is the same as two is complementary through both
turned_twice : (a : AtomOf) → turned_atom (turned_atom a) ≡ a
turned_twice (Pred p ts) = refl
turned_twice (Equation l r) = refl
turned_twice True = refl
turned_twice False = refl

same_then : (a b c : AtomOf) → IsSameAtom a b → IsSameAtom b c → IsSameAtom a c
same_then a b c (inl e) (inl f) = inl (e ∙ f)
same_then a b c (inl e) (inr f) = inr (ap turned_atom e ∙ f)
same_then a b c (inr e) (inl f) = inr (e ∙ f)
same_then a b c (inr e) (inr f) = inl (sym (turned_twice a) ∙ ap turned_atom e ∙ f)

same_from : (k l : Lit) → l.positive ≡ k.positive → IsSameAtom k.atom l.atom → IsSame k l
same_from k l e (inl f) = inl (ap (λ (g : Bool). record { positive = g; atom = k.atom }) (sym e) ∙ ap (λ (a : AtomOf). record { positive = l.positive; atom = a }) f)
same_from k l e (inr f) = inr (ap (λ (g : Bool). record { positive = g; atom = turned_atom k.atom }) (sym e) ∙ ap (λ (a : AtomOf). record { positive = l.positive; atom = a }) f)

not_not : (b : Bool) → not (not b) ≡ b
not_not true = refl
not_not false = refl

-- the same as the pivot, and so complementary to its opposite
opposed : (k p : Lit) → IsSame k p → AreComplementary k (negated p)
opposed k p same = same_from (negated k) (negated p) (ap not (same_sign k p same)) (same_atoms_of k p same)

-- the same as what is complementary to the pivot
opposed_too : (k q p : Lit) → IsSame k q → AreComplementary p q → AreComplementary k p
opposed_too k q p same other =
    let sign : p.positive ≡ not k.positive = sym (not_not p.positive) ∙ ap not (sym (same_sign (negated p) q other) ∙ same_sign k q same) in
    same_from (negated k) p sign (same_then k.atom q.atom p.atom (same_atoms_of k q same) (same_back p.atom q.atom (same_atoms_of (negated p) q other)))

-- a place in a list and one more
in_or_last : (lits : List Lit) (p l : Lit) (i : ℕ) → slice_get (lits ++ p ∷ []) i ≡ Some l → (slice_get lits i ≡ Some l) ⊎ (l ≡ p)
in_or_last [] p l zero e = let same : p ≡ l = cc in inr (sym same)
in_or_last [] p l (suc i) e = cc
in_or_last (k ∷ lits) p l zero e = inl e
in_or_last (k ∷ lits) p l (suc i) e = in_or_last lits p l i e

here_or_last : (lits : List Lit) (p k l : Lit) (i : ℕ) → (slice_get lits i ≡ Some l) ⊎ (l ≡ p) → IsSame k l → IsCovered lits k ⊎ IsSame k p
here_or_last lits p k l i (inl at) same = inl (inl (i, l, at, same))
here_or_last lits p k l i (inr e) same = inr (subst (IsSame k) e same)

covered_or : (lits : List Lit) (p k : Lit) → IsCovered (lits ++ p ∷ []) k → IsCovered lits k ⊎ IsSame k p
covered_or lits p k (inl h) = here_or_last lits p k h.1 h.0 (in_or_last lits p h.1 h.0 h.2) h.3
covered_or lits p k (inr a) = inl (inr a)

settle_by : (line : List Lit) (p other k : Lit) → (IsSame k p → AreComplementary k other) → IsCovered line k ⊎ IsSame k p → IsSettled line other k
settle_by line p other k f (inl c) = inl c
settle_by line p other k f (inr s) = inr (f s)

pub left_settled : (line left right : List Lit) (i j : ℕ) (r : IsResolvent line left right i j) → AllSettled line (negated r.pivot) left
left_settled line left right i j r n k at = settle_by line r.pivot (negated r.pivot) k (opposed k r.pivot) (covered_or line r.pivot k (r.left_covered n k at))

pub right_settled : (line left right : List Lit) (i j : ℕ) (r : IsResolvent line left right i j) → AllSettled line r.pivot right
right_settled line left right i j r n k at = settle_by line r.opposite r.pivot k (λ same. opposed_too k r.opposite r.pivot same r.complementary) (covered_or line r.opposite k (r.right_covered n k at))

-- the literals of a clause that is kept apart
pub apart_instances : (s : ℕ → Term) (n : ℕ) (lits : List Lit) → map (lit_image s) (map (lit_apart n) lits) ≡ map (lit_image (λ k. s (k + n))) lits
apart_instances s n lits = lits_twice (image s) (lifted_term n 0) lits ∙ lits_same (λ u. image s (lifted_term n 0 u)) (image (λ k. s (k + n))) (image_of_lifted s n) lits
