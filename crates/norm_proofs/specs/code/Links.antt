-- Conjunctions and disjunctions, and their negations, member by member.
use Rattle.std.specs.Prelude.{ℕ, Bool, true, false, not, ◌+◌, ◌≡◌, map, List, [], ◌∷◌, Some, slice_get}
use Rattle.fof_terms.specs.declared.form.Form.{Form, Not, And, Or}
use Rattle.clause_form.specs.Norm.{signed, norm_of}
use Rattle.kernel.specs.declared.proof.Proof.{Proof, Hyp, AndI, AndE, OrI, OrE, ImpI, NotI, NotE, Raa}
use Rattle.norm_proofs.specs.code.Applying.{applied}
use Rattle.norm_proofs.specs.code.Steps.{Between}

-- the normal form of a conjunction is one too, and that of its negation is a disjunction
abbrev pub kind_of : Bool → Bool → Bool
kind_of true g = g
kind_of false g = not g

-- the proof for a member, number k, of the formulas with those normal forms: of a conjunction or a disjunction, or
-- under minus of its negation, to its normal form or back
abbrev pub arm_tree : Bool → Bool → Bool → List Form → List Form → ℕ → Form → Proof → Proof
arm_tree true true forth xs ys k a q = applied q (AndE k (Hyp 0))
arm_tree false true true xs ys k a q = OrI ys k (applied q (Hyp 0))
arm_tree false true false xs ys k a q = OrI xs k (applied q (Hyp 0))
arm_tree true false true xs ys k a q = Raa a (NotE (Hyp 1) (OrI ys k (applied q (Hyp 0))))
arm_tree true false false xs ys k a q = NotE (applied q (Hyp 0)) (AndE k (Hyp 1))
arm_tree false false true xs ys k a q = applied q (NotI a (NotE (Hyp 1) (OrI xs k (Hyp 0))))
arm_tree false false false xs ys k a q = NotE (applied q (AndE k (Hyp 2))) (Hyp 0)

-- the proof for all members, by those for each
abbrev pub link_tree : Bool → Bool → Bool → List Form → List Form → List Proof → Proof
link_tree true true true xs ys ps = ImpI (And xs) (AndI ps)
link_tree true true false xs ys ps = ImpI (And ys) (AndI ps)
link_tree false true true xs ys ps = ImpI (Or xs) (OrE (Or ys) (Hyp 0) ps)
link_tree false true false xs ys ps = ImpI (Or ys) (OrE (Or xs) (Hyp 0) ps)
link_tree true false true xs ys ps = ImpI (Not (And xs)) (Raa (Or ys) (NotE (Hyp 1) (AndI ps)))
link_tree true false false xs ys ps = ImpI (Or ys) (NotI (And xs) (OrE (Or []) (Hyp 1) ps))
link_tree false false true xs ys ps = ImpI (Not (Or xs)) (AndI ps)
link_tree false false false xs ys ps = ImpI (And ys) (NotI (Or xs) (OrE (Or []) (Hyp 0) ps))

-- the proofs belong to the formulas, the first of which has number k
abbrev pub PartsFrom : (ℕ → Form → Proof → Type 0) → ℕ → List Form → List Proof → Type 0
PartsFrom P k [] [] = Unit {0}
PartsFrom P k [] (p ∷ ps) = ⊥
PartsFrom P k (a ∷ as_) [] = ⊥
PartsFrom P k (a ∷ as_) (p ∷ ps) = P k a p × PartsFrom P (k + 1) as_ ps

-- a member's proof, made of one between the member and its normal form
abbrev pub Arm : Bool → Bool → Bool → ℕ → List Form → ℕ → Form → Proof → Type 0
Arm conj g forth n xs k a p = (slice_get xs k ≡ Some a) × ((q : Proof) × (p ≡ arm_tree conj g forth xs (map (norm_of g) xs) k a q) × Between forth n q (signed g a) (norm_of g a))

abbrev pub Arms : Bool → Bool → Bool → ℕ → List Form → List Form → List Proof → Type 0
Arms conj g forth n xs = PartsFrom (Arm conj g forth n xs) 0
