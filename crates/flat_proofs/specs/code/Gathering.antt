-- Proofs between a node of closed bodies and the quantifiers of all over the node of the bodies.
use Rattle.std.specs.Prelude.{ℕ, zero, suc, Bool, true, false, ◌+◌, List, [], ◌∷◌, ◌++◌, length, map}
use Rattle.fof_terms.specs.declared.form.Form.{Form, And, Or}
use Rattle.std.specs.List.{AllByRecursion}
use Rattle.fof_terms.specs.Vocabulary.{Vocabulary}
use Rattle.fof_terms.specs.Sorts.{SortedTo}
use Rattle.fof_terms.specs.Lift.{lifted}
use Rattle.clause_form.specs.ClauseView.{closed_by}
use Rattle.kernel.specs.declared.proof.Proof.{Proof, Hyp, AndI, AndE, OrI, OrE, ImpI, NotE, Raa, Inhabit}
use Rattle.norm_proofs.specs.Numbering.{general, near}
use Rattle.flat_form.specs.Flat.{Pulled, sorts_of, bodies_of}
use Rattle.flat_proofs.specs.code.Loose.{closed_of}

-- what the part shows over variables of these sorts, of which the formula doesn't speak
abbrev pub inhabited : List ℕ → Form → Proof → Proof
inhabited [] g p = p
inhabited (s ∷ sorts) g p = Inhabit s g (inhabited sorts (lifted 1 0 g) p)

-- from the conjunction of the closed bodies each body at its own variables, that of the first having number k
abbrev pub and_arms : ℕ → List Pulled → List Proof
and_arms k [] = []
and_arms k (p ∷ ps) = near (length (sorts_of ps)) (length p.sorts) (AndE k (Hyp 0)) ∷ and_arms (k + 1) ps

-- to the disjunction of the bodies from each closed body
abbrev pub or_arms : List Form → ℕ → List Pulled → List Proof
or_arms bs k [] = []
or_arms bs k (p ∷ ps) = OrI bs k (near (length (sorts_of ps)) (length p.sorts) (Hyp 0)) ∷ or_arms bs (k + 1) ps

-- from all over the conjunction of the bodies the closed body of that number, the variables of those before and behind having
-- these sorts: f before, and n in all
abbrev pub back_arm : List ℕ → ℕ → ℕ → Pulled → Form → List ℕ → ℕ → Proof
back_arm before f k p c later n =
    inhabited before c (general p.sorts (inhabited later (lifted f (length p.sorts) p.body) (AndE k (near 0 n (Hyp 0)))))

-- the same for each, the variables of those before having these sorts
abbrev pub back_arms : List ℕ → ℕ → List Pulled → List Proof
back_arms before k [] = []
back_arms before k (p ∷ ps) =
    back_arm before (length before) k p (closed_of p) (sorts_of ps) (length (before ++ (p.sorts ++ sorts_of ps)))
    ∷ back_arms (before ++ p.sorts) (k + 1) ps

-- falsehood under each of n formulas, whose negations are the hypotheses, the last being that of the last formula
abbrev pub clashes : ℕ → List Proof
clashes zero = []
clashes (suc n) = NotE (Hyp (suc n)) (Hyp 0) ∷ clashes n

-- falsehood where i bodies over f variables are denied, and so is the disjunction of the closed bodies, by falsehood where the
-- next body is denied too
abbrev pub denied_arm : List Form → ℕ → ℕ → Pulled → Proof → Proof
denied_arm cs i f p q =
    NotE (Hyp i) (OrI (map (lifted f 0) cs) i (general p.sorts (Raa (lifted f (length p.sorts) p.body) q)))

-- the same from all over the disjunction of the bodies
abbrev pub refuted : List Form → ℕ → ℕ → List Pulled → Proof
refuted cs i f [] = OrE (Or []) (near 0 f (Hyp (i + 1))) (clashes i)
refuted cs i f (p ∷ ps) = denied_arm cs i f p (refuted cs (i + 1) (f + length p.sorts) ps)

-- from the node of closed bodies to all over the node of the bodies, or back
abbrev pub gather_tree : Bool → Bool → List Pulled → Proof
gather_tree true true ps = ImpI (And (map closed_of ps)) (general (sorts_of ps) (AndI (and_arms 0 ps)))
gather_tree false true ps = ImpI (Or (map closed_of ps)) (general (sorts_of ps) (OrE (Or (bodies_of 0 ps)) (Hyp 0) (or_arms (bodies_of 0 ps) 0 ps)))
gather_tree true false ps = ImpI (closed_by (sorts_of ps) (And (bodies_of 0 ps))) (AndI (back_arms [] 0 ps))
gather_tree false false ps = ImpI (closed_by (sorts_of ps) (Or (bodies_of 0 ps))) (Raa (Or (map closed_of ps)) (refuted (map closed_of ps) 0 0 ps))

-- the closed bodies are well-sorted, with at most d binders inside each other
abbrev pub AreClosed : Vocabulary → ℕ → List ℕ → List Pulled → Type 0
AreClosed w d v = AllByRecursion (λ p. SortedTo d w v (closed_of p))
