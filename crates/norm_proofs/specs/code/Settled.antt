-- From a node none of whose members is of its own kind to the joined node, and back.
use Rattle.std.specs.Prelude.{ℕ, Bool, true, false, List, [], ◌∷◌}
use Rattle.fof_terms.specs.declared.form.Form.{Form, And, Or}
use Rattle.kernel.specs.declared.proof.Proof.{Proof, Hyp, AndI, AndE, OrI, OrE, ImpI}

-- a conjunction with falsehood at that number, or a disjunction with truth at it
abbrev pub ended_tree : Bool → Bool → List Form → ℕ → Proof
ended_tree true true flat k = ImpI (And flat) (AndE k (Hyp 0))
ended_tree true false flat k = ImpI (Or []) (OrE (And flat) (Hyp 0) [])
ended_tree false true flat k = ImpI (Or flat) (AndI [])
ended_tree false false flat k = ImpI (And []) (OrI flat k (Hyp 0))

-- one member alone
abbrev pub alone_tree : Bool → Bool → Form → Proof
alone_tree true true a = ImpI (And (a ∷ [])) (AndE 0 (Hyp 0))
alone_tree true false a = ImpI a (AndI (Hyp 0 ∷ []))
alone_tree false true a = ImpI (Or (a ∷ [])) (OrE a (Hyp 0) (Hyp 0 ∷ []))
alone_tree false false a = ImpI a (OrI (a ∷ []) 0 (Hyp 0))
