-- The conjunction of closed bodies, by all quantifiers over the conjunction of the bodies, half by half.
use Rattle.std.specs.Prelude.{ℕ, Bool, ◌+◌, ◌≤◌, List, [], ◌++◌, length, map}
use Rattle.fof_terms.specs.declared.form.Form.{Form, And, Or}
use Rattle.fof_terms.specs.Sorts.{IsScope}
use Rattle.clause_form.specs.ClauseView.{closed_by}
use Rattle.clause_form.specs.Norm.{node}
use Rattle.kernel.specs.Statements.{Statements}
use Rattle.kernel.specs.Proves.{Proves}
use Rattle.kernel.specs.declared.proof.Proof.{Proof, Hyp, AndI, AndE, ImpI, ImpE, NotE, Raa}
use Rattle.norm_proofs.specs.Numbering.{general, near}
use Rattle.norm_proofs.specs.code.Joining.{numbered}
use Rattle.norm_proofs.specs.code.Steps.{aimed}
use Rattle.flat_form.specs.Flat.{Pulled, sorts_of, bodies_of}
use Rattle.flat_proofs.specs.code.Gathering.{AreClosed, inhabited}
use Rattle.flat_proofs.specs.code.Loose.{closed_of}
use Rattle.flat_proofs.specs.declared.halving.Group.{Group}

-- n members, from number k on, of the conjunction that is the hypothesis of number i
abbrev pub picks : ℕ → ℕ → ℕ → List Proof
picks i k n = numbered (λ j. AndE j (Hyp i)) k n

-- m of the bodies, from number k on, at their n variables, where hypothesis 1 is all over the conjunction of the bodies
abbrev pub segment : List Form → ℕ → ℕ → ℕ → Proof
segment bs n k m = ImpE (ImpI (And bs) (AndI (picks 0 k m))) (near 0 n (Hyp 1))

-- what the part shows over variables of these sorts, of which the formula doesn't speak, by falsehood where that is denied
abbrev pub freed : List ℕ → Form → Proof → Proof
freed sorts g p = Raa g (inhabited sorts (Or []) (NotE (Hyp 0) p))

-- from all over the conjunction of the bodies bs to all over that of its first part bl, the sorts being those of both parts
abbrev pub front_tree : List ℕ → List ℕ → List Form → List Form → Proof
front_tree ls rs bl bs = general ls (freed rs (And bl) (segment bs (length ls + length rs) 0 (length bl)))

-- the same of the rest, which is as long as br
abbrev pub rear_tree : List ℕ → List ℕ → List Form → List Form → List Form → Proof
rear_tree ls rs bl br bs = freed ls (closed_by rs (And br)) (general rs (segment bs (length ls + length rs) (length bl) (length br)))

-- by two conjunctions the conjunction of the members of both
abbrev pub both_tree : List Form → List Form → Proof
both_tree cl cr = ImpI (And cl) (ImpI (And cr) (AndI (picks 1 0 (length cl) ++ picks 0 0 (length cr))))

-- from all over the bodies of a group to the conjunction of its closed bodies, by parts that do so of its halves
abbrev pub joined_tree : Group → Group → Group → Proof → Proof → Proof
joined_tree g l r p q =
    ImpI (closed_by g.sorts (And g.bodies)) (ImpE (ImpE (both_tree l.closed r.closed) (ImpE p (front_tree l.sorts r.sorts l.bodies g.bodies))) (ImpE q (rear_tree l.sorts r.sorts l.bodies r.bodies g.bodies)))

-- in every theory and every context with room, in which the closed bodies are well-sorted, the proof leads from their node to
-- all over the node of the bodies, or back
abbrev pub Gathers : Bool → Bool → List Pulled → Proof → Type 0
Gathers kind forth ps made = (t : Statements) (v : List ℕ) (d : ℕ) (h : List Form) → IsScope t.vocabulary v → d + length (sorts_of ps) + length v ≤ 2147483647
    → AreClosed t.vocabulary d v ps → Proves t v h made (aimed forth (node kind (map closed_of ps)) (closed_by (sorts_of ps) (node kind (bodies_of 0 ps))))
