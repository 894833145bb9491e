-- From a node to the node in which the members of its own kind are joined, and back.
use Rattle.std.specs.Prelude.{ℕ, zero, suc, Bool, true, false, ◌≡◌, ◌+◌, List, [], ◌∷◌, Some, slice_get}
use Rattle.std.specs.List.{AllByRecursion}
use Rattle.fof_terms.specs.declared.form.Form.{Form, And, Or}
use Rattle.fof_terms.specs.Sorts.{Sorted}
use Rattle.kernel.specs.Statements.{Statements}
use Rattle.kernel.specs.code.Rules.{ProveAll}
use Rattle.kernel.specs.Rules.{ProveEach}
use Rattle.kernel.specs.declared.proof.Proof.{Proof, Hyp, AndI, AndE, OrI, OrE}

-- so many trees, the first of which has that number
abbrev pub numbered : (ℕ → Proof) → ℕ → ℕ → List Proof
numbered f k zero = []
numbered f k (suc n) = f k ∷ numbered f (k + 1) n

-- each member of a member of the node by the node, or the node by each
abbrev pub spread_tree : Bool → List Form → ℕ → List Form → ℕ → Proof
spread_tree true whole k inner j = AndE j (AndE k (Hyp 0))
spread_tree false whole k inner j = OrI whole k (OrI inner j (Hyp 0))

-- the member itself by the node, or the node by it
abbrev pub lone_tree : Bool → List Form → ℕ → Proof
lone_tree true whole k = AndE k (Hyp 0)
lone_tree false whole k = OrI whole k (Hyp 0)

-- by the joined node the node of those of its members that begin at that number, or the joined node by it
abbrev pub gather_tree : Bool → List Form → ℕ → ℕ → Proof
gather_tree true flat k n = AndI (numbered (lone_tree true flat) k n)
gather_tree false flat k n = OrE (Or flat) (Hyp 0) (numbered (lone_tree false flat) k n)

-- the members stand in the list from that number on
abbrev pub Stands : List Form → ℕ → List Form → Type 0
Stands flat k ms = (j : ℕ) (a : Form) → slice_get ms j ≡ Some a → slice_get flat (k + j) ≡ Some a

-- the proofs show the members by the node, or the node by each of them
abbrev pub SpreadTo : Bool → List Form → List Form → List Proof → Type 0
SpreadTo true whole ms ps = (t : Statements) (v : List ℕ) (h : List Form) → Sorted t.vocabulary v (And whole) → ProveAll t v (And whole ∷ h) ps ms
SpreadTo false whole ms ps = (t : Statements) (v : List ℕ) (h : List Form) → Sorted t.vocabulary v (Or whole) → ProveEach t v h ps ms (Or whole)

-- the proofs show the members by the joined node, or that by each of them
abbrev pub GatherTo : Bool → List Form → List Form → List Proof → Type 0
GatherTo true flat ms ps = (t : Statements) (v : List ℕ) (h : List Form) → Sorted t.vocabulary v (And flat) → ProveAll t v (And flat ∷ h) ps ms
GatherTo false flat ms ps = (t : Statements) (v : List ℕ) (h : List Form) → Sorted t.vocabulary v (Or flat) → AllByRecursion (Sorted t.vocabulary v) ms → ProveEach t v h ps ms (Or flat)
