-- Proofs between a formula and the quantifiers that are pulled out of it over the rest.
use Rattle.std.specs.Prelude.{ℕ, Bool, true, false, ◌+◌, List, [], ◌∷◌, Option}
use Rattle.fof_terms.specs.declared.form.Form.{Form, And, Or}
use Rattle.kernel.specs.declared.proof.Proof.{Proof, Hyp, AndI, AndE, OrI, OrE, ImpI, ImpE}
use Rattle.norm_proofs.specs.code.Steps.{Between}
use Rattle.flat_proofs.specs.code.Leading.{Leads}
use Rattle.flat_proofs.specs.code.Loose.{loose, closed_of}
use Rattle.flat_proofs.specs.code.Members.{room_of}

-- by the conjunction what the parts say of its members, the first of which has number k
abbrev pub and_links : ℕ → List Proof → List Proof
and_links k [] = []
and_links k (p ∷ ps) = ImpE p (AndE k (Hyp 0)) ∷ and_links (k + 1) ps

-- the disjunction by what the parts say of each member
abbrev pub or_links : List Form → ℕ → List Proof → List Proof
or_links to k [] = []
or_links to k (p ∷ ps) = OrI to k (ImpE p (Hyp 0)) ∷ or_links to (k + 1) ps

-- what the part says of the member of number k of a conjunction, or under minus the disjunction by that
abbrev pub link_arm : Bool → List Form → ℕ → Proof → Proof
link_arm true to k p = ImpE p (AndE k (Hyp 0))
link_arm false to k p = OrI to k (ImpE p (Hyp 0))

-- the same for each of the parts
abbrev pub link_arms : Bool → List Form → ℕ → List Proof → List Proof
link_arms true to k ps = and_links k ps
link_arms false to k ps = or_links to k ps

-- from a node to the node of what the parts lead to
abbrev pub linked : Bool → List Form → List Form → List Proof → Proof
linked true from to ps = ImpI (And from) (AndI (and_links 0 ps))
linked false from to ps = ImpI (Or from) (OrE (Or to) (Hyp 0) (or_links to 0 ps))

-- between the node of the first formulas and that of the second
abbrev pub link_tree : Bool → Bool → List Form → List Form → List Proof → Proof
link_tree kind true as_ cs ps = linked kind as_ cs ps
link_tree kind false as_ cs ps = linked kind cs as_ ps

-- between the formula and the quantifiers that are pulled out of it
abbrev pub IsMoved : Bool → ℕ → Form → Proof → Type 0
IsMoved forth n a p = Between forth n p a (closed_of (loose a))

-- the same for each of the formulas
abbrev pub AreMoved : Bool → ℕ → List Form → List Proof → Type 0
AreMoved forth n [] [] = Unit {0}
AreMoved forth n [] (p ∷ ps) = ⊥
AreMoved forth n (a ∷ as_) [] = ⊥
AreMoved forth n (a ∷ as_) (p ∷ ps) = IsMoved forth n a p × AreMoved forth n as_ ps

-- the proof is between the formula and these quantifiers, or they are one
abbrev pub IsLed : Bool → Form → Option Proof → Type 0
IsLed forth a part = Leads forth (room_of a) part a (closed_of (loose a))
