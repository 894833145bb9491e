-- Implications and equivalences as disjunctions and conjunctions of their sides.
use Rattle.std.specs.Prelude.{ℕ, Bool, true, false, List, [], ◌∷◌}
use Rattle.fof_terms.specs.declared.form.Form.{Form, Not, And, Or, Imp, Iff}
use Rattle.kernel.specs.declared.proof.Proof.{Proof, Hyp, AndI, AndE, OrI, OrE, ImpI, ImpE, NotE, Raa, IffI, IffL, IffR}

-- the left side is false or the right side is true
abbrev pub sides : Form → Form → List Form
sides a b = Not a ∷ b ∷ []

-- the left side is true or the right side is false
abbrev pub sides_back : Form → Form → List Form
sides_back a b = a ∷ Not b ∷ []

abbrev pub both_sides : Form → Form → List Form
both_sides a b = Or (sides a b) ∷ Or (sides_back a b) ∷ []

-- from falsehood of what is at hand to any formula
abbrev pub contrary : Form → Proof
contrary a = Raa a (NotE (Hyp 1) (Hyp 2))

-- the disjunction of one side and of the negation of what gives the other
abbrev pub side_at : List Form → ℕ → Proof → Proof
side_at ms k p = Raa (Or ms) (NotE (Hyp 0) (OrI ms k p))

abbrev pub imp_tree : Bool → Form → Form → Proof
imp_tree true a b = ImpI (Imp a b) (side_at (sides a b) 1 (ImpE (Hyp 1) (Raa a (NotE (Hyp 1) (OrI (sides a b) 0 (Hyp 0))))))
imp_tree false a b = ImpI (Or (sides a b)) (ImpI a (OrE b (Hyp 1) (contrary b ∷ Hyp 0 ∷ [])))

abbrev pub iff_tree : Bool → Form → Form → Proof
iff_tree true a b =
    ImpI (Iff a b)
    (AndI (side_at (sides a b) 1 (IffL (Hyp 1) (Raa a (NotE (Hyp 1) (OrI (sides a b) 0 (Hyp 0))))) ∷ side_at (sides_back a b) 0 (IffR (Hyp 1) (Raa b (NotE (Hyp 1) (OrI (sides_back a b) 1 (Hyp 0))))) ∷ []))
iff_tree false a b =
    ImpI (And (both_sides a b)) (IffI a b (OrE b (AndE 0 (Hyp 1)) (contrary b ∷ Hyp 0 ∷ [])) (OrE a (AndE 1 (Hyp 1)) (Hyp 0 ∷ contrary a ∷ [])))
