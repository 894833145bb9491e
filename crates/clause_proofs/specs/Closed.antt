-- Proofs of a closed formula from a proof over its variables and further ones.
use Rattle.std.specs.Prelude.{ℕ, List, [], ◌∷◌}
use Rattle.fof_terms.specs.declared.form.Form.{Form, Or}
use Rattle.kernel.specs.declared.proof.Proof.{Proof, Hyp, Raa, NotE, AllI, Inhabit}

-- for all of the sorts, the first outermost
abbrev pub all_tree : List ℕ → Proof → Proof
all_tree [] p = p
all_tree (s ∷ sorts) p = AllI s (all_tree sorts p)

-- falsehood without the further variables, the sort of the nearest of which is first
abbrev pub inhabit_tree : List ℕ → Proof → Proof
inhabit_tree [] p = p
inhabit_tree (s ∷ more) p = inhabit_tree more (Inhabit s (Or []) p)

-- the line by falsehood under its negation, which comes over further variables, where the line has a proof
abbrev pub whole_tree : Form → List ℕ → List ℕ → Proof → Proof
whole_tree line sorts more p = Raa line (inhabit_tree more (NotE (Hyp 0) (all_tree sorts p)))
