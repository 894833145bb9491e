-- Instances of nested quantifiers at variables.
use Rattle.std.specs.Prelude.{ℕ, zero, suc, Bool, true, false, List, [], ◌∷◌, length, map}
use Rattle.fof_terms.specs.declared.form.Form.{Form}
use Rattle.clause_form.specs.ClauseView.{closed_by}
use Rattle.flat_form.specs.Flat.{pulled, order_of, new_number, sort_of}
use Rattle.flat_form.specs.Renumbered.{renumbered}
use Rattle.flat_proofs.specs.code.Loose.{loose}
use Rattle.fof_terms.specs.declared.term.Term.{Var}
use Rattle.kernel.specs.declared.proof.Proof.{Proof, Hyp, ImpI, AllE}
use Rattle.norm_proofs.specs.Numbering.{general}

-- the instance at the variables of these numbers, the first for the outermost quantifier
abbrev pub at_numbers : List ℕ → Proof → Proof
at_numbers [] p = p
at_numbers (k ∷ ks) p = at_numbers ks (AllE (Var k) p)

-- quantifiers of these sorts over the body, in that order
abbrev pub turned_by : List ℕ → List ℕ → Form → Form
turned_by order sorts u = closed_by (map (sort_of sorts) order) (renumbered (new_number order (length sorts)) 0 u)

-- the quantifiers that are pulled out, in the order of their variables, over the body whose nodes aren't joined
abbrev pub loose_flat : Form → Form
loose_flat a = turned_by (order_of (length (pulled a).sorts) (pulled a).body) (pulled a).sorts (loose a).body

-- the numbers below n, from the greatest
abbrev pub down : ℕ → List ℕ
down zero = []
down (suc n) = n ∷ down n

-- from the quantifiers in their own order over the body to those in the order of their variables, or back
abbrev pub turned_tree : Bool → List ℕ → List ℕ → Form → Proof
turned_tree true sorts order u = ImpI (closed_by sorts u) (general (map (sort_of sorts) order) (at_numbers (map (new_number order (length sorts)) (down (length sorts))) (Hyp 0)))
turned_tree false sorts order u =
    ImpI (turned_by order sorts u) (general sorts (at_numbers order (Hyp 0)))
