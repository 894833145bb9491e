-- Proofs that entries have.
use Rattle.std.specs.Prelude.{ℕ, Bool, true, false}
use Rattle.fof_terms.specs.Lift.{lifted_term}
use Rattle.fof_terms.specs.declared.term.Term.{Term, Var}
use Rattle.fof_terms.specs.declared.form.Form.{Form, Eq, Iff}
use Rattle.kernel.specs.declared.proof.Proof.{Proof, Hyp, ImpI, ImpE, IffI, IffL, IffR, ExI, Refl, Subst}

-- what a proof shows under the fact, by the fact
abbrev pub under_fact : Form → Proof → Proof → Proof
under_fact fact rest p = ImpE (ImpI fact rest) p

-- the equivalence of the first formula and the second, by that of the second and the first
abbrev pub turned_tree : Form → Form → Proof → Proof
turned_tree l r p = under_fact (Iff r l) (IffI l r (IffR (Hyp 1) (Hyp 0)) (IffL (Hyp 1) (Hyp 0))) p

-- that the first formula implies the second, by their equivalence
abbrev pub forth_tree : Form → Form → Proof → Proof
forth_tree l r p = under_fact (Iff l r) (ImpI l (IffL (Hyp 1) (Hyp 0))) p

-- the same by the equivalence of the second and the first
abbrev pub back_tree : Form → Form → Proof → Proof
back_tree l r p = under_fact (Iff r l) (ImpI l (IffR (Hyp 1) (Hyp 0))) p

-- that the nearest variable is the value, which stands one variable further out
abbrev pub is_value : Term → Form
is_value u = Eq (Var 0) (lifted_term 1 0 u)

-- what follows if there is one that is the value
abbrev pub value_tree : ℕ → Term → Proof → Proof
value_tree s u p = ImpE p (ExI s (is_value u) u (Refl u))

-- the equation of the head, which stands first or second, and its value
abbrev pub valued_tree : Bool → ℕ → Term → Term → Proof → Proof
valued_tree true s head u p = value_tree s u p
valued_tree false s head u p = Subst s (is_value head) (value_tree s u p) (Refl head)
