-- Formulas in which nothing stands that a normal form lets go: neither truth nor falsehood, and no quantifier whose
-- variable occurs nowhere. Negations stand at atoms and equations alone, and there are no implications.
use Rattle.std.specs.Prelude.{ℕ, ◌≡◌, Bool, true, List, [], ◌∷◌}
use Rattle.fof_terms.specs.Variables.{has_variable}
use Rattle.fof_terms.specs.declared.term.Term.{Term}
use Rattle.fof_terms.specs.declared.form.Form.{Form, Atom, Eq, Not}
use Rattle.clause_form.specs.Norm.{node, quantifier}

mutual
  pub data IsSolid : Form → Type 0 where
    an_atom : (p : ℕ) (ts : List Term) → IsSolid (Atom p ts)
    an_equation : (l r : Term) → IsSolid (Eq l r)
    a_denied_atom : (p : ℕ) (ts : List Term) → IsSolid (Not (Atom p ts))
    a_denied_equation : (l r : Term) → IsSolid (Not (Eq l r))
    a_node : (g : Bool) (a : Form) (as_ : List Form) → AreSolid (a ∷ as_) → IsSolid (node g (a ∷ as_))
    a_quantifier : (g : Bool) (s : ℕ) (a : Form) → has_variable 0 a ≡ true → IsSolid a → IsSolid (quantifier g s a)

  pub data AreSolid : List Form → Type 0 where
    no_member : AreSolid []
    a_member : (a : Form) (as_ : List Form) → IsSolid a → AreSolid as_ → AreSolid (a ∷ as_)
