-- The formulas that clauses stand for have no list of one.
use Rattle.std.specs.Prelude.{ℕ, ◌≡◌, Bool, true, false, List, [], ◌∷◌, map}
use Rattle.std.specs.List.{AllByRecursion}
use Rattle.std.proofs.Common.{◌∙◌}
use Rattle.fof_terms.specs.declared.form.Form.{Form}
use Rattle.clause_form.specs.Norm.{signed}
use Rattle.clause_form.specs.ClauseView.{closed, closed_by, form_of_atom, form_of_lit, form_of_lits}
use Rattle.clause_form.specs.declared.clause.AtomOf.{AtomOf}
use Rattle.clause_form.specs.declared.clause.AtomOf.TheVariants.{Pred, Eq as Equation, True, False}
use Rattle.clause_form.specs.declared.clause.Clause.{Clause}
use Rattle.clause_form.specs.declared.clause.Lit.{Lit}
use Rattle.printed_forms.specs.Lists.{has_no_list_of_one}
use Rattle.printed_forms.proofs.ListsFacts.{IsListed, listed-Atom, listed-Eq, listed-Not, listed-And, listed-Or, listed-All, two_listed}

atom_listed : (a : AtomOf) → IsListed (form_of_atom a)
atom_listed (Pred p ts) = listed-Atom p ts
atom_listed (Equation l r) = listed-Eq l r
atom_listed True = listed-And []
atom_listed False = listed-Or []

signed_listed : (g : Bool) (a : Form) → IsListed a → IsListed (signed g a)
signed_listed true a is = is
signed_listed false a is = listed-Not a ∙ is

lit_listed : (l : Lit) → IsListed (form_of_lit l)
lit_listed l = signed_listed l.positive (form_of_atom l.atom) (atom_listed l.atom)

each_lit : (lits : List Lit) → AllByRecursion IsListed (map form_of_lit lits)
each_lit [] = tt
each_lit (l ∷ lits) = (lit_listed l, each_lit lits)

lits_listed : (lits : List Lit) → IsListed (form_of_lits lits)
lits_listed [] = listed-Or []
lits_listed (l ∷ []) = lit_listed l
lits_listed (l ∷ k ∷ lits) = listed-Or (map form_of_lit (l ∷ k ∷ lits)) ∙ two_listed (form_of_lit l) (form_of_lit k) (map form_of_lit lits) (each_lit (l ∷ k ∷ lits))

around_listed : (sorts : List ℕ) (a : Form) → IsListed a → IsListed (closed_by sorts a)
around_listed [] a is = is
around_listed (s ∷ sorts) a is = listed-All s (closed_by sorts a) ∙ around_listed sorts a is

pub closed_listed : (c : Clause) → has_no_list_of_one (closed c) ≡ true
closed_listed c = around_listed c.sorts (form_of_lits c.lits) (lits_listed c.lits)
