-- The closed formula of a clause: universal quantifiers over the disjunction of its literals, or over its one literal,
-- as in the cnf formulas of the TPTP language.
use Rattle.std.specs.Prelude.{Bool, true, not, List, [], ◌∷◌}
use Rattle.fof_terms.specs.declared.form.Form.{Form}
use Rattle.clause_form.specs.declared.clause.Clause.{Clause}
use Rattle.clause_form.specs.declared.clause.Lit.{Lit}
use Rattle.clause_form.specs.ClauseView.{closed_by}
use Rattle.clause_form.specs.Paths.{is_plain}
use Rattle.clause_proofs.specs.Bodies.{body_of}

-- the literals stand in a disjunction, but for one alone that is neither truth nor falsehood
abbrev pub has_or : List Lit → Bool
has_or [] = true
has_or (l ∷ []) = not (is_plain l.atom)
has_or (l ∷ k ∷ lits) = true

abbrev pub formula_of : Clause → Form
formula_of c = closed_by c.sorts (body_of (has_or c.lits) c.lits)
