-- Paths that fit a formula: each step of such a path has a formula of its kind before it, and what is left of the path
-- fits the part that the step leads to.
use Rattle.std.specs.Prelude.{◌≡◌, Some}
use Rattle.fof_terms.specs.declared.form.Form.{Form}
use Rattle.clause_form.specs.declared.path.Path.{Path}
use Rattle.clause_form.specs.declared.clause.Clause.{Clause}
use Rattle.clause_form.specs.Paths.{reached}

-- the path reaches a clause in the formula
abbrev pub Fits : Path → Form → Type 0
Fits p a = (c : Clause) × (reached p a ≡ Some c)
