-- What private contracts say, beside the definitions of specs/Found.
use Rattle.std.specs.Prelude.{◌≡◌, Option, IfSome}
use Rattle.fof_terms.specs.declared.form.Form.{Form}
use Rattle.clause_form.specs.declared.path.Path.{Path}
use Rattle.clause_form.specs.declared.clause.Clause.{Clause}
use Rattle.clause_form.specs.Paths.{reached}
use Rattle.clause_form.specs.Reached.{Suits}

pub record IsFound (p : Path) (a : Form) (found : Option Clause) : Type 0 where
  pub is : found ≡ reached p a
  pub suits : IfSome found (Suits a)
