-- Every way through a normal form without existential quantifiers, in lexicographic order of the choices.
use Rattle.std.specs.Prelude.{◌≡◌, List, map, Some}
use Rattle.fof_terms.specs.declared.form.Form.{Form}
use Rattle.clause_form.specs.declared.path.Path.{Path}
use Rattle.clause_form.specs.Clauses.{clauses_in}
use Rattle.clause_form.specs.Paths.{reached}

-- each path reaches the formula's clause at its place
abbrev pub AreAllPaths : Form → List Path → Type 0
AreAllPaths a paths = map (λ (p : Path). reached p a) paths ≡ map Some (clauses_in a)
