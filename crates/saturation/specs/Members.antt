-- The clauses of a list of members.
use Rattle.std.specs.Prelude.{List, map}
use Rattle.clause_form.specs.declared.clause.Clause.{Clause}
use Rattle.saturation.specs.declared.member.Member.{Member}

abbrev pub clauses_of : List Member → List Clause
clauses_of = map (λ m. m.clause)
