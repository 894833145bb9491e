-- Given formulas as a search takes them apart: the normal form of each, and the existential quantifiers of that.
use Rattle.std.specs.Prelude.{ℕ, true, List, length, map, sum}
use Rattle.fof_terms.specs.declared.form.Form.{Form}
use Rattle.clause_form.specs.Norm.{norm_of}
use Rattle.sort_check.specs.declared.line.GivenEntry.{GivenEntry}
use Rattle.step_clauses.specs.Existentials.{existentials}
use Rattle.given_parts.specs.declared.part.Part.{Part}

abbrev pub part_of : Form → Part
part_of a = record { norm = norm_of true a; existentials = existentials (norm_of true a) }

abbrev pub parts_of : List GivenEntry → List Part
parts_of given = map (λ (g : GivenEntry). part_of g.form) given

abbrev pub ex_count_of : Part → ℕ
ex_count_of p = length p.existentials

-- how many existential quantifiers they have in all
abbrev pub ex_counts : List Part → ℕ
ex_counts parts = sum (map ex_count_of parts)
