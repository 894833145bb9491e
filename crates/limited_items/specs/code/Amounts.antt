-- Amounts of formulas, in total for each name.
use Rattle.std.specs.Prelude.{ℕ, ◌≡◌, nat_lt, Bool, false, if◌then◌else◌, List, [], ◌∷◌, map, sum}
use Rattle.tptp_base.specs.declared.name.Name.{Name}
use Rattle.fof_terms.specs.declared.form.Form.{Form}
use Rattle.sort_check.specs.declared.line.GivenEntry.{GivenEntry}
use Rattle.step_clauses.specs.Room.{wanted}
use Rattle.step_clauses.specs.Wide.{is_large}
use Rattle.derivation_items.specs.declared.line.LineSource.{LineSource}
use Rattle.derivation_items.specs.declared.line.LineSource.TheVariants.{Given, Skolemized, ClauseOf, Inferred}
use Rattle.derivation_limits.specs.Names.{total_of_name}
use Rattle.derivation_limits.specs.Totals.{capped, total_of}
use Rattle.derivation_limits.specs.declared.totals.Totals.{Totals}
use Rattle.limited_items.specs.declared.wanted.Wanted.{Wanted}
use Rattle.limited_items.specs.Sources.{forms_given, given_named, is_unknown}

abbrev pub total : (Form → ℕ) → List Form → ℕ
total amount forms = sum (map amount forms)

-- the symbols that the given formulas of each name may bring in, and those that all of them may
pub record AreWanted (given : List GivenEntry) (by_given : Wanted) : Type 0 where
  pub each : (name : Name) → total_of_name by_given.names name ≡ capped (total wanted (given_named given name))
  pub all : by_given.all ≡ capped (total wanted (forms_given given))

-- what the formulas from which a line is to follow may bring in, by the tables
abbrev pub wanted_by : Wanted → Totals → LineSource → ℕ
wanted_by by_given by_lines (Given name) = if is_unknown name then by_given.all else total_of_name by_given.names name
wanted_by by_given by_lines (Skolemized word) = total_of by_lines word
wanted_by by_given by_lines (ClauseOf word) = total_of by_lines word
wanted_by by_given by_lines (Inferred words) = capped (sum (map (total_of by_lines) words))

-- one of each formula that has no normal form
abbrev pub large_count : Form → ℕ
large_count a = if is_large a then 1 else 0

-- the source is one line alone, which is among those that are counted
abbrev pub is_from_counted : Totals → LineSource → Bool
is_from_counted counts (Given name) = false
is_from_counted counts (Skolemized word) = false
is_from_counted counts (ClauseOf word) = false
is_from_counted counts (Inferred []) = false
is_from_counted counts (Inferred (word ∷ [])) = nat_lt 0 (total_of counts word)
is_from_counted counts (Inferred (word ∷ other ∷ words)) = false
