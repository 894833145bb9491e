-- The formulas from which a line of a derivation is to follow (the TSTP part of the TPTP language, <source>): of a leaf
-- the formulas of the problem that it names, of a step those of the lines before it that it names.
use Rattle.std.specs.Prelude.{List, codes, map, if◌then◌else◌, Bool}
use Rattle.std.specs.List.{filter, flat_map}
use Rattle.std.specs.Str.{bytes_eq}
use Rattle.tptp_base.specs.declared.name.Name.{Name}
use Rattle.tptp_base.specs.declared.name.Name.TheVariants.{Word}
use Rattle.fof_terms.specs.declared.form.Form.{Form}
use Rattle.sort_check.specs.declared.line.GivenEntry.{GivenEntry}
use Rattle.tstp_graph.specs.Tables.{same_name}
use Rattle.derivation_items.specs.Words.{Text}
use Rattle.derivation_items.specs.declared.line.LineSource.{LineSource}
use Rattle.derivation_items.specs.declared.line.LineSource.TheVariants.{Given, Skolemized, ClauseOf, Inferred}
use Rattle.derivation_items.specs.declared.line.ProofLine.{ProofLine}

abbrev pub forms_given : List GivenEntry → List Form
forms_given given = map (λ (g : GivenEntry). g.form) given

-- the given formulas of that name
abbrev pub given_named : List GivenEntry → Name → List Form
given_named given name = forms_given (filter (λ (g : GivenEntry). same_name g.name name) given)

-- the name is the word that says nothing of where a formula is from
abbrev pub is_unknown : Name → Bool
is_unknown name = same_name name (Word (codes "unknown"))

-- the given formulas that a leaf of that name names: all of them, where it is `unknown`
abbrev pub candidates : List GivenEntry → Name → List Form
candidates given name = if is_unknown name then forms_given given else given_named given name

-- the formulas of the lines of that name
abbrev pub lines_named : List ProofLine → Text → List Form
lines_named lines word = map (λ (l : ProofLine). l.form) (filter (λ (l : ProofLine). bytes_eq l.name word) lines)

-- of a line with that source, behind those lines
abbrev pub source_forms : List GivenEntry → List ProofLine → LineSource → List Form
source_forms given earlier (Given name) = candidates given name
source_forms given earlier (Skolemized word) = lines_named earlier word
source_forms given earlier (ClauseOf word) = lines_named earlier word
source_forms given earlier (Inferred words) = flat_map (lines_named earlier) words
