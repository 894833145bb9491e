-- What a problem gives to its derivation (SZS ontology, refutation): its axioms and its negated conjectures as they
-- are, and its conjecture negated.
use Rattle.std.specs.Prelude.{List, [], ◌∷◌, Option, Some, None}
use Rattle.tptp_base.specs.declared.item.Role.{Role}
use Rattle.fof_terms.specs.declared.form.Form.{Form, Not}
use Rattle.sort_check.specs.declared.line.Line.{Line}
use Rattle.sort_check.specs.declared.line.GivenEntry.{GivenEntry}
use Rattle.tptp_base.specs.declared.item.Role.TheVariants as role

-- the formula that one of this role gives
abbrev pub given_form : Role → Form → Option Form
given_form role.Axiom a = Some a
given_form role.Hypothesis a = Some a
given_form role.Definition a = Some a
given_form role.Assumption a = Some a
given_form role.Lemma a = Some a
given_form role.Theorem a = Some a
given_form role.Corollary a = Some a
given_form role.NegatedConjecture a = Some a
given_form role.Conjecture a = Some (Not a)
given_form role.Plain a = None
given_form role.Typing a = None
given_form role.FiDomain a = None
given_form role.FiFunctors a = None
given_form role.FiPredicates a = None
given_form role.Unknown a = None

abbrev pub with_entry : Line → Option Form → List GivenEntry → List GivenEntry
with_entry l (Some a) entries = record { name = l.name; role = l.role; form = a } ∷ entries
with_entry l None entries = entries

-- the given formulas, in order
abbrev pub given_entries : List Line → List GivenEntry
given_entries [] = []
given_entries (l ∷ ls) = with_entry l (given_form l.role l.form) (given_entries ls)
