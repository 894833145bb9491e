-- The lines of a derivation: the given formulas that are used, what they become with functions in place of existential
-- variables, the clauses that are needed, and falsehood.
use Rattle.std.specs.Prelude.{ℕ, codes, if◌then◌else◌, List, [], ◌∷◌, ◌++◌, get_or, map}
use Rattle.fof_terms.specs.declared.form.Form.{Form, Or}
use Rattle.clause_form.specs.declared.clause.Clause.{Clause}
use Rattle.clause_form.specs.Clauses.{skolemized}
use Rattle.clause_form.specs.ClauseView.{closed}
use Rattle.sort_check.specs.declared.line.GivenEntry.{GivenEntry}
use Rattle.saturation.specs.declared.member.Member.{Member}
use Rattle.saturation.specs.declared.member.Origin.{Origin}
use Rattle.saturation.specs.declared.member.Origin.TheVariants.{Input, Inferred}
use Rattle.derivation_items.specs.declared.line.ProofLine.{ProofLine}
use Rattle.derivation_items.specs.declared.line.LineSource.{LineSource}
use Rattle.derivation_items.specs.declared.line.LineSource.TheVariants as sources
use Rattle.printed_clauses.specs.Renumbered.{new_number, renumbered_clause}
use Rattle.printed_clauses.specs.Trimmed.{trimmed}
use Rattle.given_parts.specs.declared.part.Part.{Part}
use Rattle.given_parts.specs.Chosen.{chosen}
use Rattle.refutation_lines.specs.declared.plan.Plan.{Plan}
use Rattle.refutation_lines.specs.Names.{given_name, skolem_name, clause_name, has_some, opened_name}
use Rattle.refutation_lines.specs.Places.{in_order}
use Rattle.refutation_lines.specs.Plans.{Refutation}

-- a clause without the sorts of variables that do not occur, over the functions of the derivation
abbrev pub printed_form : Plan → Clause → Form
printed_form p c = closed (trimmed (renumbered_clause (new_number p.first p.numbers.all) c))

-- an input is a clause of its part
abbrev pub source_of_input : Plan → ℕ → LineSource
source_of_input p i = sources.ClauseOf (opened_name p.parts (get_or p.owners i 0))

-- what is inferred comes from the lines of two members
abbrev pub source_of_parents : Plan → ℕ → ℕ → LineSource
source_of_parents p a b = sources.Inferred (map clause_name (in_order (get_or p.places a 0) (get_or p.places b 0)))

abbrev pub source_of : Plan → Origin → LineSource
source_of p (Input i) = source_of_input p i
source_of p (Inferred a b images) = source_of_parents p a b

abbrev pub clause_line : Plan → ℕ → Clause → LineSource → ProofLine
clause_line p place c from = record { name = clause_name place; form = printed_form p c; source = from }

abbrev pub given_lines : ℕ → GivenEntry → List ProofLine
given_lines k g = record { name = given_name k; form = g.form; source = sources.Given g.name } ∷ []

-- its functions have numbers from that one on
abbrev pub skolem_line : List ℕ → ℕ → Part → ProofLine
skolem_line firsts k part = record { name = skolem_name k; form = skolemized part.norm (get_or firsts k 0); source = sources.Skolemized (given_name k) }

abbrev pub skolem_lines : List ℕ → ℕ → Part → List ProofLine
skolem_lines firsts k part = if has_some part.existentials then skolem_line firsts k part ∷ [] else []

abbrev pub input_lines : Plan → ℕ → Clause → List ProofLine
input_lines p i c = clause_line p (get_or p.ranks i 0) c (source_of_input p i) ∷ []

abbrev pub lines_of_member : Plan → ℕ → Clause → Origin → List ProofLine
lines_of_member p j c (Input i) = []
lines_of_member p j c (Inferred a b images) = clause_line p (get_or p.places j 0) c (source_of_parents p a b) ∷ []

abbrev pub inferred_lines : Plan → ℕ → Member → List ProofLine
inferred_lines p j m = lines_of_member p j m.clause m.origin

abbrev pub last_line : Plan → Origin → ProofLine
last_line p origin = record { name = codes "e"; form = Or []; source = source_of p origin }

abbrev pub lines_of : Refutation → Plan → List ProofLine
lines_of r p =
    chosen given_lines p.used r.given ++ chosen (skolem_lines p.numbers.firsts) p.used p.parts ++ chosen (input_lines p) p.printed r.inputs ++ chosen (inferred_lines p) p.needed r.members
    ++ last_line p r.last.origin ∷ []
