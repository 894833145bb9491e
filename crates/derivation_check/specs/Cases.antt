-- What a derivation is checked against: the given formulas of its problem, and what is asked of a claim (SZS ontology).
use Rattle.std.specs.Prelude.{ℕ, Bool, List, Option, Some, None, slice_range}
use Rattle.fof_terms.specs.Vocabulary.{Vocabulary}
use Rattle.kernel.specs.Statements.{Statements}
use Rattle.szs_report.specs.Region.{claim_of}
use Rattle.tptp_base.specs.declared.place.Region.{Region}
use Rattle.derivation_text.specs.declared.derivation.Derivation.{Derivation}
use Rattle.verifier.specs.declared.answer.LineAnswer.{LineAnswer}
use Rattle.derivation_check.specs.declared.claiming.Claim.{Claim}
use Rattle.derivation_check.specs.declared.checking.Asked.{Asked as Held}
use Rattle.verifier.specs.Marks as verifier
use Rattle.verifier.specs.Lines as lines

-- The problem as it was named, the prover's whole output, for each given formula whether it is a conjecture or a
-- negated conjecture, whether the problem has a conjecture, and how many clauses a search keeps at most.
pub record Asked : Type 0 where
  pub problem : List ℕ
  pub output : List ℕ
  pub marks : List Bool
  pub has_conjecture : Bool
  pub limit : ℕ

-- the same as the code holds it
abbrev pub asked_of : Held → Asked
asked_of held = record { problem = held.problem.now; output = held.output.now; marks = held.marks.now; has_conjecture = held.has_conjecture; limit = held.limit }

-- the word that stands there
abbrev pub word_at : List ℕ → Option Region → Option (List ℕ)
word_at text None = None
word_at text (Some region) = Some (slice_range text region.start region.end)

-- the word of the first status line
abbrev pub claimed : List ℕ → Option (List ℕ)
claimed output = word_at output (claim_of output)

-- what is claimed, where the lines have these answers
abbrev pub claim_by : Asked → List LineAnswer → Claim
claim_by asked answers = record { word = claimed asked.output; has_conjecture = asked.has_conjecture; cites_conjecture = verifier.cites_marked asked.marks answers }

-- the lines of a derivation over given formulas, with the limit of a search
abbrev pub lines_over : Statements → Derivation → ℕ → lines.Derivation
lines_over t d limit = record { given = t.formulas; nodes = d.graph.nodes; forms = d.forms; limit = limit }

-- the theory with all symbols of the derivation
abbrev pub widened : Statements → Vocabulary → Statements
widened t w = record { vocabulary = w; formulas = t.formulas }
