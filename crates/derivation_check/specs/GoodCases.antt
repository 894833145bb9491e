-- When a derivation is good, by its text alone, and its claim justified.
use Rattle.std.specs.Prelude.{List}
use Rattle.fof_terms.specs.Vocabulary.{Vocabulary}
use Rattle.kernel.specs.Statements.{Statements}
use Rattle.tstp_graph.specs.declared.shape.Ref.{Ref}
use Rattle.derivation_text.specs.declared.derivation.Derivation.{Derivation}
use Rattle.verifier.specs.Marks.{some_marked_ref}
use Rattle.derivation_check.specs.Claim.{IsJustified}
use Rattle.verifier.specs.Good.{HaveRoom, IsGood}
use Rattle.derivation_check.specs.declared.claiming.Claim.{Claim}
use Rattle.derivation_check.specs.Cases.{Asked, claimed, lines_over}

-- what is claimed, where the lines cite these given formulas and lines
abbrev pub claim_citing : Asked → List Ref → Claim
claim_citing asked cites = record { word = claimed asked.output; has_conjecture = asked.has_conjecture; cites_conjecture = some_marked_ref asked.marks cites }

-- In the order of the graph each line follows by a rule, some line is falsehood, the claim is justified by what the
-- lines cite then, and beside the symbols of the texts there is room for each line.
pub record IsGoodCase (asked : Asked) (t : Statements) (d : Derivation) (w : Vocabulary) : Type 0 where
  pub cites : List Ref
  pub good : IsGood w (lines_over t d asked.limit) d.graph.order cites
  pub justified : IsJustified (claim_citing asked cites)
  pub room : HaveRoom w (lines_over t d asked.limit)
