-- A check that goes by rules alone has one verdict and one report.
use Rattle.std.proofs.Common.{◌≡◌, ℕ, ◌≤◌, Bool, List, length, map, None, refl, sym, ◌∙◌, ap}
use Rattle.fof_terms.specs.Vocabulary.{Vocabulary}
use Rattle.kernel.specs.Statements.{Statements}
use Rattle.tstp_graph.specs.Order.{is_taken, first_left}
use Rattle.verifier.specs.Marks.{cites_marked}
use Rattle.verifier.specs.Report.{said_of}
use Rattle.verifier.specs.Unsearched.{AreUnsearched}
use Rattle.derivation_check.specs.declared.claiming.Claim.{Claim}
use Rattle.verifier.proofs.OneReport.{one_said, one_marked}
use Rattle.derivation_check.proofs.OneVerdict.{same_verdict}
use Rattle.derivation_check.specs.Cases.{Asked, claimed, claim_by, lines_over, widened}
use Rattle.derivation_check.specs.Checks.{Checks, is_verified}
use Rattle.derivation_check.proofs.OneReport.{same_report}
use Rattle.derivation_text.specs.declared.derivation.Derivation.{Derivation}

module _ (asked : Asked) (t : Statements) (d : Derivation) (w : Vocabulary) (short : length asked.marks ≤ length t.formulas) (all : first_left (is_taken d.graph.order) 0 d.graph.nodes ≡ None) where
  module _ (verified other : Bool) (report log again more : List ℕ) (c : Checks asked t d w verified report log) (e : Checks asked t d w other again more) (direct : AreUnsearched c.answers) where
    said : map said_of c.answers ≡ map said_of e.answers
    said = one_said (widened t w) (lines_over t d asked.limit) d.graph.order c.answers e.answers c.runs.own e.runs.own c.end e.end refl all direct c.runs.run e.runs.run

    marked : cites_marked asked.marks c.answers ≡ cites_marked asked.marks e.answers
    marked = one_marked (widened t w) (lines_over t d asked.limit) d.graph.order c.answers e.answers c.runs.own e.runs.own c.end e.end refl all direct c.runs.run e.runs.run asked.marks short

    claims : claim_by asked c.answers ≡ claim_by asked e.answers
    claims = ap (λ (cites : Bool). claim cites) marked
      where
        claim : Bool → Claim
        claim cites = record { word = claimed asked.output; has_conjecture = asked.has_conjecture; cites_conjecture = cites }

    verdicts : c.verdict ≡ e.verdict
    verdicts = same_verdict (claim_by asked c.answers) (claim_by asked e.answers) asked.problem d.forms c.answers e.answers c.verdict e.verdict claims said c.first_that_applies e.first_that_applies

    pub one_check : (verified ≡ other) × (report ≡ again)
    one_check = (c.verified_is ∙ ap is_verified verdicts ∙ sym e.verified_is, c.report_is ∙ same_report d.names c.answers e.answers c.verdict e.verdict said verdicts ∙ sym e.report_is)
