-- A check of the text of a proof verifies all.
use Rattle.std.specs.Prelude.{ℕ, ◌≡◌, Bool, true, false, List, Some, refl}
use Rattle.std.proofs.Common.{ap, sym, subst, ◌∙◌}
use Rattle.fof_terms.specs.Vocabulary.{Vocabulary}
use Rattle.kernel.specs.Statements.{Statements}
use Rattle.sort_check.specs.declared.line.GivenEntry.{GivenEntry}
use Rattle.derivation_check.specs.Claim.{default_word}
use Rattle.derivation_check.specs.Cases.{Asked, claimed}
use Rattle.derivation_check.specs.Checks.{Checks, Stops}
use Rattle.derivation_check.specs.GoodCases.{IsGoodCase}
use Rattle.derivation_check.proofs.Ends.{good_not_stopped, good_verified}
use Rattle.derivation_text.specs.Derivations.{IsDerivation}
use Rattle.derivation_text.specs.declared.derivation.Derivation.{Derivation as Checked}
use Rattle.derivation_text.proofs.OneDerivation.{one_derivation}
use Rattle.refutation_lines.specs.declared.derivation.Derivation.{Derivation}
use Rattle.problem_proofs.specs.Found.{vocabulary_of}
use Rattle.derivation_order.specs.Graphs.{names_of}
use Rattle.derivation_follows.specs.Stepping.{StepsApply}
use Rattle.derivation_follows.specs.Sure.{IsSure}
use Rattle.derivation_follows.proofs.Applying.{all_apply, inferred_apply}
use Rattle.derivation_follows.proofs.Fitting.{members_fit}
use Rattle.derivation_follows.proofs.Proofs.{printed_case}
use Rattle.skolemized_lines.proofs.Opening.{others_apply}
use Rattle.writable_lines.proofs.Naming.{names_are}
use Rattle.proofs_are_verified.specs.Printed.{Asks, IsPrintedProof}
use Rattle.proofs_are_verified.proofs.Claims.{claims_word}
use Rattle.proofs_are_verified.proofs.Read.{is_read}

module _ (v : Vocabulary) (given : List GivenEntry) (limit : ℕ) (file : List ℕ) (conjecture : Bool) (d : Derivation) (text : List ℕ) (p : IsPrintedProof v given limit file conjecture d text) where
  steps : StepsApply (vocabulary_of v d) given d.lines
  steps = all_apply (vocabulary_of v d) given d.lines (inferred_apply v given limit d p.found p.posed.few p.small (vocabulary_of v d) (members_fit v given limit d p.found p.posed.ready) p.premises)
      (others_apply v given limit d p.posed.ready p.found p.posed.few p.small)

  module _ (asked : Asked) (t : Statements) (asks : Asks given conjecture text asked t) where
    claims : claimed asked.output ≡ Some (default_word asked.has_conjecture)
    claims = ap claimed (asks.output ∙ p.is) ∙ claims_word file conjecture p.items ∙ ap (λ (b : Bool). Some (default_word b)) (sym asks.claim)

    -- the derivation that the text is
    module _ (checked : Checked) (w : Vocabulary) (is : IsDerivation text (names_of given) v checked w) where
      sure : IsSure (IsGoodCase asked t checked w)
      sure =
          let own = is_read v given limit file conjecture d text p in
          let same = one_derivation text (names_of given) v own.checked checked (vocabulary_of v d) w own.is is in
          let case : IsSure (IsGoodCase asked t own.checked (vocabulary_of v d)) =
          printed_case v given limit d p.posed.few p.small (names_are given p.posed.names) p.found file p.items p.within steps asked t own.checked asks.formulas own.as_items claims in
          subst (λ (c : Checked). IsSure (IsGoodCase asked t c w)) same.0 (subst (λ (x : Vocabulary). IsSure (IsGoodCase asked t own.checked x)) same.1 case)

      pub all_verified : (verified : Bool) (report log : List ℕ) → Checks asked t checked w verified report log → verified ≡ true
      all_verified verified report log checks = by verified refl
        where
          by : (b : Bool) → verified ≡ b → verified ≡ true
          by true e = e
          by false e =
              absurd (sure (λ good.
              let yes = good_verified asked t checked w verified report log asks.marks is.2.graph.is_graph.order.in_turn is.2.graph.is_graph.all good checks in
              let wrong : true ≡ false = sym yes ∙ e in
              cc))

      pub not_stopped : (place : ℕ) (log : List ℕ) → Stops asked t checked w place log → ⊥
      not_stopped place log stops = sure (λ good. good_not_stopped asked t checked w place log is.2.graph.is_graph.order.in_turn good stops)
