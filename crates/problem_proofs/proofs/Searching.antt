-- A search of the clauses of what a problem gives: what it is given, and how it ends.
use Rattle.std.specs.Prelude.{ℕ, ◌≡◌, ◌≤◌, ◌++◌, false, List, length, refl}
use Rattle.std.specs.List.{All as Each}
use Rattle.std.proofs.Common.{sym, subst}
use Rattle.fof_terms.specs.Vocabulary.{Vocabulary}
use Rattle.clause_form.specs.Paths.{forms_of}
use Rattle.clause_form.specs.declared.clause.Clause.{Clause}
use Rattle.clause_order.specs.Weights.{clause_weight}
use Rattle.clause_rules.specs.Steps.{IsReady}
use Rattle.sort_check.specs.declared.line.GivenEntry.{GivenEntry}
use Rattle.step_clauses.specs.Inputs.{search_symbols}
use Rattle.step_clauses.specs.declared.skolems.Skolem.{Skolem}
use Rattle.superpose.specs.Drafts.{IsClause}
use Rattle.saturation.specs.Ends.{EndsWith, HasOrigins, IsRefuted}
use Rattle.saturation.specs.Members.{clauses_of}
use Rattle.saturation.specs.Origins.{AreMade, IsMade}
use Rattle.saturation.specs.declared.member.Member.{Member}
use Rattle.saturation.specs.declared.outcome.Outcome.{Outcome}
use Rattle.saturation.specs.declared.outcome.Outcome.TheVariants.{Refuted, Dry, Full, Heavy}
use Rattle.step_search.proofs.Growing.{symbols_in, with_symbols}
use Rattle.step_search.proofs.WhatIsSaid.{dry_said, full_said, heavy_said, inputs_fit, inputs_light, is_grown, refuted_made}
use Rattle.derivation_items.specs.Words.{Text}
use Rattle.problem_proofs.specs.Posed.{clauses_of_given, falsehood, is_too_wide, parents_of, with_functions}
use Rattle.problem_proofs.specs.Proved.{IsProved}
use Rattle.problem_proofs.specs.declared.proved.Proved.TheVariants.{Open}
use Rattle.problem_proofs.specs.declared.proved.Why.TheVariants as why
use Rattle.problem_proofs.proofs.Finding.{only}
use Rattle.problem_proofs.proofs.PosedFacts.{falsehood_ready, parents_ready}

module _ (v : Vocabulary) (given : List GivenEntry) (narrow : is_too_wide v given ≡ false) (skolems : List Skolem) (ek : skolems ≡ search_symbols (length v.symbols) (forms_of (parents_of given)) falsehood) (g : Vocabulary) (made : g ≡ with_symbols v (v.symbols ++ symbols_in skolems))
    (clauses : List Clause) (ec : clauses ≡ clauses_of_given v given) where
  grown : g ≡ with_functions v given
  grown = is_grown v (parents_of given) falsehood v refl skolems ek g made

  pub fit : Each (λ (e : GivenEntry). IsReady v e.form) given → Each (IsClause g) clauses
  fit ready = inputs_fit (only v) (parents_of given) falsehood narrow g grown clauses ec (parents_ready v given ready) (falsehood_ready v)

  pub light : Each (λ (e : GivenEntry). IsReady v e.form) given → Each (λ (c : Clause). clause_weight c ≤ 100000000) clauses
  light ready = inputs_light (only v) (parents_of given) falsehood narrow g grown clauses ec (parents_ready v given ready) (falsehood_ready v)

  module _ (limit : ℕ) (o : Outcome) (ends : EndsWith g clauses limit o) (list : List Member) where
    pub is_dry : (file : Text) → o ≡ Dry list → IsProved v given file limit (Open why.Dry)
    is_dry file e = dry_said (only v) (parents_of given) falsehood narrow g grown clauses ec limit o list ends e

    pub is_full : (file : Text) → o ≡ Full list → IsProved v given file limit (Open why.Full)
    is_full file e = full_said (only v) (parents_of given) falsehood narrow g grown clauses ec limit o list ends e

    pub is_heavy : (file : Text) → o ≡ Heavy list → IsProved v given file limit (Open why.Heavy)
    is_heavy file e = heavy_said (only v) (parents_of given) falsehood narrow g grown clauses ec limit o list ends e

    module _ (slice : List Member) (last : Member) (is : o ≡ Refuted list last) (same : slice ≡ list) where
      pub is_made : HasOrigins g clauses o → AreMade (with_functions v given) (clauses_of_given v given) slice × IsMade (with_functions v given) (clauses_of_given v given) (clauses_of slice) last
      is_made origins =
          subst (λ (w : Vocabulary). AreMade w (clauses_of_given v given) slice × IsMade w (clauses_of_given v given) (clauses_of slice) last) grown (refuted_made g o list slice last is same clauses (clauses_of_given v given) ec origins)

      pub is_refuted : IsRefuted (with_functions v given) (clauses_of_given v given) limit (clauses_of slice) last.clause
      is_refuted =
          let refuted : IsRefuted g clauses limit (clauses_of list) last.clause = subst (EndsWith g clauses limit) is ends in
          subst (λ (w : Vocabulary). IsRefuted w (clauses_of_given v given) limit (clauses_of slice) last.clause) grown
          (subst (λ (cs : List Clause). IsRefuted g cs limit (clauses_of slice) last.clause) ec (subst (λ (ms : List Member). IsRefuted g clauses limit (clauses_of ms) last.clause) (sym same) refuted))
