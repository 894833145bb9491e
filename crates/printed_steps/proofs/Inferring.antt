-- Inferences between clauses, as steps between the clauses as they are printed.
use Rattle.std.specs.Prelude.{ℕ, ◌⊎◌, List, []}
use Rattle.std.proofs.Common.{inl, inr}
use Rattle.fof_terms.specs.declared.term.Term.{Term}
use Rattle.fof_terms.specs.Vocabulary.{Vocabulary}
use Rattle.clause_form.specs.declared.path.Parent.{Parent}
use Rattle.clause_form.specs.declared.clause.Clause.{Clause}
use Rattle.clause_form.specs.Covers.{scope_of, Covers}
use Rattle.clause_rules.specs.Steps.{scope_of_both}
use Rattle.clause_rules.specs.EqFactorRule.{IsEqFactorStep}
use Rattle.clause_rules.specs.ParamodulationRule.{IsParamodulationStep}
use Rattle.clause_rules.specs.ResolutionRule.{IsResolutionStep}
use Rattle.superpose.specs.Drafts.{Draft, IsMadeBy}
use Rattle.superpose.specs.Inferences.{InfersFromOne, InfersFromTwo, IsDraftOfOne, IsDraftOfTwo}
use Rattle.inference_proofs.specs.Inferred.{CoversParent}
use Rattle.inference_proofs.proofs.AsSteps.{equation_covers, equations_factor, factoring_covers, other_way, resolution_is_step, superposition_is_step}
use Rattle.printed_clauses.specs.Renumbered.{renumbered_clause}
use Rattle.printed_steps.specs.Carried.{HasItsVariables}
use Rattle.printed_steps.specs.Follows.{IsByEqFactor, IsByParamodulation, IsByResolution}
use Rattle.printed_steps.specs.Printed.{IsPrintable, IsPrintedAt, printed, printed_clause}
use Rattle.printed_steps.proofs.Lines.{clause_at, line_clause}
use Rattle.printed_steps.proofs.Owning.{renumbered_own, sorted_own}
use Rattle.printed_steps.proofs.Renumbering.{cover_renumbered, eqfactor_renumbered, paramodulation_renumbered, resolution_renumbered}
use Rattle.printed_steps.proofs.Trimming.{cover_trimmed, eqfactor_trimmed, paramodulation_trimmed, resolution_trimmed}

module _ (v w : Vocabulary) (number : ℕ → ℕ) where
  own : (c : Clause) → IsPrintable v w number c → HasItsVariables (renumbered_clause number c)
  own c h = renumbered_own number c (sorted_own v c h.sorted)

  -- the rules between printed clauses
  module _ (c d e : Clause) (hc : IsPrintable v w number c) (hd : IsPrintable v w number d) (he : IsPrintable v w number e) where
    resolution_printed : IsByResolution v c d e → IsByResolution w (printed_clause number c) (printed_clause number d) (printed_clause number e)
    resolution_printed by =
        resolution_trimmed w (renumbered_clause number c) (renumbered_clause number d) (renumbered_clause number e) (own c hc) (own d hd) (own e he) (resolution_renumbered v w number c d e hc.carried hd.carried he.carried by)

    paramodulation_printed : IsByParamodulation v c d e → IsByParamodulation w (printed_clause number c) (printed_clause number d) (printed_clause number e)
    paramodulation_printed by =
        paramodulation_trimmed w (renumbered_clause number c) (renumbered_clause number d) (renumbered_clause number e) (own c hc) (own d hd) (own e he) (paramodulation_renumbered v w number c d e hc.carried hd.carried he.carried by)

  module _ (c e : Clause) (hc : IsPrintable v w number c) (he : IsPrintable v w number e) where
    eqfactor_printed : IsByEqFactor v c e → IsByEqFactor w (printed_clause number c) (printed_clause number e)
    eqfactor_printed by = eqfactor_trimmed w (renumbered_clause number c) (renumbered_clause number e) (own c hc) (own e he) (eqfactor_renumbered v w number c e hc.carried he.carried by)

    cover_printed : Covers v c e → Covers w (printed_clause number c) (printed_clause number e)
    cover_printed by = cover_trimmed w (renumbered_clause number c) (renumbered_clause number e) (own c hc) (own e he) (cover_renumbered v w number c e hc.carried he.carried by)

  -- the rules between parents and a line
  module _ (parents : List Parent) (a b : ℕ) (c d e : Clause) (hc : IsPrintable v w number c) (hd : IsPrintable v w number d) (he : IsPrintable v w number e) (at_a : IsPrintedAt number parents a c) (at_b : IsPrintedAt number parents b d) where
    by_resolution : IsByResolution v c d e → IsResolutionStep w parents (printed number e)
    by_resolution old =
        let by = resolution_printed c d e hc hd he old in (
          a,
          b,
          by.0,
          by.1,
          printed_clause number c,
          printed_clause number d,
          printed_clause number e,
          by.2,
          by.3,
          record { line_clause = line_clause number e he.proper; left_clause = clause_at number parents a c hc.proper at_a; right_clause = clause_at number parents b d hd.proper at_b; resolves = by.4 },
        )

    by_paramodulation : IsByParamodulation v d c e → IsParamodulationStep w parents (printed number e)
    by_paramodulation old =
        let by = paramodulation_printed d c e hd hc he old in (
          b,
          a,
          by.0,
          by.1,
          by.2,
          by.3,
          printed_clause number d,
          printed_clause number c,
          printed_clause number e,
          by.4,
          by.5,
          record { line_clause = line_clause number e he.proper; into_clause = clause_at number parents b d hd.proper at_b; from_clause = clause_at number parents a c hc.proper at_a; paramodulates = by.6 },
        )

    two_drafted : (f : Draft) (s : ℕ → Term) → IsDraftOfTwo c d f → IsMadeBy v (scope_of_both c d) f e s → IsResolutionStep w parents (printed number e) ⊎ IsParamodulationStep w parents (printed number e)
    two_drafted f s (inl r) made = inl (by_resolution (r.i, r.j, [], s, resolution_is_step v c d e f s made r.i r.j r.at))
    two_drafted f s (inr p) made =
        inr (by_paramodulation (p.j, p.place, p.i, p.flipped, [], other_way v c d e s [], superposition_is_step v c d e f s made p.i p.flipped p.j p.place p.at hc.sorted hd.sorted))

    pub from_two_printed : (s : ℕ → Term) → InfersFromTwo v c d e s → IsResolutionStep w parents (printed number e) ⊎ IsParamodulationStep w parents (printed number e)
    from_two_printed s h = two_drafted h.0 s h.1 h.2

  module _ (parents : List Parent) (a : ℕ) (c e : Clause) (hc : IsPrintable v w number c) (he : IsPrintable v w number e) (at : IsPrintedAt number parents a c) where
    by_eqfactor : IsByEqFactor v c e → IsEqFactorStep w parents (printed number e)
    by_eqfactor old =
        let by = eqfactor_printed c e hc he old in (
          a,
          by.0,
          by.1,
          by.2,
          by.3,
          printed_clause number c,
          printed_clause number e,
          by.4,
          by.5,
          record { line_clause = line_clause number e he.proper; parent_clause = clause_at number parents a c hc.proper at; factors = by.6 },
        )

    by_cover : Covers v c e → CoversParent w parents (printed number e)
    by_cover old = record {
      a = a;
      clause = printed_clause number c;
      line_lits = printed_clause number e;
      parent_clause = clause_at number parents a c hc.proper at;
      line_clause = line_clause number e he.proper;
      covers = cover_printed c e hc he old;
    }

    one_drafted : (f : Draft) (s : ℕ → Term) → IsDraftOfOne c f → IsMadeBy v (scope_of c) f e s → IsEqFactorStep w parents (printed number e) ⊎ CoversParent w parents (printed number e)
    one_drafted f s (inl p) made = inr (by_cover ([], s, factoring_covers v c e f s made p.i p.j p.at))
    one_drafted f s (inr (inl p)) made = inr (by_cover ([], s, equation_covers v c e f s made p.i p.at))
    one_drafted f s (inr (inr p)) made = inl (by_eqfactor (p.i, p.first_flipped, p.j, p.second_flipped, [], s, equations_factor v c e f s made p.i p.first_flipped p.j p.second_flipped p.at))

    pub from_one_printed : (s : ℕ → Term) → InfersFromOne v c e s → IsEqFactorStep w parents (printed number e) ⊎ CoversParent w parents (printed number e)
    from_one_printed s h = one_drafted h.0 s h.1 h.2
