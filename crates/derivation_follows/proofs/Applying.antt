-- Rules give the lines that are inferred.
use Rattle.std.specs.Prelude.{ℕ, zero, suc, ◌≡◌, ◌<◌, ◌≤◌, ◌^◌, ◌||◌, Bool, true, false, List, [], ◌∷◌, ◌++◌, length, map, take, Some, slice_get, refl}
use Rattle.std.specs.List.{flat_map, list_any}
use Rattle.std.proofs.Common.{ap, sym, subst, ◌∙◌, inl, inr}
use Rattle.std.proofs.lemmas.Bool.{cases_order, or_parts, ltb-false}
use Rattle.fof_terms.specs.Vocabulary.{Vocabulary}
use Rattle.fof_terms.specs.declared.form.Form.{Form}
use Rattle.fof_terms.specs.declared.term.Term.{Term}
use Rattle.clause_form.specs.declared.clause.Clause.{Clause}
use Rattle.clause_form.specs.declared.path.Parent.{Parent}
use Rattle.clause_form.specs.ClauseView.{clause_of}
use Rattle.clause_form.specs.Covers.{Covers}
use Rattle.clause_form.specs.Sizes.{norm_size_of}
use Rattle.clause_rules.specs.CoverRule.{IsCoverStep}
use Rattle.clause_rules.specs.Steps.{clauses_of as parent_clauses}
use Rattle.elaborate.specs.ByRule.{rules}
use Rattle.sort_check.specs.declared.line.GivenEntry.{GivenEntry}
use Rattle.step_clauses.specs.Wide.{is_large}
use Rattle.superpose.specs.Inferences.{InfersFromOne, InfersFromTwo}
use Rattle.inference_proofs.specs.Inferred.{CoversParent}
use Rattle.printed_clauses.specs.Renumbered.{renumbered, renumbered_clause}
use Rattle.printed_steps.specs.Printed.{IsPrintable, printed, printed_clause}
use Rattle.printed_steps.proofs.Inferring.{from_one_printed, from_two_printed}
use Rattle.printed_steps.proofs.Lines.{line_clause}
use Rattle.printed_steps.proofs.Norming.{covers_by_rule}
use Rattle.printed_steps.proofs.Owning.{renumbered_own, sorted_own}
use Rattle.verifier.specs.Good.{so_far, without_numbers}
use Rattle.verifier.specs.Lines.{numbered}
use Rattle.derivation_items.specs.Words.{Text}
use Rattle.derivation_items.specs.declared.line.LineSource.{LineSource}
use Rattle.derivation_items.specs.declared.line.LineSource.TheVariants.{Inferred}
use Rattle.derivation_items.specs.declared.line.ProofLine.{ProofLine}
use Rattle.limited_items.specs.Premises.{HaveSmallPremises, is_from_large}
use Rattle.limited_items.specs.Sources.{forms_given, lines_named, source_forms}
use Rattle.refutation_lines.specs.Names.{clause_name}
use Rattle.refutation_lines.specs.Places.{in_order}
use Rattle.refutation_lines.specs.declared.derivation.Derivation.{Derivation}
use Rattle.refutation_lines.proofs.PlaceFacts.{one_place, first_place_first, second_place_first}
use Rattle.problem_proofs.specs.Found.{IsFound, refutation_by}
use Rattle.problem_proofs.specs.Posed.{with_functions}
use Rattle.derivation_order.specs.Cited.{forms_in}
use Rattle.derivation_order.specs.Links.{EachBehind}
use Rattle.derivation_order.proofs.Behind.{each_at}
use Rattle.derivation_order.proofs.Cited.{named_form, unnumbered}
use Rattle.derivation_order.proofs.Found.{found_linked, lines_are}
use Rattle.derivation_follows.specs.Applied.{OneApplies}
use Rattle.derivation_follows.specs.Members.{AreFit, IsFit, number_in}
use Rattle.derivation_follows.specs.Stepping.{StepsApply, StepsOfKindApply, is_inferred}
use Rattle.derivation_follows.proofs.Plainly.{all_plain, each_plain, plain_mapped}
use Rattle.derivation_follows.proofs.Inferences.{IsFormAt, IsInference, IsInferredSo, inferred_so, place}

-- ---- rules

module _ (v w : Vocabulary) (number : ℕ → ℕ) (gs es : List Form) where
  rule_of_two : (fs : List Form) (i j : ℕ) (c d e : Clause) (s : ℕ → Term) → IsFit v w number c → IsFit v w number d → IsPrintable v w number e → slice_get fs i ≡ Some (printed number c) → slice_get fs j ≡ Some (printed number d)
      → InfersFromTwo v c d e s → OneApplies rules (so_far w gs es) (without_numbers fs) (printed number e)
  rule_of_two fs i j c d e s hc hd he at_i at_j infers =
      elim (from_two_printed v w number (without_numbers fs) i j c d e hc.printable hd.printable he (ap (λ (xs : List Form). slice_get xs i) (unnumbered fs) ∙ at_i) (ap (λ (xs : List Form). slice_get xs j) (unnumbered fs) ∙ at_j) s infers) [
        | inl resolution ↦ inr (inr (inr (inl resolution)))
        | inr paramodulation ↦ inr (inr (inr (inr (inl paramodulation))))
      ]

  one_clause : (p : Parent) (a : ℕ) (c : Clause) → slice_get (parent_clauses (p ∷ [])) a ≡ Some (Some c) → clause_of p.form ≡ Some c
  one_clause p zero c e = cc
  one_clause p (suc a) c e = cc

  covers_one : (c e : Clause) → IsFit v w number c → norm_size_of (printed number c) ≤ 100000 → CoversParent w (without_numbers (printed number c ∷ [])) (printed number e) → IsCoverStep w (without_numbers (printed number c ∷ [])) (printed number e)
  covers_one c e hc small h =
      let view = line_clause number c hc.printable.proper in
      let own : clause_of (printed number c) ≡ Some h.clause = one_clause (numbered 0 (printed number c)) h.a h.clause h.parent_clause in
      let both : Some h.clause ≡ Some (printed_clause number c) = sym own ∙ view in
      let same : h.clause ≡ printed_clause number c = cc in
      covers_by_rule w (without_numbers (printed number c ∷ [])) (printed number e) 0 (numbered 0 (printed number c)) (renumbered_clause number c) h.line_lits refl refl small (all_plain (renumbered_clause number c).lits (plain_mapped (renumbered number) c.lits (each_plain c.lits hc.plain)))
      (renumbered_own number c (sorted_own v c hc.printable.sorted)) h.line_clause (subst (λ (x : Clause). Covers w x h.line_lits) same h.covers)

  rule_of_one : (c e : Clause) (s : ℕ → Term) → IsFit v w number c → IsPrintable v w number e → norm_size_of (printed number c) ≤ 100000 → InfersFromOne v c e s → OneApplies rules (so_far w gs es) (without_numbers (printed number c ∷ [])) (printed number e)
  rule_of_one c e s hc he small infers =
      elim (from_one_printed v w number (without_numbers (printed number c ∷ [])) 0 c e hc.printable he refl s infers) [
        | inl eqfactor ↦ inr (inr (inr (inr (inr (inl eqfactor)))))
        | inr covers ↦ inr (inl (covers_one c e hc small covers))
      ]

-- ---- the lines

module _ (v : Vocabulary) (given : List GivenEntry) (limit : ℕ) (d : Derivation) (f : IsFound v given limit d) (few : length given < 2 ^ 64) (less : limit < 2 ^ 32) (w : Vocabulary)
    (fit : AreFit (with_functions v given) w (refutation_by v given f.members f.last) f.derivation.needed) (small : HaveSmallPremises d.lines) where
  abbrev number : ℕ → ℕ
  number = number_in (refutation_by v given f.members f.last) f.derivation.needed

  abbrev place_of : ℕ → ℕ
  place_of j = place v given limit d f few less w fit j

  abbrev IsInferenceOf : ℕ → Form → LineSource → Type 0
  IsInferenceOf k form source = IsInference v given limit d f few less w fit (take k d.lines) form source

  named_so : (k : ℕ) (word : Text) (form : Form) → IsFormAt (take k d.lines) word form → lines_named (take k d.lines) word ≡ form ∷ []
  named_so k word form h = named_form given d.lines (found_linked v given limit d f few less) k word h.1.0 h.0 h.1.1 h.2 ∙ ap (λ (a : Form). a ∷ []) h.3

  -- what the source of an inference names
  abbrev forms_at : ℕ → List ℕ → List Form
  forms_at k ns = flat_map (lines_named (take k d.lines)) (map clause_name ns)

  module _ (k : ℕ) (form : Form) (source : LineSource) (i : IsInferenceOf k form source) where
    first_named : lines_named (take k d.lines) (clause_name (place_of i.a)) ≡ printed number i.first ∷ []
    first_named = named_so k (clause_name (place_of i.a)) (printed number i.first) i.first_at

    second_named : lines_named (take k d.lines) (clause_name (place_of i.b)) ≡ printed number i.second ∷ []
    second_named = named_so k (clause_name (place_of i.b)) (printed number i.second) i.second_at

    -- both premises stand among them
    record HaveBoth (fs : List Form) : Type 0 where
      one : ℕ
      other : ℕ
      one_at : slice_get fs one ≡ Some (printed number i.first)
      other_at : slice_get fs other ≡ Some (printed number i.second)

    alone : place_of i.a ≡ place_of i.b → forms_at k (in_order (place_of i.a) (place_of i.b)) ≡ printed number i.first ∷ []
    alone same = ap (forms_at k) (one_place (place_of i.a) (place_of i.b) same) ∙ ap (λ (fs : List Form). fs ++ []) first_named

    both_alike : place_of i.a ≡ place_of i.b → printed number i.second ≡ printed number i.first
    both_alike same =
        let lists : printed number i.second ∷ [] ≡ printed number i.first ∷ [] = sym second_named ∙ ap (λ (n : ℕ). lines_named (take k d.lines) (clause_name n)) (sym same) ∙ first_named in
        cc

    have_both : HaveBoth (forms_at k (in_order (place_of i.a) (place_of i.b)))
    have_both =
        elim (cases_order (place_of i.a) (place_of i.b)) [
          | inl same ↦ record {
            one = 0;
            other = 0;
            one_at = ap (λ (fs : List Form). slice_get fs 0) (alone same);
            other_at = ap (λ (fs : List Form). slice_get fs 0) (alone same) ∙ ap Some (sym (both_alike same));
          }
          | inr apart ↦ elim apart [
            | inl lower ↦
                let are : forms_at k (in_order (place_of i.a) (place_of i.b)) ≡ printed number i.first ∷ printed number i.second ∷ [] =
                ap (forms_at k) (first_place_first (place_of i.a) (place_of i.b) lower) ∙ ap (λ (fs : List Form). fs ++ (lines_named (take k d.lines) (clause_name (place_of i.b)) ++ [])) first_named
                ∙ ap (λ (fs : List Form). printed number i.first ∷ (fs ++ [])) second_named in
                record { one = 0; other = 1; one_at = ap (λ (fs : List Form). slice_get fs 0) are; other_at = ap (λ (fs : List Form). slice_get fs 1) are }
            | inr higher ↦
                let are : forms_at k (in_order (place_of i.a) (place_of i.b)) ≡ printed number i.second ∷ printed number i.first ∷ [] =
                ap (forms_at k) (second_place_first (place_of i.a) (place_of i.b) higher) ∙ ap (λ (fs : List Form). fs ++ (lines_named (take k d.lines) (clause_name (place_of i.a)) ++ [])) second_named
                ∙ ap (λ (fs : List Form). printed number i.second ∷ (fs ++ [])) first_named in
                record { one = 1; other = 0; one_at = ap (λ (fs : List Form). slice_get fs 1) are; other_at = ap (λ (fs : List Form). slice_get fs 0) are }
          ]
        ]

    -- the one premise has a normal form
    first_small : is_from_large (take k d.lines) source ≡ false → place_of i.a ≡ place_of i.b → norm_size_of (printed number i.first) ≤ 100000
    first_small not_large same =
        let named : is_from_large (take k d.lines) (Inferred (map clause_name (in_order (place_of i.a) (place_of i.b)))) ≡ false = ap (is_from_large (take k d.lines)) (sym i.named) ∙ not_large in
        let lone : list_any is_large (lines_named (take k d.lines) (clause_name (place_of i.a))) ≡ false = ap (λ (ns : List ℕ). is_from_large (take k d.lines) (Inferred (map clause_name ns))) (sym (one_place (place_of i.a) (place_of i.b) same)) ∙ named in
        let own : (is_large (printed number i.first) || false) ≡ false = ap (list_any is_large) (sym first_named) ∙ lone in
        ltb-false 100000 (norm_size_of (printed number i.first)) (or_parts (is_large (printed number i.first)) false own).0

    applies : is_from_large (take k d.lines) source ≡ false → OneApplies rules (so_far w (forms_given given) (forms_in (take k d.lines))) (without_numbers (source_forms given (take k d.lines) source)) form
    applies not_large =
        subst (λ (a : Form). OneApplies rules (so_far w (forms_given given) (forms_in (take k d.lines))) (without_numbers (source_forms given (take k d.lines) source)) a) (sym i.is)
        (subst (λ (x : LineSource). OneApplies rules (so_far w (forms_given given) (forms_in (take k d.lines))) (without_numbers (source_forms given (take k d.lines) x)) (printed number i.conclusion)) (sym i.named) by_kind)
      where
        by_kind : OneApplies rules (so_far w (forms_given given) (forms_in (take k d.lines))) (without_numbers (forms_at k (in_order (place_of i.a) (place_of i.b)))) (printed number i.conclusion)
        by_kind =
            elim i.infers [
              | inl two ↦
                  let h = have_both in
                  rule_of_two (with_functions v given) w number (forms_given given) (forms_in (take k d.lines)) (forms_at k (in_order (place_of i.a) (place_of i.b))) h.one h.other i.first i.second i.conclusion two.0 i.first_fit i.second_fit i.printable h.one_at h.other_at two.1
              | inr one ↦
                  let same : place_of i.a ≡ place_of i.b = ap place_of one.1 in
                  subst (λ (fs : List Form). OneApplies rules (so_far w (forms_given given) (forms_in (take k d.lines))) (without_numbers fs) (printed number i.conclusion)) (sym (alone same))
                  (rule_of_one (with_functions v given) w number (forms_given given) (forms_in (take k d.lines)) i.first i.conclusion one.0 i.first_fit i.printable (first_small not_large same) one.2)
            ]

  pub inferred_apply : StepsOfKindApply true w given d.lines
  inferred_apply k line at step kind =
      let all = subst (EachBehind (IsInferredSo v given limit d f few less w fit) []) (sym (lines_are v given limit d f)) (inferred_so v given limit d f few less w fit) in
      let own = each_at (IsInferredSo v given limit d f few less w fit) d.lines k line all at kind in
      applies k line.form line.source own (small k line at)

-- the steps of both kinds are all steps
pub all_apply : (w : Vocabulary) (given : List GivenEntry) (lines : List ProofLine) → StepsOfKindApply true w given lines → StepsOfKindApply false w given lines → StepsApply w given lines
all_apply w given lines inferred others k line at step = by (is_inferred line.source) refl
  where
    by : (b : Bool) → is_inferred line.source ≡ b → OneApplies rules (so_far w (forms_given given) (forms_in (take k lines))) (without_numbers (source_forms given (take k lines) line.source)) line.form
    by true e = inferred k line at step e
    by false e = others k line at step e
