-- A derivation that is found, the steps of which rules give.
use Rattle.std.specs.Prelude.{ℕ, ◌≡◌, ◌<◌, ◌≤◌, ◌^◌, ◌||◌, nat_lt, Bool, true, false, List, [], ◌∷◌, ◌++◌, length, Some, slice_get, refl}
use Rattle.std.specs.List.{list_any}
use Rattle.std.proofs.Common.{ap, sym, subst, ◌∙◌}
use Rattle.std.proofs.lemmas.Bool.{false_from_ne_true, or_parts, ltb-false}
use Rattle.std.proofs.lemmas.List.Folds.{list_any_at}
use Rattle.std.proofs.lemmas.Option.{get_or_from_slice_get, slice_get_within}
use Rattle.inference_proofs.proofs.Kept.{Has, has_before, has_image}
use Rattle.fof_terms.specs.Vocabulary.{Vocabulary}
use Rattle.fof_terms.specs.declared.form.Form.{Form, Not}
use Rattle.clause_form.specs.Paths.{forms_of}
use Rattle.clause_form.specs.Sizes.{norm_size_of}
use Rattle.sort_check.specs.declared.line.GivenEntry.{GivenEntry}
use Rattle.step_clauses.specs.Inputs.{search_input, step_forms}
use Rattle.step_clauses.specs.Wide.{is_heavy, is_large}
use Rattle.tstp_graph.specs.declared.shape.Graph.{Graph}
use Rattle.tstp_graph.specs.declared.shape.Ref.{Ref}
use Rattle.verifier.specs.Good.{IsGood}
use Rattle.verifier.specs.Report.{HasFalse}
use Rattle.derivation_items.specs.declared.line.ProofLine.{ProofLine}
use Rattle.given_parts.specs.Chosen.{chosen}
use Rattle.refutation_lines.specs.Lines.{given_lines, inferred_lines, input_lines, last_line, skolem_lines}
use Rattle.refutation_lines.specs.Plans.{plan_of}
use Rattle.refutation_lines.specs.declared.derivation.Derivation.{Derivation}
use Rattle.problem_proofs.specs.Found.{IsFound, refutation_by}
use Rattle.problem_proofs.specs.Posed.{falsehood, parents_of}
use Rattle.problem_proofs.proofs.PosedFacts.{formulas, formulas_are}
use Rattle.derivation_order.specs.Cited.{derivation_by, forms_in}
use Rattle.derivation_order.specs.Graphs.{IsGraphOf}
use Rattle.derivation_order.proofs.Found.{found_linked, lines_are}
use Rattle.derivation_follows.specs.Stepping.{StepsApply}
use Rattle.derivation_follows.specs.Sure.{IsSure}
use Rattle.derivation_follows.proofs.Following.{good_sure}
use Rattle.derivation_follows.proofs.InTurn.{in_turn}

none_passes : {X : Type 0} (p : X → Bool) (xs : List X) (x : X) → list_any p xs ≡ false → Has xs x → p x ≡ false
none_passes p xs x none h =
    false_from_ne_true (p x) (λ e.
    let some : list_any p xs ≡ true = list_any_at p xs h.0 x (slice_get_within xs h.0 x h.1) (ap p (get_or_from_slice_get xs h.0 x x h.1) ∙ e) in
    cc)

last_form : (lines : List ProofLine) (last : ProofLine) → slice_get (forms_in (lines ++ last ∷ [])) (length lines) ≡ Some last.form
last_form [] last = refl
last_form (l ∷ lines) last = last_form lines last

module _ (v : Vocabulary) (given : List GivenEntry) (limit : ℕ) (d : Derivation) (f : IsFound v given limit d) where
  -- each given formula has a normal form
  pub small : (k : ℕ) (g : GivenEntry) → slice_get given k ≡ Some g → norm_size_of g.form ≤ 100000
  small k g at =
      let next = length v.symbols in
      let forms = forms_of (parents_of given) in
      let wide = or_parts (list_any is_large (step_forms forms falsehood)) (nat_lt 10000 (length (search_input next forms falsehood)) || list_any is_heavy (search_input next forms falsehood)) f.narrow in
      let there : Has (formulas given) g.form = has_image (λ (x : GivenEntry). x.form) given g (k, at) in
      let among : Has (step_forms forms falsehood) g.form = has_before forms (Not falsehood ∷ []) g.form (subst (λ (fs : List Form). Has fs g.form) (sym (formulas_are given)) there) in
      ltb-false 100000 (norm_size_of g.form) (none_passes is_large (step_forms forms falsehood) g.form wide.0 among)

  -- the last line is falsehood
  pub ends : HasFalse (forms_in d.lines)
  ends =
      let r = refutation_by v given f.members f.last in
      let p = plan_of r f.derivation.needed in
      let before = chosen given_lines p.used r.given ++ chosen (skolem_lines p.numbers.firsts) p.used p.parts ++ chosen (input_lines p) p.printed r.inputs ++ chosen (inferred_lines p) p.needed r.members in
      (length before, ap (λ (ls : List ProofLine). slice_get (forms_in ls) (length before)) (lines_are v given limit d f) ∙ last_form before (last_line p r.last.origin))

  pub found_good : length given < 2 ^ 64 → limit < 2 ^ 32 → (types : ℕ) (graph : Graph) → IsGraphOf given types d.lines graph → (w : Vocabulary) → StepsApply w given d.lines → (searched : ℕ)
      → IsSure ((cites : List Ref) × IsGood w (derivation_by given d.lines graph searched) graph.order cites)
  found_good few less types graph is w steps searched =
      good_sure w (derivation_by given d.lines graph searched) graph.order (in_turn w given d.lines (found_linked v given limit d f few less) types graph is searched small steps) ends
