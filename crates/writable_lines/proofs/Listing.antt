-- No line of a derivation that is found has a list of one member.
use Rattle.std.specs.Prelude.{ℕ, zero, suc, ◌≡◌, ◌+◌, Bool, true, false, if◌then◌else◌, List, [], ◌∷◌, ◌++◌, get_or, Some, slice_get}
use Rattle.std.specs.List.{AllByRecursion}
use Rattle.std.proofs.Common.{sym, subst, ◌∙◌}
use Rattle.fof_terms.specs.Vocabulary.{Vocabulary}
use Rattle.clause_form.specs.declared.clause.Clause.{Clause}
use Rattle.saturation.specs.declared.member.Member.{Member}
use Rattle.saturation.specs.declared.member.Origin.{Origin}
use Rattle.saturation.specs.declared.member.Origin.TheVariants.{Input, Inferred}
use Rattle.sort_check.specs.declared.line.GivenEntry.{GivenEntry}
use Rattle.printed_clauses.specs.Renumbered.{new_number, renumbered_clause}
use Rattle.printed_clauses.specs.Trimmed.{trimmed}
use Rattle.printed_forms.specs.Lists.{has_no_list_of_one}
use Rattle.printed_forms.specs.Written.{AreGivenListed}
use Rattle.printed_forms.proofs.Clauses.{closed_listed}
use Rattle.printed_forms.proofs.Functions.{skolem_listed}
use Rattle.printed_forms.proofs.ListsFacts.{listed-Or}
use Rattle.printed_forms.proofs.Norms.{norm_listed}
use Rattle.derivation_items.specs.declared.line.ProofLine.{ProofLine}
use Rattle.given_parts.specs.Chosen.{chosen_from}
use Rattle.given_parts.specs.Parts.{part_of, parts_of}
use Rattle.given_parts.specs.declared.part.Part.{Part}
use Rattle.refutation_lines.specs.Lines.{given_lines, inferred_lines, input_lines, last_line, lines_of, lines_of_member, skolem_line, skolem_lines}
use Rattle.refutation_lines.specs.Names.{has_some}
use Rattle.refutation_lines.specs.Plans.{Refutation, plan_of}
use Rattle.refutation_lines.specs.declared.derivation.Derivation.{Derivation}
use Rattle.refutation_lines.specs.declared.plan.Plan.{Plan}
use Rattle.step_search.proofs.ClauseSuits.{each_of_both}
use Rattle.problem_proofs.specs.Found.{IsFound, refutation_by}
use Rattle.derivation_order.proofs.Found.{lines_are}
use Rattle.derivation_sentences.proofs.Owned.{one_of_all}
use Rattle.writable_lines.specs.Written.{AreListed}
use Rattle.writable_lines.proofs.Each.{each_chosen}

abbrev IsLineListed : ProofLine → Type 0
IsLineListed l = has_no_list_of_one l.form ≡ true

-- the normal form of a given formula
part_listed : (given : List GivenEntry) (k : ℕ) (p : Part) → slice_get (parts_of given) k ≡ Some p → has_no_list_of_one p.norm ≡ true
part_listed [] k p at = absurd (cc)
part_listed (g ∷ given) zero p at = (let same : part_of g.form ≡ p = cc in subst (λ (q : Part). has_no_list_of_one q.norm ≡ true) same (norm_listed true g.form))
part_listed (g ∷ given) (suc k) p at = part_listed given k p at

module _ (p : Plan) where
  skolem_lines_listed : (parts : List Part) → ((k : ℕ) (q : Part) → slice_get parts k ≡ Some q → has_no_list_of_one q.norm ≡ true) → (k : ℕ) (q : Part) → slice_get parts k ≡ Some q → AllByRecursion IsLineListed (skolem_lines p.numbers.firsts (0 + k) q)
  skolem_lines_listed parts norms k q at = by (has_some q.existentials)
    where
      by : (b : Bool) → AllByRecursion IsLineListed (if b then skolem_line p.numbers.firsts (0 + k) q ∷ [] else [])
      by true = (skolem_listed q.norm (get_or p.numbers.firsts (0 + k) 0) ∙ norms k q at, tt)
      by false = tt

  input_lines_listed : (k : ℕ) (c : Clause) → AllByRecursion IsLineListed (input_lines p k c)
  input_lines_listed k c = (closed_listed (trimmed (renumbered_clause (new_number p.first p.numbers.all) c)), tt)

  member_lines_listed : (k : ℕ) (m : Member) → AllByRecursion IsLineListed (inferred_lines p k m)
  member_lines_listed k m = by m.origin
    where
      by : (o : Origin) → AllByRecursion IsLineListed (lines_of_member p k m.clause o)
      by (Input n) = tt
      by (Inferred a b images) = (closed_listed (trimmed (renumbered_clause (new_number p.first p.numbers.all) m.clause)), tt)

  -- the lines of any refutation with such parts
  all_listed : (r : Refutation) → AreGivenListed r.given → ((k : ℕ) (q : Part) → slice_get p.parts k ≡ Some q → has_no_list_of_one q.norm ≡ true) → AreListed (lines_of r p)
  all_listed r given norms =
      let first = each_chosen IsLineListed given_lines 0 p.used r.given (λ k g at. (one_of_all (λ (h : GivenEntry). has_no_list_of_one h.form ≡ true) r.given k g given at, tt)) in
      let second = each_chosen IsLineListed (skolem_lines p.numbers.firsts) 0 p.used p.parts (skolem_lines_listed p.parts norms) in
      let third = each_chosen IsLineListed (input_lines p) 0 p.printed r.inputs (λ k c at. input_lines_listed (0 + k) c) in
      let fourth = each_chosen IsLineListed (inferred_lines p) 0 p.needed r.members (λ k m at. member_lines_listed (0 + k) m) in
      let front = chosen_from 0 given_lines p.used r.given in
      let skolems = chosen_from 0 (skolem_lines p.numbers.firsts) p.used p.parts in
      let inputs = chosen_from 0 (input_lines p) p.printed r.inputs in
      let members = chosen_from 0 (inferred_lines p) p.needed r.members in
      each_of_both IsLineListed (front ++ skolems ++ inputs ++ members) (last_line p r.last.origin ∷ [])
      (each_of_both IsLineListed (front ++ skolems ++ inputs) members (each_of_both IsLineListed (front ++ skolems) inputs (each_of_both IsLineListed front skolems first second) third) fourth)
      (listed-Or [], tt)

pub lines_listed : (v : Vocabulary) (given : List GivenEntry) (limit : ℕ) (d : Derivation) → AreGivenListed given → IsFound v given limit d → AreListed d.lines
lines_listed v given limit d listed found =
    let r = refutation_by v given found.members found.last in
    subst AreListed (sym (lines_are v given limit d found)) (all_listed (plan_of r found.derivation.needed) r listed (part_listed given))
