-- The clauses of needed members are fit.
use Rattle.std.specs.Prelude.{ℕ, zero, suc, ◌≡◌, ◌<◌, true, List, [], ◌∷◌, length, take, Some, slice_get}
use Rattle.std.specs.List.{All as Each, AllByRecursion}
use Rattle.std.proofs.Common.{subst, arith, inl, inr}
use Rattle.inference_proofs.proofs.Kept.{image_from}
use Rattle.fof_terms.specs.Vocabulary.{Vocabulary}
use Rattle.fof_terms.specs.declared.form.Form.{Form}
use Rattle.clause_form.specs.ClauseView.{IsLoneFalsehood, stated}
use Rattle.clause_form.specs.Clauses.{clauses_of as clauses_of_form, skolemized}
use Rattle.clause_form.specs.Norm.{norm_of}
use Rattle.clause_form.specs.Paths.{forms_of}
use Rattle.clause_form.specs.declared.clause.AtomOf.TheVariants.{False}
use Rattle.clause_form.specs.declared.clause.Clause.{Clause}
use Rattle.clause_rules.specs.Steps.{IsReady}
use Rattle.sort_check.specs.declared.line.GivenEntry.{GivenEntry}
use Rattle.unify_terms.specs.Substitution.{image_at}
use Rattle.saturation.specs.Members.{clauses_of}
use Rattle.saturation.specs.Origins.{Makes}
use Rattle.saturation.specs.declared.member.Member.{Member}
use Rattle.saturation.specs.declared.member.Origin.{Origin}
use Rattle.saturation.specs.declared.member.Origin.TheVariants as origin
use Rattle.step_clauses.specs.Inputs.{clauses_from, next_behind, step_forms}
use Rattle.input_proofs.proofs.Literals.{all_plain as clauses_plain, each_append}
use Rattle.printed_steps.specs.Printed.{IsPlain}
use Rattle.refutation_lines.specs.declared.derivation.Derivation.{Derivation}
use Rattle.problem_proofs.specs.Found.{IsFound, refutation_by, vocabulary_of}
use Rattle.problem_proofs.specs.Posed.{clauses_of_given, falsehood, parents_of, with_functions}
use Rattle.derivation_order.proofs.Chosen.{taken_at}
use Rattle.derivation_sentences.proofs.Members.{member_good}
use Rattle.derivation_sentences.proofs.Owned.{one_of_all}
use Rattle.derivation_follows.specs.Members.{AreFit}
use Rattle.derivation_follows.proofs.Plainly.{ArePlain, all_plain, each_plain, plain_of_one, plain_of_two}

not_lone : (c : Clause) → IsPlain c.lits → IsLoneFalsehood c → ⊥
not_lone c h e = let own : IsPlain (stated False ∷ []) = subst IsPlain e h in let off = own.0 in cc

-- the clauses that a search starts from are plain
inputs_plain : (next : ℕ) (forms : List Form) → AllByRecursion (λ (c : Clause). IsPlain c.lits) (clauses_from next forms)
inputs_plain next [] = tt
inputs_plain next (a ∷ forms) =
    each_append (λ (c : Clause). IsPlain c.lits) (clauses_of_form a next) (clauses_from (next_behind next a) forms) (clauses_plain (skolemized (norm_of true a) next)) (inputs_plain (next_behind next a) forms)

module _ (v : Vocabulary) (given : List GivenEntry) (limit : ℕ) (d : Derivation) (f : IsFound v given limit d) where
  -- the members before that number are plain
  abbrev PlainBelow : ℕ → Type 0
  PlainBelow n = (j : ℕ) (m : Member) → j < n → slice_get f.members j ≡ Some m → ArePlain m.clause.lits

  input_plain : (n : ℕ) (c : Clause) → slice_get (clauses_of_given v given) n ≡ Some c → ArePlain c.lits
  input_plain n c at =
      let all = inputs_plain (length v.symbols) (step_forms (forms_of (parents_of given)) falsehood) in
      each_plain c.lits (one_of_all (λ (x : Clause). IsPlain x.lits) (clauses_of_given v given) n c all at)

  premise_plain : (j a : ℕ) (c : Clause) → PlainBelow j → slice_get (clauses_of (take j f.members)) a ≡ Some c → ArePlain c.lits
  premise_plain j a c below e =
      let own = image_from (λ (m : Member). m.clause) (take j f.members) c a e in
      let there = taken_at j f.members a own.0 own.1 in
      subst (λ (x : Clause). ArePlain x.lits) own.2 (below a own.0 there.0 there.1)

  made_plain : (j : ℕ) (e : Clause) → PlainBelow j → (o : Origin) → Makes (with_functions v given) (clauses_of_given v given) (clauses_of (take j f.members)) e o → ArePlain e.lits
  made_plain j e below (origin.Input n) makes = input_plain n e makes
  made_plain j e below (origin.Inferred a b images) (inl two) =
      plain_of_two (with_functions v given) two.first e (image_at images) (premise_plain j a two.first below two.first_at) two.second (premise_plain j b two.second below two.second_at) two.infers
  made_plain j e below (origin.Inferred a b images) (inr one) = plain_of_one (with_functions v given) one.premise e (image_at images) (premise_plain j a one.premise below one.premise_at) one.infers

  plain_below : (n : ℕ) → PlainBelow n
  plain_below zero j m lt at = absurd (omega arith)
  plain_below (suc n) j m lt at = made_plain j m.clause (λ i x less there. plain_below n i x (omega arith) there) m.origin (f.made j m at)

  pub members_fit : Each (λ (g : GivenEntry). IsReady v g.form) given → AreFit (with_functions v given) (vocabulary_of v d) (refutation_by v given f.members f.last) f.derivation.needed
  members_fit ready j m marked at =
      let good = member_good v given limit d ready f j m at marked in
      let plain = all_plain m.clause.lits (plain_below (suc j) j m (omega arith) at) in
      record { printable = record { sorted = good.sorted; proper = not_lone m.clause plain; carried = good.functions }; plain = plain }
