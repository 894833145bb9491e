-- The lines that are inferred, with the lines that they come from.
use Rattle.std.specs.Prelude.{ℕ, ◌≡◌, ◌⊎◌, ◌<◌, ◌+◌, ◌^◌, Bool, true, List, [], ◌∷◌, ◌++◌, length, map, get_or, take, Some, slice_get, refl}
use Rattle.std.proofs.Common.{ap, sym, subst, ◌∙◌, arith, inl, inr}
use Rattle.std.proofs.lemmas.List.{take_all}
use Rattle.std.proofs.lemmas.Option.{slice_get_within}
use Rattle.inference_proofs.proofs.Kept.{Has, has_before, has_behind, image_from}
use Rattle.fof_terms.specs.Vocabulary.{Vocabulary}
use Rattle.fof_terms.specs.declared.form.Form.{Form, Or}
use Rattle.fof_terms.specs.declared.term.Term.{Term}
use Rattle.clause_form.specs.declared.clause.Clause.{Clause}
use Rattle.clause_form.specs.declared.clause.Lit.{Lit}
use Rattle.clause_form.specs.ClauseView.{closed}
use Rattle.sort_check.specs.declared.line.GivenEntry.{GivenEntry}
use Rattle.unify_terms.specs.Substitution.{image_at}
use Rattle.superpose.specs.Inferences.{InfersFromOne, InfersFromTwo}
use Rattle.saturation.specs.declared.member.Member.{Member}
use Rattle.saturation.specs.declared.member.Origin.{Origin}
use Rattle.saturation.specs.declared.member.Origin.TheVariants as origin
use Rattle.saturation.specs.Members.{clauses_of}
use Rattle.saturation.specs.Origins.{Makes}
use Rattle.search_proofs.specs.Needed.{IsMarked, Names}
use Rattle.printed_clauses.specs.Trimmed.{kept_sorts, occurs_in}
use Rattle.printed_steps.specs.Printed.{IsPrintable, printed}
use Rattle.derivation_items.specs.Words.{Text}
use Rattle.derivation_items.specs.declared.line.LineSource.{LineSource}
use Rattle.derivation_items.specs.declared.line.LineSource.TheVariants.{Inferred}
use Rattle.derivation_items.specs.declared.line.ProofLine.{ProofLine}
use Rattle.given_parts.specs.Chosen.{chosen_from}
use Rattle.given_parts.specs.Parts.{parts_of}
use Rattle.refutation_lines.specs.Lines.{clause_line, given_lines, inferred_lines, input_lines, last_line, lines_of, lines_of_member, skolem_line, skolem_lines, source_of_input, source_of_parents}
use Rattle.refutation_lines.specs.Names.{clause_name, has_some}
use Rattle.refutation_lines.specs.Places.{in_order, is_inferred as comes_from_members}
use Rattle.refutation_lines.specs.Plans.{Refutation, places_in, plan_of, printed_in, ranks_in, used_in}
use Rattle.refutation_lines.specs.declared.derivation.Derivation.{Derivation}
use Rattle.problem_proofs.specs.Found.{IsFound, refutation_by}
use Rattle.problem_proofs.specs.Posed.{clauses_of_given, with_functions}
use Rattle.derivation_order.specs.Links.{EachBehind}
use Rattle.derivation_order.proofs.Behind.{each_append, each_chosen, each_if}
use Rattle.derivation_order.proofs.Chosen.{at_taken, has_given, taken_at}
use Rattle.derivation_order.proofs.Found.{is_sound}
use Rattle.derivation_order.proofs.Marked.{IsSound, input_printed}
use Rattle.derivation_order.proofs.Ranks.{place_input}
use Rattle.derivation_follows.specs.Members.{AreFit, IsFit, number_in}
use Rattle.derivation_follows.specs.Stepping.{is_inferred}

-- ---- a line of a name and a formula

abbrev pub IsFormAt : List ProofLine → Text → Form → Type 0
IsFormAt lines word form = (line : ProofLine) × Has lines line × (line.name ≡ word) × (line.form ≡ form)

form_left : (xs ys : List ProofLine) (word : Text) (form : Form) → IsFormAt xs word form → IsFormAt (xs ++ ys) word form
form_left xs ys word form h = (h.0, has_before xs ys h.0 h.1, h.2, h.3)

form_right : (xs ys : List ProofLine) (word : Text) (form : Form) → IsFormAt ys word form → IsFormAt (xs ++ ys) word form
form_right xs ys word form h = (h.0, has_behind xs ys h.0 h.1, h.2, h.3)

-- ---- falsehood

no_sorts : (sorts : List ℕ) → kept_sorts (occurs_in []) sorts ≡ []
no_sorts [] = refl
no_sorts (s ∷ sorts) = no_sorts sorts

empty_printed : (number : ℕ → ℕ) (c : Clause) → c.lits ≡ [] → printed number c ≡ Or []
empty_printed number c e =
    ap (λ (lits : List Lit). printed number (record { sorts = c.sorts; lits = lits })) e ∙ ap (λ (sorts : List ℕ). closed (record { sorts = sorts; lits = [] })) (no_sorts c.sorts)

-- ---- a refutation

module _ (v : Vocabulary) (given : List GivenEntry) (limit : ℕ) (d : Derivation) (f : IsFound v given limit d) (few : length given < 2 ^ 64) (less : limit < 2 ^ 32) (w : Vocabulary)
    (fit : AreFit (with_functions v given) w (refutation_by v given f.members f.last) f.derivation.needed) where
  abbrev pub r : Refutation
  r = refutation_by v given f.members f.last

  abbrev pub needed : List Bool
  needed = f.derivation.needed

  abbrev pub place : ℕ → ℕ
  place j = get_or (places_in r needed) j 0

  abbrev pub as_printed : Clause → Form
  as_printed c = printed (number_in r needed) c

  -- the clauses of an inference, and the lines of its premises
  pub record IsInference (earlier : List ProofLine) (form : Form) (source : LineSource) : Type 0 where
    pub a : ℕ
    pub b : ℕ
    pub first : Clause
    pub second : Clause
    pub conclusion : Clause
    pub named : source ≡ Inferred (map clause_name (in_order (place a) (place b)))
    pub is : form ≡ as_printed conclusion
    pub first_at : IsFormAt earlier (clause_name (place a)) (as_printed first)
    pub second_at : IsFormAt earlier (clause_name (place b)) (as_printed second)
    pub first_fit : IsFit (with_functions v given) w (number_in r needed) first
    pub second_fit : IsFit (with_functions v given) w (number_in r needed) second
    pub printable : IsPrintable (with_functions v given) w (number_in r needed) conclusion
    pub infers : ((s : ℕ → Term) × InfersFromTwo (with_functions v given) first second conclusion s) ⊎ ((s : ℕ → Term) × (a ≡ b) × InfersFromOne (with_functions v given) first conclusion s)

  -- a line that is inferred is so
  abbrev pub IsInferredSo : List ProofLine → ProofLine → Type 0
  IsInferredSo earlier line = is_inferred line.source ≡ true → IsInference earlier line.form line.source

  abbrev inputs_lines : List ProofLine
  inputs_lines = chosen_from 0 (input_lines (plan_of r needed)) (printed_in r needed) (clauses_of_given v given)

  abbrev opened : List ProofLine
  opened = chosen_from 0 given_lines (used_in r needed) given ++ chosen_from 0 (skolem_lines (plan_of r needed).numbers.firsts) (used_in r needed) (parts_of given)

  abbrev before : List ProofLine
  before = opened ++ inputs_lines

  abbrev member_of : List Bool → List Member → List ProofLine
  member_of marks members = chosen_from 0 (inferred_lines (plan_of r needed)) marks members

  sound : IsSound r needed
  sound = is_sound v given limit d f few less

  -- ---- the lines of members

  own_line : (j : ℕ) (m : Member) → comes_from_members m.origin ≡ true → (l : ProofLine) × Has (inferred_lines (plan_of r needed) j m) l × (l.name ≡ clause_name (place j)) × (l.form ≡ as_printed m.clause)
  own_line j m inferred = by m.origin inferred
    where
      by : (o : Origin) → comes_from_members o ≡ true → (l : ProofLine) × Has (lines_of_member (plan_of r needed) j m.clause o) l × (l.name ≡ clause_name (place j)) × (l.form ≡ as_printed m.clause)
      by (origin.Input i) e = absurd (cc)
      by (origin.Inferred a b images) e = (clause_line (plan_of r needed) (place j) m.clause (source_of_parents (plan_of r needed) a b), (0, refl), refl, refl)

  abbrev HasForms : List ProofLine → ℕ → Type 0
  HasForms lines j = (x : ℕ) (m : Member) → x < j → IsMarked needed x → slice_get f.members x ≡ Some m → comes_from_members m.origin ≡ true → IsFormAt lines (clause_name (place x)) (as_printed m.clause)

  forms_before : (j : ℕ) → HasForms (member_of (take j needed) (take j f.members)) j
  forms_before j x m lt marked at inferred =
      let own = own_line x m inferred in
      let same : x ≡ 0 + x = omega arith in (
        own.0,
        has_given (inferred_lines (plan_of r needed)) 0 (take j needed) (take j f.members) x m own.0 (at_taken j needed x true lt marked) (at_taken j f.members x m lt at)
            (subst (λ (k : ℕ). Has (inferred_lines (plan_of r needed) k m) own.0) same own.1),
        own.2,
        own.3,
      )

  forms_all : HasForms (member_of needed f.members) (length f.members)
  forms_all x m lt marked at inferred =
      let own = own_line x m inferred in
      let same : x ≡ 0 + x = omega arith in
      (own.0, has_given (inferred_lines (plan_of r needed)) 0 needed f.members x m own.0 marked at (subst (λ (k : ℕ). Has (inferred_lines (plan_of r needed) k m) own.0) same own.1), own.2, own.3)

  input_form : (n : ℕ) (c : Clause) → slice_get (clauses_of_given v given) n ≡ Some c → slice_get (printed_in r needed) n ≡ Some true → IsFormAt inputs_lines (clause_name (get_or (ranks_in r needed) n 0)) (as_printed c)
  input_form n c at marked =
      let line = clause_line (plan_of r needed) (get_or (ranks_in r needed) n 0) c (source_of_input (plan_of r needed) n) in
      let same : n ≡ 0 + n = omega arith in
      (line, has_given (input_lines (plan_of r needed)) 0 (printed_in r needed) (clauses_of_given v given) n c line marked at (subst (λ (k : ℕ). Has (input_lines (plan_of r needed) k c) line) same (0, refl)), refl, refl)

  member_form : (lines : List ProofLine) (j x : ℕ) (m : Member) → HasForms lines j → x < j → IsMarked needed x → slice_get f.members x ≡ Some m → IsFormAt (before ++ lines) (clause_name (place x)) (as_printed m.clause)
  member_form lines j x m has lt marked at = by m.origin refl
    where
      by : (o : Origin) → m.origin ≡ o → IsFormAt (before ++ lines) (clause_name (place x)) (as_printed m.clause)
      by (origin.Input n) e =
          let long = sound.are.count in
          let fits = slice_get_within f.members x m at in
          let there : slice_get (clauses_of_given v given) n ≡ Some m.clause = subst (Makes (with_functions v given) (clauses_of_given v given) (clauses_of (take x f.members)) m.clause) e (f.made x m at) in
          let reach = slice_get_within (clauses_of_given v given) n m.clause there in
          let marks = input_printed r needed sound x n m marked at e reach in
          let same : place x ≡ get_or (ranks_in r needed) n 0 = place_input (ranks_in r needed) (get_or (ranks_in r needed) (length (clauses_of_given v given)) 0) needed f.members x n m (omega arith) at e in
          subst (λ (k : ℕ). IsFormAt (before ++ lines) (clause_name k) (as_printed m.clause)) (sym same)
          (form_left before lines (clause_name (get_or (ranks_in r needed) n 0)) (as_printed m.clause)
          (form_right opened inputs_lines (clause_name (get_or (ranks_in r needed) n 0)) (as_printed m.clause) (input_form n m.clause there marks)))
      by (origin.Inferred a b images) e = form_right before lines (clause_name (place x)) (as_printed m.clause) (has x m lt marked at (ap comes_from_members e))

  -- ---- inferences

  premise_at : (j a : ℕ) (c : Clause) → slice_get (clauses_of (take j f.members)) a ≡ Some c → (m : Member) × (a < j) × (slice_get f.members a ≡ Some m) × (m.clause ≡ c)
  premise_at j a c e =
      let own = image_from (λ (m : Member). m.clause) (take j f.members) c a e in
      let there = taken_at j f.members a own.0 own.1 in
      (own.0, there.0, there.1, own.2)

  inference : (lines : List ProofLine) (j : ℕ) (e : Clause) (a b : ℕ) (images : _) → HasForms lines j → IsMarked needed a → IsMarked needed b → IsPrintable (with_functions v given) w (number_in r needed) e
      → Makes (with_functions v given) (clauses_of_given v given) (clauses_of (take j f.members)) e (origin.Inferred a b images) → IsInference (before ++ lines) (as_printed e) (Inferred (map clause_name (in_order (place a) (place b))))
  inference lines j e a b images has ma mb printable makes =
      elim makes [
        | inl two ↦
            let first = premise_at j a two.first two.first_at in
            let second = premise_at j b two.second two.second_at in
            record {
              a = a;
              b = b;
              first = first.0.clause;
              second = second.0.clause;
              conclusion = e;
              named = refl;
              is = refl;
              first_at = member_form lines j a first.0 has first.1 ma first.2;
              second_at = member_form lines j b second.0 has second.1 mb second.2;
              first_fit = fit a first.0 ma first.2;
              second_fit = fit b second.0 mb second.2;
              printable = printable;
              infers =
                  inl (
                    image_at images,
                    subst (λ (c : Clause). InfersFromTwo (with_functions v given) c second.0.clause e (image_at images)) (sym first.3) (subst (λ (c : Clause). InfersFromTwo (with_functions v given) two.first c e (image_at images)) (sym second.3) two.infers),
                  );
            }
        | inr one ↦
            let first = premise_at j a one.premise one.premise_at in
            let there = member_form lines j a first.0 has first.1 ma first.2 in
            record {
              a = a;
              b = b;
              first = first.0.clause;
              second = first.0.clause;
              conclusion = e;
              named = refl;
              is = refl;
              first_at = there;
              second_at = subst (λ (x : ℕ). IsFormAt (before ++ lines) (clause_name (place x)) (as_printed first.0.clause)) one.twice there;
              first_fit = fit a first.0 ma first.2;
              second_fit = fit a first.0 ma first.2;
              printable = printable;
              infers = inr (image_at images, one.twice, subst (λ (c : Clause). InfersFromOne (with_functions v given) c e (image_at images)) (sym first.3) one.infers);
            }
      ]

  -- ---- each line

  given_so : EachBehind IsInferredSo [] (chosen_from 0 given_lines (used_in r needed) given)
  given_so = each_chosen IsInferredSo given_lines [] (used_in r needed) given (λ k g marked at. (λ e. absurd (cc), tt))

  skolem_so : EachBehind IsInferredSo (chosen_from 0 given_lines (used_in r needed) given) (chosen_from 0 (skolem_lines (plan_of r needed).numbers.firsts) (used_in r needed) (parts_of given))
  skolem_so =
      each_chosen IsInferredSo (skolem_lines (plan_of r needed).numbers.firsts) (chosen_from 0 given_lines (used_in r needed) given) (used_in r needed) (parts_of given) (λ k q marked at.
      each_if IsInferredSo _ (has_some q.existentials) (skolem_line (plan_of r needed).numbers.firsts k q ∷ []) (λ on. (λ e. absurd (cc), tt)))

  inputs_so : EachBehind IsInferredSo opened inputs_lines
  inputs_so = each_chosen IsInferredSo (input_lines (plan_of r needed)) opened (printed_in r needed) (clauses_of_given v given) (λ i c marked at. (λ e. absurd (cc), tt))

  member_so : (j : ℕ) (m : Member) → IsMarked needed j → slice_get f.members j ≡ Some m → (o : Origin) → m.origin ≡ o → EachBehind IsInferredSo (before ++ member_of (take j needed) (take j f.members)) (lines_of_member (plan_of r needed) j m.clause o)
  member_so j m marked at (origin.Input n) e = tt
  member_so j m marked at (origin.Inferred a b images) e =
      let names_a : Names m.origin a = subst (λ (o : Origin). Names o a) (sym e) (inl refl) in
      let names_b : Names m.origin b = subst (λ (o : Origin). Names o b) (sym e) (inr refl) in
      let ma = sound.are.of_each a (record { by = j; member = m; there = at; marked = marked; names = names_a }) in
      let mb = sound.are.of_each b (record { by = j; member = m; there = at; marked = marked; names = names_b }) in
      let makes = subst (Makes (with_functions v given) (clauses_of_given v given) (clauses_of (take j f.members)) m.clause) e (f.made j m at) in
      (λ is. inference (member_of (take j needed) (take j f.members)) j m.clause a b images (forms_before j) ma mb (fit j m marked at).printable makes, tt)

  members_so : EachBehind IsInferredSo before (member_of needed f.members)
  members_so = each_chosen IsInferredSo (inferred_lines (plan_of r needed)) before needed f.members (λ j m marked at. member_so j m marked at m.origin refl)

  -- the last clause has no literals
  last_printable : IsPrintable (with_functions v given) w (number_in r needed) f.last.clause
  last_printable =
      let empty = f.refuted.is_empty in
      subst (λ (c : Clause). IsPrintable (with_functions v given) w (number_in r needed) c) (ap (λ (lits : List Lit). record { sorts = f.last.clause.sorts; lits = lits }) (sym empty))
      (record {
        sorted = record { fits = λ k x lt. absurd (omega arith) };
        proper = λ e. cc;
        carried = λ g e. absurd (cc);
      })

  last_so : (o : Origin) → f.last.origin ≡ o → IsInferredSo (before ++ member_of needed f.members) (last_line (plan_of r needed) o)
  last_so (origin.Input i) e = λ is. absurd (cc)
  last_so (origin.Inferred a b images) e = λ is.
      let names_a : Names f.last.origin a = subst (λ (o : Origin). Names o a) (sym e) (inl refl) in
      let names_b : Names f.last.origin b = subst (λ (o : Origin). Names o b) (sym e) (inr refl) in
      let whole : clauses_of f.members ≡ clauses_of (take (length f.members) f.members) = ap clauses_of (sym (take_all (length f.members) f.members (omega arith))) in
      let makes = subst (λ (cs : List Clause). Makes (with_functions v given) (clauses_of_given v given) cs f.last.clause (origin.Inferred a b images)) whole (subst (Makes (with_functions v given) (clauses_of_given v given) (clauses_of f.members) f.last.clause) e f.last_made) in
      subst (λ (form : Form). IsInference (before ++ member_of needed f.members) form (Inferred (map clause_name (in_order (place a) (place b))))) (empty_printed (number_in r needed) f.last.clause f.refuted.is_empty)
      (inference (member_of needed f.members) (length f.members) f.last.clause a b images forms_all (sound.are.of_last a names_a) (sound.are.of_last b names_b) last_printable makes)

  pub inferred_so : EachBehind IsInferredSo [] (lines_of r (plan_of r needed))
  inferred_so =
      each_append IsInferredSo [] (before ++ member_of needed f.members) (last_line (plan_of r needed) f.last.origin ∷ [])
      (each_append IsInferredSo [] before (member_of needed f.members)
      (each_append IsInferredSo [] opened inputs_lines (each_append IsInferredSo [] (chosen_from 0 given_lines (used_in r needed) given) (chosen_from 0 (skolem_lines (plan_of r needed).numbers.firsts) (used_in r needed) (parts_of given)) given_so skolem_so) inputs_so) members_so)
      (last_so f.last.origin refl, tt)
