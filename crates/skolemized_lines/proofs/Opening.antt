-- Each line that is a step and is not inferred follows from the line that it names: those with new functions by `skolem`,
-- and the clauses of given formulas by `cover`.
use Rattle.std.specs.Prelude.{ℕ, zero, suc, ◌≡◌, ◌+◌, ◌<◌, ◌≤◌, ◌^◌, Bool, true, false, if◌then◌else◌, List, [], ◌∷◌, ◌++◌, length, map, get_or, take, Option, Some, slice_get, refl}
use Rattle.std.specs.List.{All as Each, AllByRecursion, list_any}
use Rattle.std.specs.Option.{option_map}
use Rattle.std.proofs.Common.{ap, sym, subst, ◌∙◌, arith, inl, inr}
use Rattle.std.proofs.lemmas.Bool.{ltb-false, ltb-true}
use Rattle.std.proofs.lemmas.List.Elements.{All-from_recursion, recursion_from_All}
use Rattle.std.proofs.lemmas.List.FromFn.{length-map-range_with_len}
use Rattle.std.proofs.lemmas.Option.{slice_get-map, slice_get_within}
use Rattle.fof_terms.specs.declared.form.Form.{Form, Or}
use Rattle.fof_terms.specs.declared.signature.Symbol.{Symbol}
use Rattle.fof_terms.specs.Occurs.{occurs_in}
use Rattle.fof_terms.specs.Vocabulary.{Vocabulary}
use Rattle.fof_terms.proofs.Scoped.{raised}
use Rattle.clause_form.specs.declared.clause.Clause.{Clause}
use Rattle.clause_form.specs.declared.clause.Lit.{Lit}
use Rattle.clause_form.specs.ClauseView.{closed}
use Rattle.clause_form.specs.Clauses.{skolemized}
use Rattle.clause_form.specs.Norm.{norm_of}
use Rattle.clause_form.specs.Sizes.{norm_size_of}
use Rattle.clause_rules.specs.Steps.{IsReady}
use Rattle.derivation_items.specs.Words.{Text}
use Rattle.derivation_items.specs.declared.line.LineSource.{LineSource}
use Rattle.derivation_items.specs.declared.line.LineSource.TheVariants.{ClauseOf, Given, Skolemized}
use Rattle.derivation_items.specs.declared.line.ProofLine.{ProofLine}
use Rattle.derivation_order.specs.Cited.{forms_in}
use Rattle.derivation_order.specs.Graphs.{is_given}
use Rattle.derivation_order.specs.Links.{EachBehind}
use Rattle.derivation_order.proofs.Behind.{each_append, each_at, each_chosen, each_if}
use Rattle.derivation_order.proofs.Chosen.{given_by, has_given, taken_at}
use Rattle.derivation_order.proofs.Cited.{named_form}
use Rattle.derivation_order.proofs.Found.{found_linked, is_sound, lines_are}
use Rattle.derivation_order.proofs.Marked.{IsSound, last_used, owner_used}
use Rattle.derivation_sentences.proofs.Linked.{ex_of}
use Rattle.derivation_sentences.proofs.Members.{all_small, input_good}
use Rattle.derivation_sentences.proofs.Owned.{one_of_all}
use Rattle.derivation_sentences.proofs.Skolems.{renamed}
use Rattle.derivation_follows.specs.Applied.{OneApplies}
use Rattle.derivation_follows.specs.Stepping.{StepsOfKindApply, is_inferred}
use Rattle.elaborate.specs.ByRule.{rules}
use Rattle.given_parts.specs.Chosen.{chosen_from}
use Rattle.given_parts.specs.Parts.{part_of, parts_of}
use Rattle.given_parts.specs.declared.part.Part.{Part}
use Rattle.inference_proofs.proofs.Kept.{Has, has_before, has_behind, has_split, image_from}
use Rattle.limited_items.specs.Sources.{forms_given, lines_named, source_forms}
use Rattle.printed_clauses.specs.Prefixes.{prefix_of}
use Rattle.printed_clauses.specs.Trimmed.{kept_sorts, occurs_in as stands_in}
use Rattle.printed_steps.specs.Carried.{HasItsVariables}
use Rattle.printed_steps.specs.Printed.{printed}
use Rattle.printed_steps.proofs.Owning.{sorted_own}
use Rattle.proof_check.proofs.InVocabulary.{stays_inside}
use Rattle.problem_proofs.specs.Found.{IsFound, refutation_by, vocabulary_of}
use Rattle.problem_proofs.specs.Posed.{clauses_of_given, with_functions}
use Rattle.problem_proofs.proofs.PosedFacts.{clauses_are}
use Rattle.refutation_lines.specs.Lines.{given_lines, inferred_lines, input_lines, last_line, lines_of, lines_of_member, skolem_line, skolem_lines, source_of_input}
use Rattle.refutation_lines.specs.Names.{given_name, has_functions, has_some, opened_name, skolem_name}
use Rattle.refutation_lines.specs.Needs.{uses_part}
use Rattle.refutation_lines.specs.Plans.{Refutation, owners_in, plan_of, printed_in, used_in}
use Rattle.refutation_lines.specs.declared.derivation.Derivation.{Derivation}
use Rattle.refutation_lines.specs.declared.plan.Plan.{Plan}
use Rattle.saturation.specs.Members.{clauses_of}
use Rattle.saturation.specs.Origins.{Makes}
use Rattle.saturation.specs.declared.member.Member.{Member}
use Rattle.saturation.specs.declared.member.Origin.{Origin}
use Rattle.saturation.specs.declared.member.Origin.TheVariants as origin
use Rattle.skolem_fresh.specs.SkolemRule.{IsSkolemStep}
use Rattle.sort_check.specs.declared.line.GivenEntry.{GivenEntry}
use Rattle.step_clauses.specs.Wide.{is_large}
use Rattle.step_search.proofs.Inputs.{neither}
use Rattle.verifier.specs.Good.{so_far, without_numbers}
use Rattle.skolemized_lines.proofs.Covering.{first_of, norm_lacks, number, opened_form, part_covered}
use Rattle.skolemized_lines.proofs.Numbers.{IsOfPart, firsts_least, firsts_rise, part_of_input}
use Rattle.skolemized_lines.proofs.Skolems.{skolem_lacks, skolem_step, uses_from}

-- ---- falsehood

no_sorts : (sorts : List ℕ) → kept_sorts (stands_in []) sorts ≡ []
no_sorts [] = refl
no_sorts (s ∷ sorts) = no_sorts sorts

empty_printed : (renumber : ℕ → ℕ) (c : Clause) → c.lits ≡ [] → printed renumber c ≡ Or []
empty_printed renumber c e =
    ap (λ (lits : List Lit). printed renumber (record { sorts = c.sorts; lits = lits })) e ∙ ap (λ (sorts : List ℕ). closed (record { sorts = sorts; lits = [] })) (no_sorts c.sorts)

empty_own : (c : Clause) → c.lits ≡ [] → HasItsVariables c
empty_own c e k h = let clash : false ≡ true = ap (λ (lits : List Lit). stands_in lits k) (sym e) ∙ h in cc

-- ---- what holds of each element of a list

each_has : {X : Type 0} (P : X → Type 0) (xs : List X) → ((x : X) → Has xs x → P x) → AllByRecursion P xs
each_has P [] h = tt
each_has P (x ∷ xs) h = (h x (0, refl), each_has P xs (λ y at. h y (suc at.0, at.1)))

-- each of the formulas has a normal form
forms_small : (gs : List GivenEntry) → list_any is_large (map (λ (g : GivenEntry). g.form) gs) ≡ false → (k : ℕ) (g : GivenEntry) → slice_get gs k ≡ Some g → norm_size_of g.form ≤ 100000
forms_small [] all k g at = cc
forms_small (h ∷ gs) all zero g at =
    let same : h ≡ g = cc in
    ltb-false 100000 (norm_size_of g.form) (ap (λ (x : GivenEntry). is_large x.form) (sym same) ∙ (neither (is_large h.form) (list_any is_large (map (λ (x : GivenEntry). x.form) gs)) all).0)
forms_small (h ∷ gs) all (suc k) g at = forms_small gs (neither (is_large h.form) (list_any is_large (map (λ (x : GivenEntry). x.form) gs)) all).1 k g at

-- ---- a line that follows from another

-- one of the lines has the name and the formula
abbrev IsFormAt : List ProofLine → Text → Form → Type 0
IsFormAt lines word form = (line : ProofLine) × Has lines line × (line.name ≡ word) × (line.form ≡ form)

-- The line of the name has the formula, and some rule gives this one from it.
pub record IsOpened (w : Vocabulary) (given : List GivenEntry) (earlier : List ProofLine) (form : Form) (source : LineSource) : Type 0 where
  pub word : Text
  pub named : (lines : List ProofLine) → source_forms given lines source ≡ lines_named lines word
  pub parent : Form
  pub there : IsFormAt earlier word parent
  pub applies : OneApplies rules (so_far w (forms_given given) (forms_in earlier)) (without_numbers (parent ∷ [])) form

module _ (v : Vocabulary) (given : List GivenEntry) (limit : ℕ) (d : Derivation) (ready : Each (λ (g : GivenEntry). IsReady v g.form) given) (f : IsFound v given limit d) (few : length given < 2 ^ 64) (less : limit < 2 ^ 32) where
  abbrev r : Refutation
  r = refutation_by v given f.members f.last

  abbrev needed : List Bool
  needed = f.derivation.needed

  abbrev plan : Plan
  plan = plan_of r needed

  abbrev used : List Bool
  used = used_in r needed

  abbrev prefix : Text
  prefix = prefix_of f.underscores

  abbrev w : Vocabulary
  w = renamed v given used prefix

  abbrev first : ℕ → ℕ
  first = first_of v given used prefix

  whole_is : w ≡ vocabulary_of v d
  whole_is = ap (λ (fs : List Symbol). record v { symbols = v.symbols ++ fs }) (sym (ap (λ (e : Derivation). e.functions) f.derivation.is))

  sound : IsSound r needed
  sound = is_sound v given limit d f few less

  long : length used ≡ length given
  long = length-map-range_with_len (uses_part (owners_in r) (printed_in r needed) f.last.origin) 0 (length given)

  ready_at : (k : ℕ) (g : GivenEntry) → slice_get given k ≡ Some g → IsReady v g.form
  ready_at k g at = one_of_all (λ (h : GivenEntry). IsReady v h.form) given k g (recursion_from_All (λ (h : GivenEntry). IsReady v h.form) given ready) at

  small_at : (k : ℕ) (g : GivenEntry) → slice_get given k ≡ Some g → norm_size_of g.form ≤ 100000
  small_at k g at = forms_small given (all_small v given limit d ready f) k g at

  abbrev IsOpenedSo : List ProofLine → ProofLine → Type 0
  IsOpenedSo earlier line = is_given line.source ≡ false → is_inferred line.source ≡ false → IsOpened w given earlier line.form line.source

  -- ---- copies

  abbrev copies : List ProofLine
  copies = chosen_from 0 given_lines used given

  copies_so : EachBehind IsOpenedSo [] copies
  copies_so = each_chosen IsOpenedSo given_lines [] used given (λ k g marked at. (λ step kind. absurd (let clash : true ≡ false = step in cc), tt))

  copy_at : (k : ℕ) (g : GivenEntry) → slice_get used k ≡ Some true → slice_get given k ≡ Some g → IsFormAt copies (given_name k) g.form
  copy_at k g marked at =
      let line : ProofLine = record { name = given_name k; form = g.form; source = Given g.name } in
      let same : k ≡ 0 + k = omega arith in
      (line, has_given given_lines 0 used given k g line marked at (subst (λ (n : ℕ). Has (given_lines n g) line) same (0, refl)), refl, refl)

  -- ---- lines with new functions

  abbrev skolems_by : List Bool → List Part → List ProofLine
  skolems_by marks parts = chosen_from 0 (skolem_lines plan.numbers.firsts) marks parts

  abbrev skolems : List ProofLine
  skolems = skolems_by used (parts_of given)

  -- a part is one of a given formula
  part_from : (k : ℕ) (p : Part) → slice_get (parts_of given) k ≡ Some p → (g : GivenEntry) × (slice_get given k ≡ Some g) × (part_of g.form ≡ p)
  part_from k p at = image_from (λ (g : GivenEntry). part_of g.form) given p k at

  only_one : (b : Bool) (l line : ProofLine) (n : ℕ) → slice_get (if b then line ∷ [] else []) n ≡ Some l → l ≡ line
  only_one true l line zero e = cc
  only_one true l line (suc n) e = cc
  only_one false l line n e = cc

  given_lacks : (n : ℕ) → length v.symbols ≤ n → (k : ℕ) (g : GivenEntry) → slice_get given k ≡ Some g → occurs_in n g.form ≡ false
  given_lacks n behind k g at = stays_inside v n behind g.form (raised v [] 1000000000 2147483647 g.form (omega arith) (ready_at k g at))

  copy_lacks : (n : ℕ) → length v.symbols ≤ n → (l : ProofLine) → Has copies l → occurs_in n l.form ≡ false
  copy_lacks n behind l has =
      let by = given_by given_lines 0 used given l has in
      let copy : ProofLine = record { name = given_name (0 + by.at); form = by.from.form; source = Given by.from.name } in
      let same : l ≡ copy = only_one true l copy by.given.0 by.given.1 in
      ap (λ (x : ProofLine). occurs_in n x.form) same ∙ given_lacks n behind by.at by.from by.there

  -- an earlier line with new functions lacks those of part q
  earlier_lacks : (q n : ℕ) → q < length given → first q ≤ n → length v.symbols ≤ n → (l : ProofLine) → Has (skolems_by (take q used) (take q (parts_of given))) l → occurs_in n l.form ≡ false
  earlier_lacks q n inside behind past l has =
      let by = given_by (skolem_lines plan.numbers.firsts) 0 (take q used) (take q (parts_of given)) l has in
      let marked = taken_at q used by.at true by.marked in
      let there = taken_at q (parts_of given) by.at by.from by.there in
      let own = part_from by.at by.from there.1 in
      let same : l ≡ skolem_line plan.numbers.firsts (0 + by.at) by.from = only_one (has_some by.from.existentials) l (skolem_line plan.numbers.firsts (0 + by.at) by.from) by.given.0 by.given.1 in
      let number_is : 0 + by.at ≡ by.at = omega arith in
      let form : l.form ≡ skolemized (norm_of true own.0.form) (first by.at) =
      ap (λ (x : ProofLine). x.form) same ∙ ap (λ (m : ℕ). skolemized by.from.norm (get_or plan.numbers.firsts m 0)) number_is ∙ ap (λ (p : Part). skolemized p.norm (first by.at)) (sym own.2)
      in
      let rise = firsts_rise given used (length v.symbols) by.at q own.0 marked.0 long marked.1 own.1 inside in
      ap (occurs_in n) form
      ∙ skolem_lacks v given used prefix by.at own.0 (ready_at by.at own.0 own.1) marked.1 own.1 n (omega (arith, rise, behind)) (norm_lacks v given used prefix own.0 (ready_at by.at own.0 own.1) (small_at by.at own.0 own.1) n past)

  abbrev before_part : ℕ → List ProofLine
  before_part q = copies ++ skolems_by (take q used) (take q (parts_of given))

  new_before : (q : ℕ) → q < length given → (n : ℕ) → first q ≤ n → length v.symbols ≤ n → Each (λ (a : Form). occurs_in n a ≡ false) (forms_given given ++ forms_in (before_part q))
  new_before q inside n behind past =
      All-from_recursion (λ (a : Form). occurs_in n a ≡ false) (forms_given given ++ forms_in (before_part q))
      (each_has (λ (a : Form). occurs_in n a ≡ false) (forms_given given ++ forms_in (before_part q)) (λ a has. elim (has_split (forms_given given) (forms_in (before_part q)) a has.0 has.1) [
        | inl here ↦
            let own = image_from (λ (g : GivenEntry). g.form) given a here.0 here.1 in
            ap (occurs_in n) (sym own.2) ∙ given_lacks n past here.0 own.0 own.1
        | inr here ↦
            let own = image_from (λ (l : ProofLine). l.form) (before_part q) a here.0 here.1 in
            ap (occurs_in n) (sym own.2)
            ∙ elim (has_split copies (skolems_by (take q used) (take q (parts_of given))) own.0 here.0 own.1) [
              | inl copy ↦ copy_lacks n past own.0 copy
              | inr skolem ↦ earlier_lacks q n inside behind past own.0 skolem
            ]
      ]))

  skolem_so : (q : ℕ) (p : Part) → slice_get used q ≡ Some true → slice_get (parts_of given) q ≡ Some p → has_some p.existentials ≡ true → IsOpened w given (before_part q) (skolemized p.norm (first q)) (Skolemized (given_name q))
  skolem_so q p marked at some =
      let own = part_from q p at in
      let inside = slice_get_within given q own.0 own.1 in
      let there = copy_at q own.0 marked own.1 in
      let least = firsts_least given used (length v.symbols) q long inside in
      let positive : 0 < length (ex_of own.0) = ltb-true 0 (length (ex_of own.0)) (ap (λ (x : Part). has_some x.existentials) own.2 ∙ some) in
      let step : IsSkolemStep (so_far w (forms_given given) (forms_in (before_part q))) (own.0.form ∷ []) (skolemized (norm_of true own.0.form) (first q)) = (
        0,
        (
          own.0.form,
          norm_of true own.0.form,
          skolemized (norm_of true own.0.form) (first q),
          uses_from (first q) (ex_of own.0),
          refl,
          skolem_step v given used prefix q own.0 (ready_at q own.0 own.1) marked own.1 (small_at q own.0 own.1) (forms_given given ++ forms_in (before_part q)) positive (λ n behind. new_before q inside n behind (omega (arith, least, behind))),
        ),
      ) in
      record {
        word = given_name q;
        named = λ lines. refl;
        parent = own.0.form;
        there = (there.0, has_before copies (skolems_by (take q used) (take q (parts_of given))) there.0 there.1, there.2, there.3);
        applies =
            subst (λ (x : Part). OneApplies rules (so_far w (forms_given given) (forms_in (before_part q))) (without_numbers (own.0.form ∷ [])) (skolemized x.norm (first q))) own.2
            (inr (inr (inr (inr (inr (inr (inr (inr (inl step)))))))));
      }

  skolems_so : EachBehind IsOpenedSo copies skolems
  skolems_so =
      each_chosen IsOpenedSo (skolem_lines plan.numbers.firsts) copies used (parts_of given) (λ q p marked at.
      each_if IsOpenedSo (before_part q) (has_some p.existentials) (skolem_line plan.numbers.firsts q p ∷ []) (λ some. (λ step kind. skolem_so q p marked at some, tt)))

  skolem_at : (q : ℕ) (g : GivenEntry) → slice_get used q ≡ Some true → slice_get given q ≡ Some g → has_some (ex_of g) ≡ true → IsFormAt skolems (skolem_name q) (skolemized (norm_of true g.form) (first q))
  skolem_at q g marked at some =
      let line = skolem_line plan.numbers.firsts q (part_of g.form) in
      let same : q ≡ 0 + q = omega arith in
      let part : slice_get (parts_of given) q ≡ Some (part_of g.form) = slice_get-map (λ (h : GivenEntry). part_of h.form) given q ∙ ap (option_map (λ (h : GivenEntry). part_of h.form)) at in
      let here : Has (skolem_lines plan.numbers.firsts q (part_of g.form)) line = subst (λ (b : Bool). Has (if b then line ∷ [] else []) line) (sym some) (0, refl) in
      (line, has_given (skolem_lines plan.numbers.firsts) 0 used (parts_of given) q (part_of g.form) line marked part (subst (λ (n : ℕ). Has (skolem_lines plan.numbers.firsts n (part_of g.form)) line) same here), refl, refl)

  -- ---- clauses

  abbrev opened : List ProofLine
  opened = copies ++ skolems

  part_named : (q : ℕ) (g : GivenEntry) → slice_get given q ≡ Some g → opened_name (parts_of given) q ≡ (if has_some (ex_of g) then skolem_name q else given_name q)
  part_named q g at =
      ap (λ (o : Option Part). if has_functions o then skolem_name q else given_name q) (slice_get-map (λ (h : GivenEntry). part_of h.form) given q ∙ ap (option_map (λ (h : GivenEntry). part_of h.form)) at)

  opened_at : (q : ℕ) (g : GivenEntry) → slice_get used q ≡ Some true → slice_get given q ≡ Some g → IsFormAt opened (opened_name (parts_of given) q) (opened_form v given used prefix q g)
  opened_at q g marked at = subst (λ (word : Text). IsFormAt opened word (opened_form v given used prefix q g)) (sym (part_named q g at)) (by (has_some (ex_of g)) refl)
    where
      by : (b : Bool) → has_some (ex_of g) ≡ b → IsFormAt opened (if b then skolem_name q else given_name q) (if b then skolemized (norm_of true g.form) (first q) else g.form)
      by true some = let own = skolem_at q g marked at some in (own.0, has_behind copies skolems own.0 own.1, own.2, own.3)
      by false none = let own = copy_at q g marked at in (own.0, has_before copies skolems own.0 own.1, own.2, own.3)

  abbrev renumber : ℕ → ℕ
  renumber = number v given used prefix

  -- a clause of a part follows from its line
  part_so : (earlier : List ProofLine) → ((l : ProofLine) → Has opened l → Has earlier l) → (owner : ℕ) (c : Clause) → IsOfPart given used (length v.symbols) (length v.symbols) owner 0 c → slice_get used owner ≡ Some true → HasItsVariables c
      → IsOpened w given earlier (printed renumber c) (ClauseOf (opened_name (parts_of given) owner))
  part_so earlier keep owner c p marked own =
      let same : owner ≡ p.part = p.owned ∙ (omega arith) in
      let taken : slice_get used p.part ≡ Some true = ap (slice_get used) (sym same) ∙ marked in
      let line = opened_at p.part p.entry taken p.there in
      record {
        word = opened_name (parts_of given) owner;
        named = λ lines. refl;
        parent = opened_form v given used prefix p.part p.entry;
        there = (line.0, keep line.0 line.1, line.2 ∙ ap (opened_name (parts_of given)) (sym same), line.3);
        applies = inr (inl (part_covered v given used prefix w owner c p (ready_at p.part p.entry p.there) (small_at p.part p.entry p.there) long taken own));
      }

  -- so does an input
  input_so : (earlier : List ProofLine) → ((l : ProofLine) → Has opened l → Has earlier l) → (i : ℕ) (c : Clause) → slice_get (clauses_of_given v given) i ≡ Some c → slice_get used (get_or (owners_in r) i 0) ≡ Some true → HasItsVariables c
      → IsOpened w given earlier (printed renumber c) (source_of_input plan i)
  input_so earlier keep i c at marked own =
      part_so earlier keep (get_or (owners_in r) i 0) c (part_of_input given used (length v.symbols) (length v.symbols) 0 i c long (ap (λ (cs : List Clause). slice_get cs i) (sym (clauses_are v given)) ∙ at)) marked own

  abbrev inputs : List ProofLine
  inputs = chosen_from 0 (input_lines plan) (printed_in r needed) (clauses_of_given v given)

  inputs_so : EachBehind IsOpenedSo opened inputs
  inputs_so =
      each_chosen IsOpenedSo (input_lines plan) opened (printed_in r needed) (clauses_of_given v given) (λ i c marked at.
      let rest : List ProofLine = chosen_from 0 (input_lines plan) (take i (printed_in r needed)) (take i (clauses_of_given v given)) in (
        λ step kind.
            input_so (opened ++ rest) (has_before opened rest) i c at
            (owner_used r needed sound i (slice_get_within (clauses_of_given v given) i c at) marked).1 (sorted_own (with_functions v given) c (input_good v given limit d ready f i c at marked).sorted),
        tt,
      ))

  abbrev members : List ProofLine
  members = chosen_from 0 (inferred_lines plan) needed f.members

  member_so : (earlier : List ProofLine) (j : ℕ) (m : Member) (o : Origin) → EachBehind IsOpenedSo earlier (lines_of_member plan j m.clause o)
  member_so earlier j m (origin.Input i) = tt
  member_so earlier j m (origin.Inferred a b images) = (λ step kind. absurd (let clash : true ≡ false = kind in cc), tt)

  members_so : EachBehind IsOpenedSo (opened ++ inputs) members
  members_so = each_chosen IsOpenedSo (inferred_lines plan) (opened ++ inputs) needed f.members (λ j m marked at. member_so ((opened ++ inputs) ++ chosen_from 0 (inferred_lines plan) (take j needed) (take j f.members)) j m m.origin)

  last_so : (o : Origin) → f.last.origin ≡ o → Makes (with_functions v given) (clauses_of_given v given) (clauses_of f.members) f.last.clause o → IsOpenedSo ((opened ++ inputs) ++ members) (last_line plan o)
  last_so (origin.Input i) is made step kind =
      let empty : f.last.clause.lits ≡ [] = f.refuted.is_empty in
      subst (λ (a : Form). IsOpened w given ((opened ++ inputs) ++ members) a (source_of_input plan i)) (empty_printed renumber f.last.clause empty)
      (input_so ((opened ++ inputs) ++ members) (λ l has. has_before (opened ++ inputs) members l (has_before opened inputs l has)) i f.last.clause made
      (last_used r needed sound i is (slice_get_within (clauses_of_given v given) i f.last.clause made)).1 (empty_own f.last.clause empty))
  last_so (origin.Inferred a b images) is made step kind = absurd (let clash : true ≡ false = kind in cc)

  others_so : EachBehind IsOpenedSo [] (lines_of r plan)
  others_so =
      each_append IsOpenedSo [] ((opened ++ inputs) ++ members) (last_line plan f.last.origin ∷ [])
      (each_append IsOpenedSo [] (opened ++ inputs) members (each_append IsOpenedSo [] opened inputs (each_append IsOpenedSo [] copies skolems copies_so skolems_so) inputs_so) members_so)
      (last_so f.last.origin refl f.last_made, tt)

  pub others_apply : StepsOfKindApply false (vocabulary_of v d) given d.lines
  others_apply k line at step kind =
      let all = subst (EachBehind IsOpenedSo []) (sym (lines_are v given limit d f)) others_so in
      let own = each_at IsOpenedSo d.lines k line all at step kind in
      let parent : source_forms given (take k d.lines) line.source ≡ own.parent ∷ [] =
      own.named (take k d.lines) ∙ named_form given d.lines (found_linked v given limit d f few less) k own.word own.there.1.0 own.there.0 own.there.1.1 own.there.2 ∙ ap (λ (a : Form). a ∷ []) own.there.3
      in
      subst (λ (u : Vocabulary). OneApplies rules (so_far u (forms_given given) (forms_in (take k d.lines))) (without_numbers (source_forms given (take k d.lines) line.source)) line.form) whole_is
      (subst (λ (fs : List Form). OneApplies rules (so_far w (forms_given given) (forms_in (take k d.lines))) (without_numbers fs) line.form) (sym parent) own.applies)
