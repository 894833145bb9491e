-- The entries of a propositional step.
use Rattle.std.specs.Prelude.{ℕ, zero, suc, ◌≡◌, ◌+◌, ◌-◌, ◌<◌, ◌≤◌, ◌⊎◌, nat_lt, Bool, true, false, List, [], ◌∷◌, ◌++◌, length, map, flat_map, Option, Some, None, slice_get, get_or, refl}
use Rattle.std.specs.List.{All as Each, AllByRecursion, Contains, list_any}
use Rattle.std.proofs.Common.{ap, sym, subst, ◌∙◌, arith, inl, inr, append_assoc, append-nil}
use Rattle.std.proofs.lemmas.Bool.Decides.{nat_tests}
use Rattle.std.proofs.lemmas.List.{length-append}
use Rattle.std.specs.Option.{option_map}
use Rattle.std.proofs.lemmas.List.Elements.{All-append, All-from_recursion, All-weaker, Contains-append_cases, Contains-append_left, Contains-append_right, Contains-push_cases, recursion_from_All}
use Rattle.std.proofs.lemmas.Option.{slice_get-get_or, slice_get-map, slice_get_within}
use Rattle.fof_terms.specs.Occurs.{occurs_in}
use Rattle.fof_terms.proofs.OccursFacts.{occurs_in-And, occurs_in-Imp, occurs_in-Not, occurs_in-Or}
use Rattle.fof_terms.specs.Sorts.{Sorted}
use Rattle.fof_terms.specs.Vocabulary.{Vocabulary}
use Rattle.fof_terms.specs.declared.form.Form.{Form, Imp, Not, Or}
use Rattle.fof_terms.proofs.Scoped.{member_of, raised, sorted_of_not}
use Rattle.clause_form.specs.ClauseView.{form_of_atom, form_of_lit}
use Rattle.clause_form.specs.Clauses.{clauses_in}
use Rattle.clause_form.specs.Norm.{norm_of, signed}
use Rattle.clause_form.specs.Paths.{forms_of}
use Rattle.clause_form.specs.declared.clause.AtomOf.{AtomOf}
use Rattle.clause_form.specs.declared.clause.Clause.{Clause}
use Rattle.clause_form.specs.declared.clause.Lit.{Lit}
use Rattle.clause_form.specs.declared.path.Parent.{Parent}
use Rattle.clause_learning.proofs.Members.{got_in, head_in, nothing_in, place_of, some_same, tail_in}
use Rattle.clause_proofs.specs.Bodies.{body_of}
use Rattle.clause_rules.proofs.ListPlaces.{before}
use Rattle.clause_rules.specs.Steps.{IsReady}
use Rattle.chain_proofs.specs.Chains.{AreOver}
use Rattle.chain_proofs.specs.Facts.{all_false, denied_form, not_all_false}
use Rattle.derive_kit.specs.Derived.{Adds, AreOfTheory, HasCited, IsDerivedFrom, SpeakOf, numbers_of, with_formulas}
use Rattle.derive_kit.proofs.DerivedFacts.{has_its_own}
use Rattle.input_proofs.specs.Formulas.{formula_of, has_or}
use Rattle.input_proofs.specs.Functions.{SpeakOfKnown, searched_clauses, searched_vocabulary, with_functions}
use Rattle.input_proofs.specs.Opened.{AreOpened}
use Rattle.input_proofs.specs.declared.opening.OpenedInputs.{OpenedInputs}
use Rattle.input_proofs.proofs.FunctionsFacts.{sorted_lacks}
use Rattle.kernel.specs.Entries.{Admits}
use Rattle.kernel.specs.Statements.{IsRefuted as EndsInFalsehood, Statements}
use Rattle.kernel.specs.declared.entry.Entry.{Entry}
use Rattle.kernel.specs.declared.entry.Entry.TheVariants.{Lemma}
use Rattle.kernel.specs.declared.proof.Proof.{Proof}
use Rattle.kernel.proofs.EntryLaws.{admits_append}
use Rattle.negated_lemmas.specs.Negated.{ConcludeLine, ShowFalsehood, implied, lemmas_by, with_denied}
use Rattle.sat_step.specs.Propositional.{IsPropositionalStep, is_propositional, propositional_clauses, step_norms}
use Rattle.sat_step.proofs.Renaming.{in_map, map_in}
use Rattle.sat_step.proofs.Truth.{norm_open}
use Rattle.search_proofs.specs.code.Facts.{AreShown, IsOf, Setting, StandsAt, first_fact}
use Rattle.search_proofs.specs.code.Members.{ShowFalsehoodLast}
use Rattle.search_proofs.specs.Placed.{numbers_from, there}
use Rattle.search_proofs.proofs.InTurn.{last_place, told_count}
use Rattle.search_proofs.proofs.Inputs.{input_facts, input_stands, inputs_count, inputs_shown, numbers_count, setting_of, wanted_forms, wanted_speak}
use Rattle.search_proofs.proofs.Symbols.{clause_without}
use Rattle.skolem_fresh.proofs.Entering.{both_false}
use Rattle.skolem_fresh.specs.Entered.{Enters, formulas_told}
use Rattle.skolem_fresh.specs.Told.{AddedFrom}
use Rattle.superpose.specs.Absent.{AreWithout, stands_in_atom}
use Rattle.sat_entries.specs.code.Inputs.{WantedHave, WantedStand}
use Rattle.sat_entries.specs.code.Learning.{AreSorted, IsStated}
use Rattle.sat_entries.specs.code.Naming.{IsMarked}
use Rattle.sat_entries.specs.code.Refuting.{IsLater, LeadToFalsehood, NamedAreMarked}
use Rattle.sat_step.specs.declared.decision.Learned.{Learned}
use Rattle.sat_entries.proofs.Admitted.{ArePlain, added_sorted, plain_choices, plain_lemmas}
use Rattle.sat_entries.proofs.InputFacts.{body_sorted}
use Rattle.sat_entries.proofs.LearningFacts.{all_sorted}
use Rattle.sat_entries.proofs.Lacking.{atom_lacks, not_all_lacks}
use Rattle.sat_entries.proofs.PlainSteps.{clauses_are, same_vocabulary}

-- clauses of propositional norms have no variables
abbrev ArePropositional : List Form → Type 0
ArePropositional norms = (a : Form) → Contains norms a → (g : Bool) × (b : Form) × (a ≡ norm_of g b) × (is_propositional a ≡ true)

each_append : {X : Type 0} (P : X → Type 0) (xs ys : List X) → AllByRecursion P xs → AllByRecursion P ys → AllByRecursion P (xs ++ ys)
each_append P [] ys h g = g
each_append P (x ∷ xs) ys h g = (h.0, each_append P xs ys h.1 g)

all_open : (norms : List Form) → ArePropositional norms → AllByRecursion (λ (c : Clause). c.sorts ≡ []) (flat_map clauses_in norms)
all_open [] h = tt
all_open (a ∷ norms) h =
    let own = h a (head_in a norms) in
    let open_own : AllByRecursion (λ (c : Clause). c.sorts ≡ []) (clauses_in (norm_of own.0 own.1)) = norm_open (λ x. true) own.1 own.0 (subst (λ (b : Form). is_propositional b ≡ true) own.2 own.3) in
    each_append (λ (c : Clause). c.sorts ≡ []) (clauses_in a) (flat_map clauses_in norms) (subst (λ (b : Form). AllByRecursion (λ (c : Clause). c.sorts ≡ []) (clauses_in b)) (sym own.2) open_own)
    (all_open norms (λ b at. h b (tail_in a norms b at)))

norms_propositional : (parents : List Form) (line : Form) → IsPropositionalStep parents line → ArePropositional (step_norms parents line)
norms_propositional parents line step a at = by_place (Contains-append_cases (map (norm_of true) parents) (norm_of false line ∷ []) a at)
  where
    by_place : Contains (map (norm_of true) parents) a ⊎ Contains (norm_of false line ∷ []) a → (g : Bool) × (b : Form) × (a ≡ norm_of g b) × (is_propositional a ≡ true)
    by_place (inl front) = let one = in_map (norm_of true) parents a front in (true, one.0, sym one.2, step a at)
    by_place (inr last) = elim (Contains-push_cases [] (norm_of false line) a last) [
      | inl none ↦ absurd (let lt = none.1 in omega arith)
      | inr same ↦ (false, line, sym same, step a at)
    ]

pub clauses_open : (parents : List Form) (line : Form) → IsPropositionalStep parents line → AllByRecursion (λ (c : Clause). c.sorts ≡ []) (propositional_clauses parents line)
clauses_open parents line step = all_open (step_norms parents line) (norms_propositional parents line step)

-- a clause without variables is its body
open_formula : (c : Clause) → c.sorts ≡ [] → formula_of c ≡ body_of (has_or c.lits) c.lits
open_formula c e = ap (λ (sorts : List ℕ). formula_of (record { sorts = sorts; lits = c.lits })) e

-- atoms of well-sorted literals
atom_of_signed : (v : Vocabulary) (g : Bool) (a : Form) → Sorted v [] (signed g a) → Sorted v [] a
atom_of_signed v true a h = h
atom_of_signed v false a h = sorted_of_not v [] 2147483647 a h

each_atom : (v : Vocabulary) (lits : List Lit) → AllByRecursion (Sorted v []) (map form_of_lit lits) → (x : Lit) → Contains lits x → Sorted v [] (form_of_atom x.atom)
each_atom v lits all x at =
    let spot = place_of lits x at in
    atom_of_signed v x.positive (form_of_atom x.atom) (member_of (Sorted v []) (map form_of_lit lits) spot.0 (form_of_lit x) all (slice_get-map form_of_lit lits spot.0 ∙ ap (option_map form_of_lit) spot.1))

-- the atoms of the wanted clauses
pub wanted_atoms : List Bool → List Clause → List AtomOf
wanted_atoms [] clauses = []
wanted_atoms (w ∷ wanted) [] = []
wanted_atoms (true ∷ wanted) (c ∷ clauses) = map (λ (l : Lit). l.atom) c.lits ++ wanted_atoms wanted clauses
wanted_atoms (false ∷ wanted) (c ∷ clauses) = wanted_atoms wanted clauses

wanted_has : (wanted : List Bool) (clauses : List Clause) (k : ℕ) (c : Clause) (x : Lit) → IsMarked wanted k → slice_get clauses k ≡ Some c → Contains c.lits x → Contains (wanted_atoms wanted clauses) x.atom
unfolding wanted_atoms
wanted_has [] clauses k c x marked at there = absurd (let never : None ≡ Some true = marked in cc)
wanted_has (w ∷ wanted) [] k c x marked at there = absurd (let never : None ≡ Some c = at in cc)
wanted_has (true ∷ wanted) (d ∷ clauses) zero c x marked at there =
    let same : d ≡ c = some_same at in
    Contains-append_left (map (λ (l : Lit). l.atom) d.lits) (wanted_atoms wanted clauses) x.atom (map_in (λ (l : Lit). l.atom) d.lits x (subst (λ (e : Clause). Contains e.lits x) (sym same) there))
wanted_has (false ∷ wanted) (d ∷ clauses) zero c x marked at there = absurd (let two : Some false ≡ Some true = marked in cc)
wanted_has (true ∷ wanted) (d ∷ clauses) (suc k) c x marked at there =
    Contains-append_right (map (λ (l : Lit). l.atom) d.lits) (wanted_atoms wanted clauses) x.atom (wanted_has wanted clauses k c x marked at there)
wanted_has (false ∷ wanted) (d ∷ clauses) (suc k) c x marked at there = wanted_has wanted clauses k c x marked at there

abbrev IsWantedAtom : List Bool → List Clause → AtomOf → Type 0
IsWantedAtom wanted clauses a = (k : ℕ) × (c : Clause) × (x : Lit) × IsMarked wanted k × (slice_get clauses k ≡ Some c) × Contains c.lits x × (x.atom ≡ a)

wanted_found : (wanted : List Bool) (clauses : List Clause) (a : AtomOf) → Contains (wanted_atoms wanted clauses) a → IsWantedAtom wanted clauses a
unfolding wanted_atoms
wanted_found [] clauses a there = absurd (nothing_in a there)
wanted_found (w ∷ wanted) [] a there = absurd (nothing_in a there)
wanted_found (true ∷ wanted) (c ∷ clauses) a there =
    elim (Contains-append_cases (map (λ (l : Lit). l.atom) c.lits) (wanted_atoms wanted clauses) a there) [
      | inl front ↦ let one = in_map (λ (l : Lit). l.atom) c.lits a front in (0, c, one.0, refl, refl, one.1, one.2)
      | inr rest ↦ let found = wanted_found wanted clauses a rest in (suc found.0, found.1, found.2, found.3, found.4, found.5, found.6)
    ]
wanted_found (false ∷ wanted) (c ∷ clauses) a there = let found = wanted_found wanted clauses a there in (suc found.0, found.1, found.2, found.3, found.4, found.5, found.6)

atoms_lack : (wanted : List Bool) (clauses : List Clause) (k : ℕ) → ((c : Clause) → Contains clauses c → AreWithout k c.lits) → (a : AtomOf) → Contains (wanted_atoms wanted clauses) a → stands_in_atom k a ≡ false
atoms_lack wanted clauses k without a there =
    let found = wanted_found wanted clauses a there in
    subst (λ (b : AtomOf). stands_in_atom k b ≡ false) found.6 (atom_lacks k found.1.lits (without found.1 (got_in clauses found.0 found.1 found.4)) found.2 found.5)

-- a list that ends in falsehood
refuted_last : (t : Statements) (line : Form) (facts rest : List Form) → facts ≡ rest ++ Or [] ∷ [] → EndsInFalsehood (with_denied t line facts)
refuted_last t line facts rest e =
    let whole : t.formulas ++ (Not line ∷ facts) ≡ (t.formulas ++ (Not line ∷ rest)) ++ Or [] ∷ [] = ap (λ (fs : List Form). t.formulas ++ (Not line ∷ fs)) e ∙ sym (append_assoc t.formulas (Not line ∷ rest) (Or [] ∷ [])) in
    let front = t.formulas ++ (Not line ∷ rest) in
    let long = ap (λ (fs : List Form). length fs) whole in
    let many = length-append front (Or [] ∷ []) in
    let place : length front ≡ length (t.formulas ++ (Not line ∷ facts)) - 1 = omega arith in
    subst (λ i. slice_get (t.formulas ++ (Not line ∷ facts)) i ≡ Some (Or [])) place (ap (λ (fs : List Form). slice_get fs (length front)) whole ∙ last_place front (Or []))

-- the parents of one theory are those of the other
cited_parents : (t u : Statements) (parents : List Parent) → AllByRecursion (λ (p : Parent). slice_get t.formulas p.number ≡ Some p.form) parents → AllByRecursion (λ n. slice_get u.formulas n ≡ slice_get t.formulas n) (numbers_of parents)
    → AllByRecursion (λ (p : Parent). slice_get u.formulas p.number ≡ Some p.form) parents
cited_parents t u [] h g = tt
cited_parents t u (p ∷ parents) h g = (g.0 ∙ h.0, cited_parents t u parents h.1 g.1)

parents_of : (t u : Statements) (parents : List Parent) → AreOfTheory t parents → HasCited t (numbers_of parents) u → AreOfTheory u parents
parents_of t u parents h c =
    All-from_recursion (λ (p : Parent). slice_get u.formulas p.number ≡ Some p.form) parents
    (cited_parents t u parents (recursion_from_All (λ (p : Parent). slice_get t.formulas p.number ≡ Some p.form) parents h) (recursion_from_All (λ n. slice_get u.formulas n ≡ slice_get t.formulas n) (numbers_of parents) c.formulas))

implied_lack : (k : ℕ) (line : Form) (facts : List Form) → occurs_in k line ≡ false → AllByRecursion (λ (a : Form). occurs_in k a ≡ false) facts → AllByRecursion (λ (a : Form). occurs_in k a ≡ false) (map (Imp (Not line)) facts)
implied_lack k line [] off h = tt
implied_lack k line (a ∷ facts) off h = (rw (occurs_in-Imp, occurs_in-Not, off) h.0, implied_lack k line facts off h.1)

each_of : (P Q : Form → Type 0) → ((a : Form) → P a → Q a) → (as_ : List Form) → AllByRecursion P as_ → AllByRecursion Q as_
each_of P Q f [] h = tt
each_of P Q f (a ∷ as_) h = (f a h.0, each_of P Q f as_ h.1)

front_of : (P : Form → Type 0) (xs ys : List Form) → AllByRecursion P (xs ++ ys) → AllByRecursion P xs
front_of P [] ys h = tt
front_of P (x ∷ xs) ys h = (h.0, front_of P xs ys h.1)

module _ (t : Statements) (parents : List Parent) (line : Form) (wanted : List Bool) (opened : OpenedInputs) (o : AreOpened t parents line wanted opened) (of_theory : AreOfTheory t parents) (ready : IsReady t.vocabulary line)
    (step : IsPropositionalStep (forms_of parents) line) where
  abbrev grown : Vocabulary
  grown = searched_vocabulary t.vocabulary parents line

  is_grown : grown ≡ t.vocabulary
  is_grown = same_vocabulary t.vocabulary parents line step

  abbrev clauses : List Clause
  clauses = searched_clauses t.vocabulary parents line

  abbrev told : List Form
  told = formulas_told grown opened.choices

  abbrev setting : Setting
  setting = setting_of t parents line wanted opened o

  -- a theory over the same symbols
  abbrev over : List Form → Statements
  over fs = record { vocabulary = t.vocabulary; formulas = fs }

  abbrev with_told : List Form → Statements
  with_told fs = record { vocabulary = grown; formulas = fs ++ told }

  closed_line : Sorted grown [] line
  closed_line = subst (λ (v : Vocabulary). Sorted v [] line) (sym is_grown) (raised t.vocabulary [] 1000000000 2147483647 line (omega arith) ready)

  -- the atoms of the wanted clauses
  abbrev atoms : List AtomOf
  atoms = wanted_atoms wanted clauses

  module _ (fs : List Form) (c : HasCited t (numbers_of parents) (over fs)) where
    entered : Enters (with_functions (over fs) parents line) opened.choices
    entered = o.enter (over fs) c

    added : AddedFrom (with_told fs) (length t.formulas) opened.choices
    added = entered.stands (with_told fs) refl fs [] (ap (λ (gs : List Form). fs ++ gs) (sym (append-nil told))) (length t.formulas) c.count

    is_of : IsOf setting (with_told fs)
    is_of = record {
      vocabulary = refl;
      parents = All-weaker (λ (p : Parent). slice_get fs p.number ≡ Some p.form) (λ (p : Parent). slice_get (fs ++ told) p.number ≡ Some p.form) (λ p at. before fs told p.number p.form at) parents (parents_of t (over fs) parents of_theory c);
      added = added;
      count = let long = length-append fs told in let many = told_count (with_told fs) (length t.formulas) opened.choices added in let same = c.count in omega arith;
    }

    module _ (proofs : List Proof) (f : ShowFalsehoodLast setting (IsLater atoms) proofs (input_facts t parents line wanted opened o)) (lemmas : List Entry) (concludes : ConcludeLine line (length t.formulas + length opened.choices) proofs lemmas) where
      abbrev first : List Form
      first = told ++ implied line f.facts

      shown : ShowFalsehood (with_told fs) line proofs f.facts
      shown = record { legal = f.shown.shown.legal (with_told fs) is_of; refuted = refuted_last (with_told fs) line f.facts f.rest f.ends }

      legal : Admits (over fs) (opened.choices ++ lemmas) (with_formulas (over fs) (first ++ line ∷ []))
      legal =
          let with_them = with_functions (over fs) parents line in
          let ending = implied line f.facts ++ line ∷ [] in
          let final = with_formulas (with_told fs) ending in
          let ends = concludes.adds (with_told fs) f.facts is_of.count closed_line shown in
          let all = admits_append with_them (with_told fs) final opened.choices lemmas entered.admits ends in
          let same : (fs ++ told) ++ ending ≡ fs ++ (first ++ line ∷ []) = append_assoc fs told ending ∙ ap (λ (gs : List Form). fs ++ gs) (sym (append_assoc told (implied line f.facts) (line ∷ []))) in
          subst (λ (v : Vocabulary). Admits (record { vocabulary = v; formulas = fs }) (opened.choices ++ lemmas) (record { vocabulary = v; formulas = fs ++ (first ++ line ∷ []) })) is_grown
          (subst (λ (gs : List Form). Admits with_them (opened.choices ++ lemmas) (record { vocabulary = grown; formulas = gs })) same all)

      first_sorted : AllByRecursion (Sorted t.vocabulary []) first
      first_sorted =
          let plain = plain_choices opened.choices lemmas o.choose (subst (λ (es : List Entry). ArePlain es) (sym concludes.is) (plain_lemmas concludes.lemmas (Lemma concludes.last ∷ []) tt)) in
          front_of (Sorted t.vocabulary []) first (line ∷ []) (added_sorted (over fs) (opened.choices ++ lemmas) (first ++ line ∷ []) plain legal)

      known : SpeakOfKnown (over fs) line first
      known k lt fresh off =
          let P = λ (a : Form). occurs_in k a ≡ false in
          let inputs = recursion_from_All P (map formula_of clauses) (o.clauses_speak (over fs) c k lt fresh off) in
          let forms = recursion_from_All P o.forms (o.forms_speak (over fs) c k lt fresh off) in
          let front = each_append P o.forms (wanted_forms wanted clauses) forms (wanted_speak P wanted clauses inputs) in
          let without = λ (d : Clause) (at : Contains clauses d). (let spot = place_of clauses d at in clause_without k d (member_of P (map formula_of clauses) spot.0 (formula_of d) inputs (slice_get-map formula_of clauses spot.0 ∙ ap (option_map formula_of) spot.1))) in
          let later = each_of (IsLater atoms) P (later_lacks k without) f.shown.more f.shown.each in
          let all = each_append P (input_facts t parents line wanted opened o) f.shown.more front later in
          let facts : AllByRecursion P f.facts = subst (AllByRecursion P) (sym f.shown.is) all in
          let denied : P (Not line) = occurs_in-Not k line ∙ off in
          All-append P told (implied line f.facts) (o.speak (over fs) c k lt fresh off)
          (All-from_recursion P (implied line f.facts) (implied_lack k line (Not line ∷ f.facts) off (denied, facts)))
        where
          later_lacks : (j : ℕ) → ((d : Clause) → Contains clauses d → AreWithout j d.lits) → (a : Form) → IsLater atoms a → occurs_in j a ≡ false
          later_lacks j without a (inl stated) = ap (occurs_in j) stated.2 ∙ not_all_lacks j stated.0 (λ x at. atoms_lack wanted clauses j without x.atom (stated.1 x at))
          later_lacks j without a (inr e) = ap (occurs_in j) e ∙ occurs_in-Or j []

      speak : SpeakOf (over fs) line first
      speak k fresh off = by (nat_lt k (length t.vocabulary.symbols)) refl
        where
          by : (b : Bool) → nat_lt k (length t.vocabulary.symbols) ≡ b → Each (λ a. occurs_in k a ≡ false) first
          by true e = known k (grind (arith, nat_tests)) fresh off
          by false e =
              let beyond : length t.vocabulary.symbols ≤ k = grind (arith, nat_tests) in
              All-from_recursion (λ a. occurs_in k a ≡ false) first (each_of (Sorted t.vocabulary []) (λ a. occurs_in k a ≡ false) (λ a h. sorted_lacks t.vocabulary k beyond a [] h.fits) first first_sorted)

      adds : Adds (over fs) (opened.choices ++ lemmas) first line
      adds = record { legal = legal; speak = speak }

  base : HasCited t (numbers_of parents) (over t.formulas)
  base = has_its_own t (numbers_of parents)

  abbrev base_theory : Statements
  base_theory = with_told t.formulas

  is_base : IsOf setting base_theory
  is_base = is_of t.formulas base

  pub as_many_inputs : length clauses ≡ length opened.proofs
  as_many_inputs = inputs_count t parents line wanted opened o base_theory is_base

  abbrev facts : List Form
  facts = input_facts t parents line wanted opened o

  begun : AreShown setting (opened.facts ++ there opened.proofs) facts
  begun = inputs_shown t parents line wanted opened o base_theory is_base

  plain_facts : ArePlain (lemmas_by (opened.facts ++ there opened.proofs))
  plain_facts = subst ArePlain (append-nil (lemmas_by (opened.facts ++ there opened.proofs))) (plain_lemmas (opened.facts ++ there opened.proofs) [] tt)

  facts_sorted : AllByRecursion (Sorted grown []) facts
  facts_sorted =
      let denied = with_denied base_theory line [] in
      let same : with_denied base_theory line facts ≡ with_formulas denied facts = ap (λ (gs : List Form). record base_theory { formulas = gs }) (sym (append_assoc base_theory.formulas (Not line ∷ []) facts)) in
      added_sorted denied (lemmas_by (opened.facts ++ there opened.proofs)) facts plain_facts (subst (λ (u : Statements). Admits denied (lemmas_by (opened.facts ++ there opened.proofs)) u) same (begun.legal base_theory is_base))

  open_at : (k : ℕ) (d : Clause) → slice_get clauses k ≡ Some d → d.sorts ≡ []
  open_at k d at =
      member_of (λ (x : Clause). x.sorts ≡ []) clauses k d (subst (AllByRecursion (λ (x : Clause). x.sorts ≡ [])) (sym (clauses_are t.vocabulary parents line step)) (clauses_open (forms_of parents) line step)) at

  abbrev numbers : List ℕ
  numbers = numbers_from (first_fact setting + length opened.facts) opened.proofs

  stands : WantedStand setting facts clauses wanted numbers
  stands k n d marked at number =
      subst (StandsAt setting facts n) (open_formula d (open_at k d at)) (input_stands t parents line wanted opened o base_theory is_base k n d marked at number)

  have : WantedHave atoms clauses wanted
  have k d marked at x there_x = wanted_has wanted clauses k d x marked at there_x

  sorted_atoms : length numbers ≡ length clauses → AreSorted setting atoms
  sorted_atoms many a there_a =
      let found = wanted_found wanted clauses a there_a in
      let k = found.0 in
      let d = found.1 in
      let at = found.4 in
      let lt = slice_get_within clauses k d at in
      let number : slice_get numbers k ≡ Some (get_or numbers k 0) = slice_get-get_or numbers k 0 (omega arith) in
      let st = stands k (get_or numbers k 0) d found.3 at number in
      let body = member_of (Sorted grown []) facts st.place (body_of (has_or d.lits) d.lits) facts_sorted st.there in
      subst (λ (b : AtomOf). Sorted grown [] (form_of_atom b)) found.6 (each_atom grown d.lits (body_sorted base_theory d.lits (has_or d.lits) refl body) found.2 found.5)

  -- the entries
  pub derived : (log : List Learned) (start denied : ℕ) (proofs : List Proof) (lemmas entries : List Entry) → denied ≡ length t.formulas + length opened.choices → start ≡ denied + 1 → NamedAreMarked clauses wanted log
      → LeadToFalsehood start opened.facts opened.proofs clauses wanted log proofs → ConcludeLine line denied proofs lemmas → entries ≡ opened.choices ++ lemmas → IsDerivedFrom t (numbers_of parents) entries line
  derived log start denied proofs lemmas entries denied_is start_is marked leads concludes_at entries_are =
      let starts : first_fact setting ≡ start = omega arith in
      let many : length numbers ≡ length clauses = numbers_count (first_fact setting + length opened.facts) opened.proofs ∙ sym as_many_inputs in
      let concludes = subst (λ n. ConcludeLine line n proofs lemmas) denied_is concludes_at in
      let f = leads marked setting atoms starts (sorted_atoms many) have facts begun (subst (λ n. WantedStand setting facts clauses wanted (numbers_from (n + length opened.facts) opened.proofs)) starts stands) in
      record {
        first = opened.choices ++ lemmas_by concludes.lemmas;
        last = concludes.last;
        is = entries_are ∙ (ap (λ (es : List Entry). opened.choices ++ es) concludes.is ∙ sym (append_assoc opened.choices (lemmas_by concludes.lemmas) (Lemma concludes.last ∷ [])));
        before = told ++ implied line f.facts;
        adds = λ u c.
            let same : over u.formulas ≡ u = ap (λ (v : Vocabulary). record { vocabulary = v; formulas = u.formulas }) (sym c.vocabulary) in
            let cited : HasCited t (numbers_of parents) (over u.formulas) = subst (HasCited t (numbers_of parents)) (sym same) c in
            subst (λ (x : Statements). Adds x entries (told ++ implied line f.facts) line) same
            (subst (λ (es : List Entry). Adds (over u.formulas) es (told ++ implied line f.facts) line) (sym entries_are) (adds u.formulas cited proofs f lemmas concludes));
      }
