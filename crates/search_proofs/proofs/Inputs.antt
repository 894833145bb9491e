-- The facts of opened formulas and of wanted inputs, and where these stand.
use Rattle.std.specs.Prelude.{ℕ, ◌≡◌, ◌+◌, Bool, true, false, List, [], ◌∷◌, ◌++◌, length, map, Option, Some, None, slice_get, refl}
use Rattle.std.specs.List.{AllByRecursion}
use Rattle.std.proofs.Common.{ap, subst, arith, zero, suc}
use Rattle.std.proofs.lemmas.List.Elements.{All-weaker}
use Rattle.fof_terms.specs.declared.form.Form.{Form, Not}
use Rattle.clause_form.specs.declared.clause.Clause.{Clause}
use Rattle.clause_form.specs.declared.path.Parent.{Parent}
use Rattle.clause_rules.proofs.ListPlaces.{before}
use Rattle.kernel.specs.Statements.{Statements}
use Rattle.kernel.specs.declared.proof.Proof.{Proof}
use Rattle.input_proofs.specs.Formulas.{formula_of}
use Rattle.input_proofs.specs.Functions.{searched_vocabulary, searched_clauses}
use Rattle.input_proofs.specs.Opened.{AreOpened, IsPrepared, ShowEach, ShowsClause, StandFrom}
use Rattle.input_proofs.specs.Wanted.{AreWanted}
use Rattle.input_proofs.specs.declared.opening.OpenedInputs.{OpenedInputs}
use Rattle.negated_lemmas.specs.Negated.{with_denied}
use Rattle.search_proofs.specs.Needed.{IsMarked}
use Rattle.search_proofs.specs.code.Facts.{Setting, IsOf, AreShown, StandsAt, first_fact}
use Rattle.search_proofs.specs.Placed.{there, numbers_from}
use Rattle.search_proofs.proofs.InTurn.{seam, none_shown, all_shown, each_count, added_still}

-- the formulas of the wanted clauses
pub wanted_forms : List Bool → List Clause → List Form
wanted_forms [] clauses = []
wanted_forms (w ∷ wanted) [] = []
wanted_forms (true ∷ wanted) (c ∷ clauses) = formula_of c ∷ wanted_forms wanted clauses
wanted_forms (false ∷ wanted) (c ∷ clauses) = wanted_forms wanted clauses

pub wanted_speak : (P : Form → Type 0) (wanted : List Bool) (clauses : List Clause) → AllByRecursion P (map formula_of clauses) → AllByRecursion P (wanted_forms wanted clauses)
unfolding wanted_forms
wanted_speak P [] clauses h = tt
wanted_speak P (w ∷ wanted) [] h = tt
wanted_speak P (true ∷ wanted) (c ∷ clauses) h = (h.0, wanted_speak P wanted clauses h.1)
wanted_speak P (false ∷ wanted) (c ∷ clauses) h = wanted_speak P wanted clauses h.1

wanted_shown : (t : Statements) (wanted : List Bool) (clauses : List Clause) (made : List (Option Proof)) → AreWanted (ShowsClause t) wanted clauses made → ShowEach t (there made) (wanted_forms wanted clauses)
unfolding wanted_forms
wanted_shown t [] [] [] h = tt
wanted_shown t [] [] (x ∷ made) h = absurd h
wanted_shown t [] (c ∷ clauses) made h = absurd h
wanted_shown t (w ∷ wanted) [] made h = absurd h
wanted_shown t (w ∷ wanted) (c ∷ clauses) [] h = absurd h
wanted_shown t (true ∷ wanted) (c ∷ clauses) (None ∷ made) h = absurd h.0
wanted_shown t (true ∷ wanted) (c ∷ clauses) (Some p ∷ made) h = (h.0, wanted_shown t wanted clauses made h.1)
wanted_shown t (false ∷ wanted) (c ∷ clauses) (None ∷ made) h = wanted_shown t wanted clauses made h.1
wanted_shown t (false ∷ wanted) (c ∷ clauses) (Some p ∷ made) h = absurd h.0

-- a wanted clause's formula stands at its number
number_stands : (t : Statements) (wanted : List Bool) (clauses : List Clause) (made : List (Option Proof)) (base i n : ℕ) (c : Clause) → AreWanted (ShowsClause t) wanted clauses made
    → IsMarked wanted i → slice_get clauses i ≡ Some c → slice_get (numbers_from base made) i ≡ Some n
    → (place : ℕ) × (n ≡ base + place) × (slice_get (wanted_forms wanted clauses) place ≡ Some (formula_of c))
unfolding wanted_forms
number_stands t [] [] [] base i n c h marked at number = cc
number_stands t [] [] (x ∷ made) base i n c h marked at number = absurd h
number_stands t [] (d ∷ clauses) made base i n c h marked at number = absurd h
number_stands t (w ∷ wanted) [] made base i n c h marked at number = absurd h
number_stands t (w ∷ wanted) (d ∷ clauses) [] base i n c h marked at number = absurd h
number_stands t (true ∷ wanted) (d ∷ clauses) (None ∷ made) base i n c h marked at number = absurd h.0
number_stands t (true ∷ wanted) (d ∷ clauses) (Some p ∷ made) base zero n c h marked at number =
    let same : base ≡ n = cc in let own : d ≡ c = cc in (0, omega arith, ap (λ (x : Clause). Some (formula_of x)) own)
number_stands t (true ∷ wanted) (d ∷ clauses) (Some p ∷ made) base (suc i) n c h marked at number =
    let rest = number_stands t wanted clauses made (base + 1) i n c h.1 marked at number in
    let e = rest.1 in
    (suc rest.0, omega arith, rest.2)
number_stands t (false ∷ wanted) (d ∷ clauses) (None ∷ made) base zero n c h marked at number = cc
number_stands t (false ∷ wanted) (d ∷ clauses) (None ∷ made) base (suc i) n c h marked at number = number_stands t wanted clauses made base i n c h.1 marked at number
number_stands t (false ∷ wanted) (d ∷ clauses) (Some p ∷ made) base i n c h marked at number = absurd h.0

pub numbers_count : (base : ℕ) (made : List (Option Proof)) → length (numbers_from base made) ≡ length made
numbers_count base [] = refl
numbers_count base (None ∷ made) = ap suc (numbers_count base made)
numbers_count base (Some p ∷ made) = ap suc (numbers_count (base + 1) made)

pub as_many : (t : Statements) (wanted : List Bool) (clauses : List Clause) (made : List (Option Proof)) → AreWanted (ShowsClause t) wanted clauses made → length clauses ≡ length made
as_many t [] [] [] h = refl
as_many t [] [] (x ∷ made) h = absurd h
as_many t [] (c ∷ clauses) made h = absurd h
as_many t (w ∷ wanted) [] made h = absurd h
as_many t (w ∷ wanted) (c ∷ clauses) [] h = absurd h
as_many t (w ∷ wanted) (c ∷ clauses) (x ∷ made) h = ap suc (as_many t wanted clauses made h.1)

-- formulas that stand in turn behind others
stand_each : (t : Statements) (n : ℕ) (forms : List Form) → ((k : ℕ) (a : Form) → slice_get forms k ≡ Some a → slice_get t.formulas (n + k) ≡ Some a) → StandFrom t n forms
stand_each t n [] h = tt
stand_each t n (a ∷ forms) h =
    let none : n + 0 ≡ n = omega arith in
    let one = λ (k : ℕ). omega_one n k in
    (subst (λ i. slice_get t.formulas i ≡ Some a) none (h 0 a refl), stand_each t (suc n) forms (λ k b at. subst (λ i. slice_get t.formulas i ≡ Some b) (one k) (h (suc k) b at))) where
      omega_one : (n k : ℕ) → n + suc k ≡ suc n + k
      omega_one n k = omega arith

module _ (t : Statements) (parents : List Parent) (line : Form) (wanted : List Bool) (opened : OpenedInputs) (o : AreOpened t parents line wanted opened) where
  abbrev pub setting_of : Setting
  setting_of = record { vocabulary = searched_vocabulary t.vocabulary parents line; parents = parents; line = line; count = length t.formulas; choices = opened.choices }

  abbrev clauses_of_step : List Clause
  clauses_of_step = searched_clauses t.vocabulary parents line

  abbrev pub input_facts : List Form
  input_facts = o.forms ++ wanted_forms wanted clauses_of_step

  prepared : (u : Statements) → IsOf setting_of u → (facts : List Form) → IsPrepared setting_of.vocabulary parents line setting_of.count opened.choices (with_denied u line facts)
  prepared u is facts =
      let many = is.count in
      let place : length u.formulas + 0 ≡ length t.formulas + length opened.choices = omega arith in
      record {
        vocabulary = is.vocabulary;
        parents_stand = All-weaker (λ (p : Parent). slice_get u.formulas p.number ≡ Some p.form) (λ (p : Parent). slice_get (u.formulas ++ (Not line ∷ facts)) p.number ≡ Some p.form)
            (λ p at. before u.formulas (Not line ∷ facts) p.number p.form at) parents is.parents;
        added = added_still u (with_denied u line facts) setting_of.count opened.choices (Not line ∷ facts) refl refl is.added;
        denied = subst (λ i. slice_get (u.formulas ++ (Not line ∷ facts)) i ≡ Some (Not line)) place (seam u.formulas (Not line ∷ facts) 0 (Not line) refl);
      }

  forms_stand : (u : Statements) → IsOf setting_of u → (more : List Form) → StandFrom (with_denied u line (o.forms ++ more)) (length t.formulas + length opened.choices + 1) o.forms
  forms_stand u is more =
      stand_each (with_denied u line (o.forms ++ more)) (length t.formulas + length opened.choices + 1) o.forms
      (λ k a at.
      let many = is.count in
      let place : length u.formulas + suc k ≡ length t.formulas + length opened.choices + 1 + k = omega arith in
      subst (λ i. slice_get (u.formulas ++ (Not line ∷ (o.forms ++ more))) i ≡ Some a) place (seam u.formulas (Not line ∷ (o.forms ++ more)) (suc k) a (before o.forms more k a at)))

  clauses_shown : (u : Statements) → IsOf setting_of u → (more : List Form) → AreWanted (ShowsClause (with_denied u line (o.forms ++ more))) wanted clauses_of_step opened.proofs
  clauses_shown u is more = o.clauses (with_denied u line (o.forms ++ more)) is.vocabulary (forms_stand u is more)

  module _ (base : Statements) (is_base : IsOf setting_of base) where
    forms_count : length o.forms ≡ length opened.facts
    forms_count = each_count (with_denied base line []) opened.facts o.forms (o.facts (with_denied base line []) (prepared base is_base []))

    pub inputs_count : length clauses_of_step ≡ length opened.proofs
    inputs_count = as_many (with_denied base line (o.forms ++ [])) wanted clauses_of_step opened.proofs (clauses_shown base is_base [])

    pub inputs_shown : AreShown setting_of (opened.facts ++ there opened.proofs) input_facts
    inputs_shown =
        let s = setting_of in
        let first = all_shown s [] opened.facts [] o.forms (none_shown s) forms_count (λ u is more. o.facts (with_denied u line more) (prepared u is more)) in
        let each = λ (u : Statements) (is : IsOf s u) (more : List Form). wanted_shown (with_denied u line (o.forms ++ more)) wanted clauses_of_step opened.proofs (clauses_shown u is more) in
        let many = each_count (with_denied base line (o.forms ++ [])) (there opened.proofs) (wanted_forms wanted clauses_of_step) (each base is_base []) in
        all_shown s opened.facts (there opened.proofs) o.forms (wanted_forms wanted clauses_of_step) first many each

    pub input_stands : (i n : ℕ) (c : Clause) → IsMarked wanted i → slice_get clauses_of_step i ≡ Some c → slice_get (numbers_from (first_fact setting_of + length opened.facts) opened.proofs) i ≡ Some n
        → StandsAt setting_of input_facts n (formula_of c)
    input_stands i n c marked at number =
        let found = number_stands (with_denied base line (o.forms ++ [])) wanted clauses_of_step opened.proofs (first_fact setting_of + length opened.facts) i n c (clauses_shown base is_base []) marked at number in
        let e = found.1 in
        let many = forms_count in
        record { place = length o.forms + found.0; number_is = omega arith; there = seam o.forms (wanted_forms wanted clauses_of_step) found.0 (formula_of c) found.2 }
