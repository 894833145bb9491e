-- The clauses of a propositional step are made without functions.
use Rattle.std.specs.Prelude.{ℕ, ◌≡◌, ◌+◌, ◌&&◌, ◌++◌, ◌∷◌, [], Bool, true, false, List, map, length, flat_map, refl}
use Rattle.std.specs.List.{AllByRecursion, Contains, list_all}
use Rattle.std.proofs.Common.{ap, sym, subst, ◌∙◌, arith, append-nil, append_assoc}
use Rattle.std.proofs.lemmas.List.{map-append}
use Rattle.fof_terms.specs.declared.term.Term.{Term, Var, App}
use Rattle.fof_terms.specs.declared.form.Form.{Form, Atom, Eq, Not, And, Or, Imp, Iff, All, Ex}
use Rattle.fof_terms.specs.Vocabulary.{Vocabulary}
use Rattle.fof_terms.specs.declared.signature.Symbol.{Symbol}
use Rattle.fof_terms.proofs.Induction.{term_induction, form_induction}
use Rattle.fof_terms.proofs.LiftingLaws.{both}
use Rattle.clause_form.specs.Clauses.{clauses_in, clauses_of, in_turn, joined_lists, skolem_made}
use Rattle.clause_form.specs.Images.{image}
use Rattle.clause_form.specs.Norm.{norm_of}
use Rattle.clause_form.specs.Paths.{forms_of}
use Rattle.clause_form.specs.declared.clause.Clause.{Clause}
use Rattle.clause_form.specs.declared.path.Parent.{Parent}
use Rattle.clause_form.proofs.ImagesFacts.{image-Var, image-App}
use Rattle.clause_form.proofs.NormFacts.{norm_of-Not}
use Rattle.clause_learning.proofs.Members.{head_in, tail_in}
use Rattle.input_proofs.specs.Functions.{functions_of, searched_clauses, searched_vocabulary}
use Rattle.step_clauses.specs.declared.existentials.Existential.{Existential}
use Rattle.step_clauses.specs.declared.skolems.Skolem.{Skolem}
use Rattle.step_clauses.specs.Existentials.{existentials, existentials_within}
use Rattle.step_clauses.specs.Inputs.{clauses_from, new_symbols_from, next_behind, search_input, search_symbols, step_forms}
use Rattle.step_clauses.specs.Skolems.{skolems_from, skolems_of}
use Rattle.step_clauses.proofs.ExistentialsFacts.{existentials_within-Atom, existentials_within-Not, existentials_within-And, existentials_within-Or, existentials_within-Imp, existentials_within-Iff}
use Rattle.step_clauses.proofs.SkolemizingFacts.{made-Atom, made-Not, made-And, made-Or, made-Imp, made-Iff}
use Rattle.sat_step.specs.Propositional.{IsPropositionalStep, is_propositional, propositional_clauses, step_norms}
use Rattle.sat_step.proofs.Renaming.{map_in}
use Rattle.sat_entries.proofs.PropositionalFacts.{propositional-Eq, propositional-Not, propositional-And, propositional-Or, propositional-Imp, propositional-Iff, propositional-All, propositional-Ex}

stay_each : (ts : List Term) → AllByRecursion (λ (u : Term). image Var u ≡ u) ts → map (image Var) ts ≡ ts
stay_each [] h = refl
stay_each (t ∷ ts) h = ap (λ (u : Term). u ∷ map (image Var) ts) h.0 ∙ ap (λ (us : List Term). t ∷ us) (stay_each ts h.1)

image_stays : (u : Term) → image Var u ≡ u
image_stays = term_induction (λ (u : Term). image Var u ≡ u) (record {
  var = λ k. image-Var Var k;
  app = λ f ts all. image-App Var f ts ∙ ap (App f) (stay_each ts all);
})

each_image : (ts : List Term) → map (image Var) ts ≡ ts
each_image [] = refl
each_image (t ∷ ts) = ap (λ (u : Term). u ∷ map (image Var) ts) (image_stays t) ∙ ap (λ (us : List Term). t ∷ us) (each_image ts)

-- a formula without quantifiers stays, and has no existential ones
pub record Stays (a : Form) : Type 0 where
  pub made : is_propositional a ≡ true → (next : ℕ) → skolem_made a next 0 Var ≡ (a, next)
  pub none : is_propositional a ≡ true → (around : List ℕ) → existentials_within a around ≡ []

never : (a : Form) → is_propositional a ≡ false → is_propositional a ≡ true → ⊥
never a off on = let two : false ≡ true = sym off ∙ on in cc

turn_stays : (as_ : List Form) → AllByRecursion Stays as_ → list_all is_propositional as_ ≡ true → (next : ℕ) → in_turn (map skolem_made as_) next 0 Var ≡ (as_, next)
turn_stays [] h p next = refl
turn_stays (a ∷ as_) h p next =
    let parts = both (is_propositional a) (list_all is_propositional as_) p in
    ap (λ (x : Form × ℕ). (x.0 ∷ (in_turn (map skolem_made as_) x.1 0 Var).0, (in_turn (map skolem_made as_) x.1 0 Var).1)) (h.0.made parts.0 next)
    ∙ ap (λ (x : List Form × ℕ). (a ∷ x.0, x.1)) (turn_stays as_ h.1 parts.1 next)

turn_none : (as_ : List Form) → AllByRecursion Stays as_ → list_all is_propositional as_ ≡ true → (around : List ℕ) → joined_lists (map (λ (a : Form). existentials_within a around) as_) ≡ []
turn_none [] h p around = refl
turn_none (a ∷ as_) h p around =
    let parts = both (is_propositional a) (list_all is_propositional as_) p in
    ap (λ (xs : List Existential). xs ++ joined_lists (map (λ (b : Form). existentials_within b around) as_)) (h.0.none parts.0 around) ∙ turn_none as_ h.1 parts.1 around

stays_not : (a : Form) → Stays a → Stays (Not a)
stays_not a h = record {
  made = λ p next. made-Not a next 0 Var ∙ ap (λ (x : Form × ℕ). (Not x.0, x.1)) (h.made (sym (propositional-Not a) ∙ p) next);
  none = λ p around. existentials_within-Not a around ∙ h.none (sym (propositional-Not a) ∙ p) around;
}

stays_and : (as_ : List Form) → AllByRecursion Stays as_ → Stays (And as_)
stays_and as_ h = record {
  made = λ p next. made-And as_ next 0 Var ∙ ap (λ (x : List Form × ℕ). (And x.0, x.1)) (turn_stays as_ h (sym (propositional-And as_) ∙ p) next);
  none = λ p around. existentials_within-And as_ around ∙ turn_none as_ h (sym (propositional-And as_) ∙ p) around;
}

stays_or : (as_ : List Form) → AllByRecursion Stays as_ → Stays (Or as_)
stays_or as_ h = record {
  made = λ p next. made-Or as_ next 0 Var ∙ ap (λ (x : List Form × ℕ). (Or x.0, x.1)) (turn_stays as_ h (sym (propositional-Or as_) ∙ p) next);
  none = λ p around. existentials_within-Or as_ around ∙ turn_none as_ h (sym (propositional-Or as_) ∙ p) around;
}

-- two parts, one after the other
two_made : (C : Form → Form → Form) (a b : Form) (next : ℕ) → skolem_made a next 0 Var ≡ (a, next) → skolem_made b next 0 Var ≡ (b, next)
    → ◌≡◌ {A = Form × ℕ} (C (skolem_made a next 0 Var).0 (skolem_made b (skolem_made a next 0 Var).1 0 Var).0, (skolem_made b (skolem_made a next 0 Var).1 0 Var).1) (C a b, next)
two_made C a b next e d =
    ap (λ (x : Form × ℕ). (C x.0 (skolem_made b x.1 0 Var).0, (skolem_made b x.1 0 Var).1)) e ∙ ap (λ (x : Form × ℕ). (C a x.0, x.1)) d

two_none : (xs ys : List Existential) → xs ≡ [] → ys ≡ [] → xs ++ ys ≡ []
two_none xs ys e d = ap (λ (zs : List Existential). zs ++ ys) e ∙ d

stays_imp : (a b : Form) → Stays a → Stays b → Stays (Imp a b)
stays_imp a b h k = record {
  made = λ p next.
      let parts = both (is_propositional a) (is_propositional b) (sym (propositional-Imp a b) ∙ p) in
      made-Imp a b next 0 Var ∙ two_made Imp a b next (h.made parts.0 next) (k.made parts.1 next);
  none = λ p around.
      let parts = both (is_propositional a) (is_propositional b) (sym (propositional-Imp a b) ∙ p) in
      existentials_within-Imp a b around ∙ two_none (existentials_within a around) (existentials_within b around) (h.none parts.0 around) (k.none parts.1 around);
}

stays_iff : (a b : Form) → Stays a → Stays b → Stays (Iff a b)
stays_iff a b h k = record {
  made = λ p next.
      let parts = both (is_propositional a) (is_propositional b) (sym (propositional-Iff a b) ∙ p) in
      made-Iff a b next 0 Var ∙ two_made Iff a b next (h.made parts.0 next) (k.made parts.1 next);
  none = λ p around.
      let parts = both (is_propositional a) (is_propositional b) (sym (propositional-Iff a b) ∙ p) in
      existentials_within-Iff a b around ∙ two_none (existentials_within a around) (existentials_within b around) (h.none parts.0 around) (k.none parts.1 around);
}

not_plain : (a : Form) → is_propositional a ≡ false → Stays a
not_plain a off = record { made = λ p next. absurd (never a off p); none = λ p around. absurd (never a off p) }

each_stays : (a : Form) → Stays a
each_stays = form_induction Stays (record {
  atom = λ p ts. record { made = λ _ next. made-Atom p ts next 0 Var ∙ ap (λ (us : List Term). (Atom p us, next)) (each_image ts); none = λ _ around. existentials_within-Atom p ts around };
  eq = λ l r. not_plain (Eq l r) (propositional-Eq l r);
  not = stays_not;
  and = stays_and;
  or = stays_or;
  imp = stays_imp;
  iff = stays_iff;
  all = λ s a _. not_plain (All s a) (propositional-All s a);
  ex = λ s a _. not_plain (Ex s a) (propositional-Ex s a);
})

-- formulas with propositional norms
abbrev ArePlain : List Form → Type 0
ArePlain forms = (a : Form) → Contains forms a → is_propositional (norm_of true a) ≡ true

no_further : (a : Form) (next : ℕ) → is_propositional (norm_of true a) ≡ true → next_behind next a ≡ next
no_further a next p = ap (λ (xs : List Existential). next + length xs) ((each_stays (norm_of true a)).none p []) ∙ (omega arith)

own_clauses : (a : Form) (next : ℕ) → is_propositional (norm_of true a) ≡ true → clauses_of a next ≡ clauses_in (norm_of true a)
own_clauses a next p = ap (λ (x : Form × ℕ). clauses_in x.0) ((each_stays (norm_of true a)).made p next)

own_symbols : (a : Form) (next : ℕ) → is_propositional (norm_of true a) ≡ true → skolems_of (norm_of true a) next ≡ []
own_symbols a next p = ap (λ (xs : List Existential). skolems_from next xs) ((each_stays (norm_of true a)).none p [])

clauses_plain : (next : ℕ) (forms : List Form) → ArePlain forms → clauses_from next forms ≡ flat_map clauses_in (map (norm_of true) forms)
clauses_plain next [] h = refl
clauses_plain next (a ∷ forms) h =
    let own = h a (head_in a forms) in
    ap (λ (cs : List Clause). cs ++ clauses_from (next_behind next a) forms) (own_clauses a next own)
    ∙ (ap (λ n. clauses_in (norm_of true a) ++ clauses_from n forms) (no_further a next own) ∙ ap (λ (cs : List Clause). clauses_in (norm_of true a) ++ cs) (clauses_plain next forms (λ b there. h b (tail_in a forms b there))))

symbols_plain : (next : ℕ) (forms : List Form) → ArePlain forms → new_symbols_from next forms ≡ []
symbols_plain next [] h = refl
symbols_plain next (a ∷ forms) h =
    let own = h a (head_in a forms) in
    ap (λ (ks : List Skolem). ks ++ new_symbols_from (next_behind next a) forms) (own_symbols a next own)
    ∙ (ap (λ n. new_symbols_from n forms) (no_further a next own) ∙ symbols_plain next forms (λ b there. h b (tail_in a forms b there)))

module _ (parents : List Form) (line : Form) (step : IsPropositionalStep parents line) where
  norms_are : map (norm_of true) (step_forms parents line) ≡ step_norms parents line
  norms_are = map-append (norm_of true) parents (Not line ∷ []) ∙ ap (λ (a : Form). map (norm_of true) parents ++ a ∷ []) (norm_of-Not true line)

  plain : ArePlain (step_forms parents line)
  plain a there = step (norm_of true a) (subst (λ (as_ : List Form). Contains as_ (norm_of true a)) norms_are (map_in (norm_of true) (step_forms parents line) a there))

  pub input_is : (next : ℕ) → search_input next parents line ≡ propositional_clauses parents line
  input_is next = clauses_plain next (step_forms parents line) plain ∙ ap (λ (as_ : List Form). flat_map clauses_in as_) norms_are

  pub no_symbols : (next : ℕ) → search_symbols next parents line ≡ []
  no_symbols next = symbols_plain next (step_forms parents line) plain

module _ (v : Vocabulary) (parents : List Parent) (line : Form) (step : IsPropositionalStep (forms_of parents) line) where
  pub no_functions : functions_of v parents line ≡ []
  no_functions = ap (λ (ks : List Skolem). map (λ (k : Skolem). k.symbol) ks) (no_symbols (forms_of parents) line step (length v.symbols))

  pub same_vocabulary : searched_vocabulary v parents line ≡ v
  same_vocabulary = ap (λ (ss : List Symbol). record v { symbols = v.symbols ++ ss }) no_functions ∙ ap (λ (ss : List Symbol). record v { symbols = ss }) (append-nil v.symbols)

  pub clauses_are : searched_clauses v parents line ≡ propositional_clauses (forms_of parents) line
  clauses_are = input_is (forms_of parents) line step (length v.symbols)
