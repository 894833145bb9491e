-- The body of a clause over its own variables.
use Rattle.std.specs.Prelude.{ℕ, Bool, false, ◌≡◌, ◌+◌, List, [], ◌∷◌, ◌++◌, length, map, Some, slice_get, refl}
use Rattle.std.proofs.Common.{ap, sym, subst, ◌∙◌, arith, inl, inr}
use Rattle.std.proofs.lemmas.Bool.{cases_eq, cases_lt}
use Rattle.std.proofs.lemmas.List.{get_or_past}
use Rattle.std.proofs.lemmas.Option.{get_or_from_slice_get}
use Rattle.fof_terms.specs.Sorts.{sort_of_term}
use Rattle.fof_terms.specs.Vocabulary.{Vocabulary}
use Rattle.fof_terms.specs.declared.form.Form.{Form}
use Rattle.fof_terms.specs.declared.term.Term.{Term, Var}
use Rattle.fof_terms.proofs.Moved.{closed_anywhere}
use Rattle.fof_terms.proofs.SortsFacts.{sort_of_term-Var}
use Rattle.fof_terms.proofs.Walks.{same_terms, staying_term}
use Rattle.clause_form.specs.Covers.{lit_image, scope_of}
use Rattle.clause_form.specs.Images.{IsImages, image}
use Rattle.clause_form.specs.declared.clause.Clause.{Clause}
use Rattle.clause_form.specs.declared.clause.Lit.{Lit}
use Rattle.clause_form.proofs.ClauseLaws.{lits_themselves}
use Rattle.clause_form.proofs.ImagesFacts.{image-Var}
use Rattle.unify_terms.specs.Substitution.{image_at}
use Rattle.kernel.specs.Proves.{Proves}
use Rattle.clause_rules.proofs.ListPlaces.{before}
use Rattle.clause_rules.proofs.LitImages.{imaging}
use Rattle.clause_proofs.specs.declared.opening.Opened.{Opened}
use Rattle.clause_proofs.specs.declared.premises.Premise.{Premise}
use Rattle.clause_proofs.specs.Bodies.{body_of}
use Rattle.clause_proofs.specs.Premises.{IsSource, IsPremiseOf}
use Rattle.input_proofs.specs.Formulas.{formula_of, has_or}
use Rattle.search_proofs.specs.code.Bodies.{body_in, opened_over, ShowsBodyOf}
use Rattle.search_proofs.specs.code.Variables.{AreVariables}

last_at : (xs : List Term) (x : Term) → slice_get (xs ++ x ∷ []) (length xs) ≡ Some x
last_at [] x = refl
last_at (y ∷ xs) x = last_at xs x

one_longer : (xs : List Term) (x : Term) → length (xs ++ x ∷ []) ≡ length xs + 1
one_longer [] x = refl
one_longer (y ∷ xs) x = let rest = one_longer xs x in omega arith

pub no_variables : (images : List Term) → images ≡ [] → AreVariables 0 images
no_variables images e = record { count = ap (λ (ts : List Term). length ts) e; each = λ k lt. absurd (omega arith) }

pub one_variable_more : (n : ℕ) (images more : List Term) → AreVariables n images → more ≡ images ++ Var n ∷ [] → AreVariables (n + 1) more
one_variable_more n images more a e = record {
  count = ap (λ (ts : List Term). length ts) e ∙ one_longer images (Var n) ∙ ap (λ k. k + 1) a.count;
  each = λ k lt.
      elim (cases_eq k n) [
        | inl same ↦ ap (λ (ts : List Term). slice_get ts k) e ∙ (ap (slice_get (images ++ Var n ∷ [])) (same ∙ sym a.count) ∙ (last_at images (Var n) ∙ ap (λ i. Some (Var i)) (sym same)))
        | inr other ↦ ap (λ (ts : List Term). slice_get ts k) e ∙ before images (Var n ∷ []) k (Var k) (a.each k (omega arith))
      ];
}

-- variables that stand for themselves
module _ (n : ℕ) (images : List Term) (a : AreVariables n images) where
  own_image : (k : ℕ) → image_at images k ≡ Var k
  own_image k =
      elim (cases_lt k n) [
        | inl lt ↦ get_or_from_slice_get images k (Var k) (Var k) (a.each k lt)
        | inr past ↦ get_or_past images k (Var k) (omega (arith, a.count))
      ]

  term_stays : (t : Term) → image (image_at images) t ≡ t
  term_stays = same_terms (image (image_at images)) (λ t. t) (imaging (image_at images)) staying_term (λ k. image-Var (image_at images) k ∙ own_image k)

  lits_stay : (lits : List Lit) → map (lit_image (image_at images)) lits ≡ lits
  lits_stay lits = lits_themselves (image (image_at images)) term_stays lits

  own_images : (w : Vocabulary) (scope more : List ℕ) → IsImages w scope (scope ++ more) (image_at images)
  own_images w scope more = record {
    sorted = λ k r at. ap (sort_of_term w (scope ++ more)) (own_image k) ∙ rw sort_of_term-Var (before scope more k r at);
  }

or_alone : (lits : List Lit) → has_or lits ≡ false → length lits ≡ 1
or_alone [] e = cc
or_alone (l ∷ []) e = refl
or_alone (l ∷ k ∷ lits) e = cc

pub opened_as : (c copy : Clause) (b : Bool) (lits : List Lit) → copy ≡ c → lits ≡ c.lits → b ≡ has_or lits → record { clause = copy; is_or = b } ≡ opened_over c
opened_as c copy b lits copy_is lits_is is =
    ap (λ (x : Clause). record { clause = x; is_or = b }) copy_is ∙ ap (λ (x : Bool). record { clause = c; is_or = x }) (is ∙ ap has_or lits_is)

pub body_shown : (number : ℕ) (c : Clause) (o : Opened) (images : List Term) (p : Premise) → o ≡ opened_over c → AreVariables (length c.sorts) images → IsPremiseOf number o images p → ShowsBodyOf number c p.part
body_shown number c o images p is a premise t stands more h sc =
    let w = t.vocabulary in
    let v = scope_of c ++ more in
    let own : IsPremiseOf number (opened_over c) images p = subst (λ (x : Opened). IsPremiseOf number x images p) is premise in
    let source : IsSource w v t.formulas number (opened_over c) images = record {
      form = formula_of c;
      there = stands.there;
      has = record { is = refl; alone = or_alone c.lits };
      form_sorted = closed_anywhere w v 2147483647 (formula_of c) sc stands.sorted;
      size = a.count;
      images_sorted = own_images (length c.sorts) images a w (scope_of c) more;
      lits_sorted = stands.lits_sorted;
    } in
    let shown = own.shows w v t.formulas source h in
    let body : body_of p.is_or p.lits ≡ body_in c = ap (λ (b : Bool). body_of b p.lits) own.is_or ∙ ap (body_of (has_or c.lits)) (own.lits ∙ lits_stay (length c.sorts) images a c.lits) in
    subst (λ (b : Form). Proves t v h p.part b) body shown
