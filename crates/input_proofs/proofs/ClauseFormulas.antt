-- The formula of a clause: the clause that it is, and its symbols.
use Rattle.std.specs.Prelude.{ℕ, ◌≡◌, ◌+◌, Bool, true, false, not, List, [], ◌∷◌, map, Some, refl}
use Rattle.std.specs.List.{AllByRecursion as Each, list_any}
use Rattle.std.proofs.Common.{ap, sym, subst, ◌∙◌, arith, inl, inr}
use Rattle.std.proofs.lemmas.Bool.{lt-ltb, le-ltb}
use Rattle.fof_terms.specs.Lift.{lifted, lifted_term}
use Rattle.fof_terms.proofs.LiftFacts.{lifted_term-Var}
use Rattle.fof_terms.proofs.LiftingLaws.{below_or_above}
use Rattle.fof_terms.specs.Occurs.{occurs_in, occurs_in_term}
use Rattle.fof_terms.proofs.OccursFacts.{occurs_in_term-Var, occurs_in-And, occurs_in-Or, occurs_in-All}
use Rattle.fof_terms.proofs.Walks.{lifting, lifting_term}
use Rattle.fof_terms.specs.declared.term.Term.{Var}
use Rattle.fof_terms.specs.declared.form.Form.{Form, Not, Or, All}
use Rattle.clause_form.specs.declared.clause.AtomOf.TheVariants.{False}
use Rattle.clause_form.specs.declared.clause.Lit.{Lit}
use Rattle.clause_form.specs.declared.clause.Clause.{Clause}
use Rattle.clause_form.specs.ClauseView.{View, view_of, clause_of, all_there, stated, open_clause, within, form_of_lit, form_of_lits, closed_by, closed}
use Rattle.clause_form.specs.Clauses.{clauses_in}
use Rattle.clause_form.specs.Paths.{is_plain}
use Rattle.clause_form.proofs.ClauseViewFacts.{view_of-Or, view_of-All}
use Rattle.clause_form.proofs.ReachedFacts.{lit_moved}
use Rattle.clause_form.proofs.ViewLaws.{lit_view, closed_view}
use Rattle.clause_proofs.specs.Bodies.{body_of}
use Rattle.skolem_fresh.proofs.Entering.{both_false}
use Rattle.skolem_fresh.proofs.Occurring.{walk_term_occurs, walk_occurs}
use Rattle.skolem_proofs.proofs.Lacking.{each_lacks}
use Rattle.input_proofs.specs.Formulas.{has_or, formula_of}
use Rattle.input_proofs.proofs.Literals.{IsPlain, all_have, each_weaker}

-- The formula of a clause whose literals are plain is the closed clause.
body_is : (lits : List Lit) → Each IsPlain lits → body_of (has_or lits) lits ≡ form_of_lits lits
body_is [] h = refl
body_is (l ∷ []) h = ap (λ b. body_of (not b) (l ∷ [])) h.0
body_is (l ∷ k ∷ lits) h = refl

pub formula_is : (c : Clause) → Each IsPlain c.lits → formula_of c ≡ closed c
formula_is c h = ap (closed_by c.sorts) (body_is c.lits h)

-- The clause that the formula is.
lits_view : (lits : List Lit) → all_there (map (λ (u : View). u.lit) (map view_of (map form_of_lit lits))) ≡ Some lits
lits_view [] = refl
lits_view (l ∷ lits) = rw (lit_view l, lits_view lits) refl

or_view : (lits : List Lit) → (view_of (Or (map form_of_lit lits))).clause ≡ Some (open_clause lits)
or_view [] = rw view_of-Or refl
or_view (l ∷ lits) = rw view_of-Or (rw (lits_view (l ∷ lits)) refl)

lone_view : (l : Lit) (b : Bool) → is_plain l.atom ≡ b → (view_of (body_of (not b) (l ∷ []))).clause ≡ Some (open_clause (l ∷ []))
lone_view l true e = closed_view (open_clause (l ∷ [])) other where
  other : l ∷ [] ≡ stated False ∷ [] → ⊥
  other f = let same : l ≡ stated False = cc in let clash : true ≡ false = sym e ∙ ap (λ (k : Lit). is_plain k.atom) same in cc
lone_view l false e = or_view (l ∷ [])

body_view : (lits : List Lit) → (view_of (body_of (has_or lits) lits)).clause ≡ Some (open_clause lits)
body_view [] = or_view []
body_view (l ∷ []) = lone_view l (is_plain l.atom) refl
body_view (l ∷ k ∷ lits) = or_view (l ∷ k ∷ lits)

all_view : (s : ℕ) (b : Form) (c : Clause) → (view_of b).clause ≡ Some c → (view_of (All s b)).clause ≡ Some (within s c)
all_view s b c e = rw view_of-All (rw e refl)

over_view : (sorts : List ℕ) (lits : List Lit) (a : Form) → (view_of a).clause ≡ Some (open_clause lits) → (view_of (closed_by sorts a)).clause ≡ Some (record { sorts = sorts; lits = lits })
over_view [] lits a e = e
over_view (s ∷ sorts) lits a e = all_view s (closed_by sorts a) (record { sorts = sorts; lits = lits }) (over_view sorts lits a e)

pub formula_view : (c : Clause) → clause_of (formula_of c) ≡ Some c
formula_view c = over_view c.sorts c.lits (body_of (has_or c.lits) c.lits) (body_view c.lits)

-- Symbols that a formula lacks.
module _ (k : ℕ) where
  variable_lacks : (by n j : ℕ) → occurs_in_term k (lifted_term by n (Var j)) ≡ false
  variable_lacks by n j =
      elim (below_or_above j n) [
        | inl near ↦ rw (lifted_term-Var, lt-ltb j n near) (occurs_in_term-Var k j)
        | inr far ↦ rw (lifted_term-Var, le-ltb j n far) (occurs_in_term-Var k (j + by))
      ]

  lifted_occurs : (by n : ℕ) (a : Form) → occurs_in k (lifted by n a) ≡ occurs_in k a
  lifted_occurs by n a =
      let terms = λ (d : ℕ). walk_term_occurs k (lifted_term by (n + d)) (lifting_term by (n + d)) (variable_lacks by (n + d)) in
      let whole = walk_occurs k (λ d. lifted_term by (n + d)) (λ d. lifted by (n + d)) (lifting by (λ d. n + d) (λ d. omega arith)) terms a 0 in
      let none : n + 0 ≡ n = omega arith in
      subst (λ m. occurs_in k (lifted by m a) ≡ occurs_in k a) none whole

  abbrev Lacks : Form → Type 0
  Lacks a = occurs_in k a ≡ false

  abbrev LitLacks : Lit → Type 0
  LitLacks l = Lacks (form_of_lit l)

  lits_lack : (a : Form) → Lacks a → Each (λ (c : Clause). Each LitLacks c.lits) (clauses_in a)
  lits_lack = all_have Lacks LitLacks (record {
    atom = λ p ts h. h;
    eq = λ l r h. h;
    denial = λ a x is h. subst (λ b. Lacks (Not b)) (sym is.back) h;
    conjunction = λ as_ h. each_lacks (occurs_in k) as_ (sym (occurs_in-And k as_) ∙ h);
    disjunction = λ as_ h. each_lacks (occurs_in k) as_ (sym (occurs_in-Or k as_) ∙ h);
    quantified = λ s a h. sym (occurs_in-All k s a) ∙ h;
    lifted = λ by n l h. ap (occurs_in k) (lit_moved by n l) ∙ lifted_occurs by n (form_of_lit l) ∙ h;
  })

  none_in : (lits : List Lit) → Each LitLacks lits → list_any (occurs_in k) (map form_of_lit lits) ≡ false
  none_in [] h = refl
  none_in (l ∷ lits) h = both_false (occurs_in k (form_of_lit l)) (list_any (occurs_in k) (map form_of_lit lits)) h.0 (none_in lits h.1)

  body_lacks : (b : Bool) (lits : List Lit) → Each LitLacks lits → Lacks (body_of b lits)
  body_lacks true lits h = occurs_in-Or k (map form_of_lit lits) ∙ none_in lits h
  body_lacks false [] h = occurs_in-Or k []
  body_lacks false (l ∷ lits) h = h.0

  closed_occurs : (sorts : List ℕ) (a : Form) → occurs_in k (closed_by sorts a) ≡ occurs_in k a
  closed_occurs [] a = refl
  closed_occurs (s ∷ sorts) a = occurs_in-All k s (closed_by sorts a) ∙ closed_occurs sorts a

  formula_lacks : (c : Clause) → Each LitLacks c.lits → Lacks (formula_of c)
  formula_lacks c h = closed_occurs c.sorts (body_of (has_or c.lits) c.lits) ∙ body_lacks (has_or c.lits) c.lits h

  pub clauses_lack : (a : Form) → Lacks a → Each (λ (c : Clause). Lacks (formula_of c)) (clauses_in a)
  clauses_lack a h = each_weaker (λ (c : Clause). Each LitLacks c.lits) (λ (c : Clause). Lacks (formula_of c)) (clauses_in a) formula_lacks (lits_lack a h)
