-- The closed formula of a clause is ready for the rules.
use Rattle.std.specs.Prelude.{ℕ, ◌≡◌, ◌+◌, ◌<◌, Bool, true, false, not, List, [], ◌∷◌, ◌++◌, length, map, reverse, refl}
use Rattle.std.specs.List.{AllByRecursion}
use Rattle.std.proofs.Common.{ap, sym, subst, ◌∙◌, arith, append_assoc, append-nil, get_or}
use Rattle.std.proofs.lemmas.List.{reverse-append, length-reverse}
use Rattle.std.proofs.lemmas.List.Elements.{recursion_from_All}
use Rattle.fof_terms.specs.declared.form.Form.{Form, All}
use Rattle.fof_terms.specs.Vocabulary.{Vocabulary}
use Rattle.fof_terms.specs.Sorts.{IsScope, SortedTo, binder_depth}
use Rattle.fof_terms.proofs.Scoped.{raised, or_sorted, all_sorted}
use Rattle.fof_terms.proofs.SortsFacts.{binder_depth-Atom, binder_depth-Eq, binder_depth-Not, binder_depth-And, binder_depth-Or}
use Rattle.clause_form.specs.declared.clause.AtomOf.{AtomOf}
use Rattle.clause_form.specs.declared.clause.AtomOf.TheVariants.{Pred, Eq as Equation, True, False}
use Rattle.clause_form.specs.declared.clause.Lit.{Lit}
use Rattle.clause_form.specs.declared.clause.Clause.{Clause}
use Rattle.clause_form.specs.Norm.{signed}
use Rattle.clause_form.specs.ClauseView.{form_of_atom, form_of_lit, closed_by}
use Rattle.clause_form.specs.Covers.{is_sorted_atom}
use Rattle.clause_form.specs.Paths.{is_plain}
use Rattle.clause_proofs.specs.Bodies.{body_of}
use Rattle.clause_proofs.proofs.BodySorts.{lit_fits}
use Rattle.clause_rules.specs.Steps.{IsReady}
use Rattle.input_proofs.specs.Formulas.{formula_of, has_or}
use Rattle.superpose.proofs.ConclusionFacts.{all_reversed}
use Rattle.superpose.specs.Drafts.{IsClause}

-- whether the literals stand in a disjunction, as code asks it
pub one_alone : (lits : List Lit) (l : Lit) → length lits ≡ 1 → l ≡ get_or lits 0 l → has_or lits ≡ not (is_plain l.atom)
one_alone [] l one is = absurd (omega arith)
one_alone (k ∷ []) l one is = ap (λ (x : Lit). not (is_plain x.atom)) (sym is)
one_alone (k ∷ m ∷ lits) l one is = absurd (omega arith)

pub not_alone : (lits : List Lit) → (length lits ≡ 1 → ⊥) → has_or lits ≡ true
not_alone [] many = refl
not_alone (k ∷ []) many = absurd (many refl)
not_alone (k ∷ m ∷ lits) many = refl

atom_depth : (a : AtomOf) → binder_depth (form_of_atom a) ≡ 0
atom_depth (Pred p ts) = binder_depth-Atom p ts
atom_depth (Equation l r) = binder_depth-Eq l r
atom_depth True = binder_depth-And []
atom_depth False = binder_depth-Or []

signed_depth : (g : Bool) (a : AtomOf) → binder_depth (signed g (form_of_atom a)) ≡ 0
signed_depth true a = atom_depth a
signed_depth false a = binder_depth-Not (form_of_atom a) ∙ atom_depth a

module _ (w : Vocabulary) where
  closes : (n : ℕ) (sorts v : List ℕ) (a : Form) → SortedTo n w (reverse sorts ++ v) a → SortedTo (n + length sorts) w v (closed_by sorts a)
  closes n [] v a r = raised w v n (n + 0) a (omega arith) r
  closes n (s ∷ sorts) v a r =
      let moved : reverse (s ∷ sorts) ++ v ≡ reverse sorts ++ (s ∷ v) = ap (λ (ss : List ℕ). ss ++ v) (reverse-append (s ∷ []) sorts) ∙ append_assoc (reverse sorts) (s ∷ []) v in
      let inner = closes n sorts (s ∷ v) a (subst (λ (ss : List ℕ). SortedTo n w ss a) moved r) in
      raised w v (n + length sorts + 1) (n + length (s ∷ sorts)) (All s (closed_by sorts a)) (omega arith) (all_sorted w v (n + length sorts) s (closed_by sorts a) inner)

  module _ (scope : List ℕ) (sc : IsScope w scope) where
    lit_ready : (l : Lit) → is_sorted_atom w scope l.atom ≡ true → SortedTo 0 w scope (form_of_lit l)
    lit_ready l e = record { scope_fits = sc; few_binders = omega (arith, signed_depth l.positive l.atom); fits = lit_fits w scope l ∙ e }

    lits_ready : (lits : List Lit) → AllByRecursion (λ (l : Lit). is_sorted_atom w scope l.atom ≡ true) lits → AllByRecursion (SortedTo 0 w scope) (map form_of_lit lits)
    lits_ready [] h = tt
    lits_ready (l ∷ lits) h = (lit_ready l h.0, lits_ready lits h.1)

    body_ready : (b : Bool) (lits : List Lit) → AllByRecursion (λ (l : Lit). is_sorted_atom w scope l.atom ≡ true) lits → SortedTo 0 w scope (body_of b lits)
    body_ready true lits h = or_sorted w scope 0 sc (map form_of_lit lits) (lits_ready lits h)
    body_ready false [] h = or_sorted w scope 0 sc [] tt
    body_ready false (l ∷ lits) h = lit_ready l h.0

  pub formula_ready : (c : Clause) → IsClause w c → IsReady w (formula_of c)
  formula_ready c h =
      let few = h.fit.few in
      let many = length-reverse c.sorts in
      let exist = recursion_from_All (λ s. s < length w.sorts) (reverse c.sorts) (all_reversed (λ s. s < length w.sorts) c.sorts h.exist) in
      let sc : IsScope w (reverse c.sorts) = record { few_variables = omega arith; sorts_exist = exist } in
      let lits = recursion_from_All (λ (l : Lit). is_sorted_atom w (reverse c.sorts) l.atom ≡ true) c.lits h.fit.sorted.fits in
      let body = body_of (has_or c.lits) c.lits in
      let inner = body_ready (reverse c.sorts) sc (has_or c.lits) c.lits lits in
      let whole = closes 0 c.sorts [] body (subst (λ (ss : List ℕ). SortedTo 0 w ss body) (sym (append-nil (reverse c.sorts))) inner) in
      raised w [] (0 + length c.sorts) 1000000000 (closed_by c.sorts body) (omega arith) whole
