-- Members of a refutation have no symbol that its inputs lack.
use Rattle.std.specs.Prelude.{ℕ, ◌≡◌, ◌<◌, ◌||◌, Bool, true, false, List, [], ◌∷◌, map, Some, slice_get, refl}
use Rattle.std.specs.List.{AllByRecursion, list_any}
use Rattle.std.proofs.Common.{sym, subst, ◌∙◌, arith, zero, suc, take}
use Rattle.std.proofs.lemmas.List.Elements.{All-from_recursion, recursion_from_All}
use Rattle.fof_terms.specs.Vocabulary.{Vocabulary}
use Rattle.fof_terms.specs.Occurs.{occurs_in}
use Rattle.fof_terms.proofs.OccursFacts.{occurs_in-Atom, occurs_in-Eq, occurs_in-Not, occurs_in-And, occurs_in-Or, occurs_in-All}
use Rattle.fof_terms.specs.declared.form.Form.{Form}
use Rattle.clause_form.specs.declared.clause.AtomOf.{AtomOf}
use Rattle.clause_form.specs.declared.clause.AtomOf.TheVariants.{Pred, Eq as Equation, True, False}
use Rattle.clause_form.specs.declared.clause.Lit.{Lit}
use Rattle.clause_form.specs.declared.clause.Clause.{Clause}
use Rattle.clause_form.specs.Norm.{signed}
use Rattle.clause_form.specs.ClauseView.{form_of_atom, form_of_lit, closed_by}
use Rattle.clause_proofs.specs.Bodies.{body_of}
use Rattle.input_proofs.specs.Formulas.{formula_of, has_or}
use Rattle.saturation.specs.Members.{clauses_of}
use Rattle.search_proofs.specs.code.Derived.{AreDerived, Derives}
use Rattle.saturation.specs.declared.member.Member.{Member}
use Rattle.saturation.specs.declared.member.Origin.{Origin}
use Rattle.saturation.specs.declared.member.Origin.TheVariants.{Input, Inferred}
use Rattle.skolem_fresh.proofs.Entering.{neither, both_false}
use Rattle.superpose.specs.Absent.{stands_in_atom, AreWithout}

-- a member of the list of clauses
pub clause_at : (list : List Member) (i : ℕ) (c : Clause) → slice_get (clauses_of list) i ≡ Some c → (m : Member) × (slice_get list i ≡ Some m) × (m.clause ≡ c)
clause_at [] i c e = cc
clause_at (m ∷ list) zero c e = (m, refl, cc)
clause_at (m ∷ list) (suc i) c e = clause_at list i c e

pub taken : {X : Type 0} (xs : List X) (j i : ℕ) (x : X) → slice_get (take j xs) i ≡ Some x → (i < j) × (slice_get xs i ≡ Some x)
taken xs zero i x e = cc
taken [] (suc j) i x e = cc
taken (y ∷ xs) (suc j) zero x e = (omega arith, e)
taken (y ∷ xs) (suc j) (suc i) x e = let rest = taken xs j i x e in let lt = rest.0 in (omega arith, rest.1)

no_more : (a : Bool) → a ≡ (a || false)
no_more true = refl
no_more false = refl

module _ (k : ℕ) where
  atom_occurs : (a : AtomOf) → occurs_in k (form_of_atom a) ≡ stands_in_atom k a
  atom_occurs (Pred p ts) = occurs_in-Atom k p ts
  atom_occurs (Equation l r) = occurs_in-Eq k l r
  atom_occurs True = occurs_in-And k []
  atom_occurs False = occurs_in-Or k []

  signed_occurs : (g : Bool) (a : AtomOf) → occurs_in k (signed g (form_of_atom a)) ≡ stands_in_atom k a
  signed_occurs true a = atom_occurs a
  signed_occurs false a = occurs_in-Not k (form_of_atom a) ∙ atom_occurs a

  abbrev in_lit : Lit → Bool
  in_lit l = stands_in_atom k l.atom

  lit_occurs : (l : Lit) → occurs_in k (form_of_lit l) ≡ in_lit l
  lit_occurs l = signed_occurs l.positive l.atom

  any_occurs : (lits : List Lit) → list_any (occurs_in k) (map form_of_lit lits) ≡ list_any in_lit lits
  any_occurs [] = refl
  any_occurs (l ∷ lits) = rw (lit_occurs l, any_occurs lits) refl

  one_occurs : (b : Bool) (l : Lit) → occurs_in k (body_of b (l ∷ [])) ≡ list_any in_lit (l ∷ [])
  one_occurs true l = occurs_in-Or k (form_of_lit l ∷ []) ∙ any_occurs (l ∷ [])
  one_occurs false l = lit_occurs l ∙ no_more (in_lit l)

  lits_occur : (lits : List Lit) → occurs_in k (body_of (has_or lits) lits) ≡ list_any in_lit lits
  lits_occur [] = occurs_in-Or k []
  lits_occur (l ∷ []) = one_occurs (has_or (l ∷ [])) l
  lits_occur (l ∷ m ∷ lits) = occurs_in-Or k (map form_of_lit (l ∷ m ∷ lits)) ∙ any_occurs (l ∷ m ∷ lits)

  closed_occurs : (sorts : List ℕ) (a : Form) → occurs_in k (closed_by sorts a) ≡ occurs_in k a
  closed_occurs [] a = refl
  closed_occurs (s ∷ sorts) a = occurs_in-All k s (closed_by sorts a) ∙ closed_occurs sorts a

  formula_occurs : (c : Clause) → occurs_in k (formula_of c) ≡ list_any in_lit c.lits
  formula_occurs c = closed_occurs c.sorts (body_of (has_or c.lits) c.lits) ∙ lits_occur c.lits

  none_of : (lits : List Lit) → list_any in_lit lits ≡ false → AllByRecursion (λ (l : Lit). in_lit l ≡ false) lits
  none_of [] e = tt
  none_of (l ∷ lits) e = let parts = neither (in_lit l) (list_any in_lit lits) e in (parts.0, none_of lits parts.1)

  not_any : (lits : List Lit) → AllByRecursion (λ (l : Lit). in_lit l ≡ false) lits → list_any in_lit lits ≡ false
  not_any [] h = refl
  not_any (l ∷ lits) h = both_false (in_lit l) (list_any in_lit lits) h.0 (not_any lits h.1)

  pub clause_without : (c : Clause) → occurs_in k (formula_of c) ≡ false → AreWithout k c.lits
  clause_without c e = All-from_recursion (λ (l : Lit). in_lit l ≡ false) c.lits (none_of c.lits (sym (formula_occurs c) ∙ e))

  pub formula_without : (c : Clause) → AreWithout k c.lits → occurs_in k (formula_of c) ≡ false
  formula_without c h = formula_occurs c ∙ not_any c.lits (recursion_from_All (λ (l : Lit). in_lit l ≡ false) c.lits h)

  module _ (v : Vocabulary) (inputs : List Clause) (inputs_lack : (i : ℕ) (c : Clause) → slice_get inputs i ≡ Some c → AreWithout k c.lits) where
    pub made_without : (earlier : List Clause) → ((i : ℕ) (c : Clause) → slice_get earlier i ≡ Some c → AreWithout k c.lits) → (e : Clause) (o : Origin) → Derives v inputs earlier e o → AreWithout k e.lits
    made_without earlier all e (Input i) at = inputs_lack i e at
    made_without earlier all e (Inferred a b images) d = d.no_new k (all a d.first d.first_at) (all b d.second d.second_at)

    module _ (list : List Member) (made : AreDerived v inputs list) where
      earlier : (j : ℕ) → ((i : ℕ) (x : Member) → i < j → slice_get list i ≡ Some x → AreWithout k x.clause.lits) → (i : ℕ) (c : Clause) → slice_get (clauses_of (take j list)) i ≡ Some c → AreWithout k c.lits
      earlier j all i c e =
          let found = clause_at (take j list) i c e in
          let there = taken list j i found.0 found.1 in
          subst (λ (x : Clause). AreWithout k x.lits) found.2 (all i found.0 there.0 there.1)

      below : (n j : ℕ) (m : Member) → j < n → slice_get list j ≡ Some m → AreWithout k m.clause.lits
      below zero j m lt at = absurd (omega arith)
      below (suc n) j m lt at = made_without (clauses_of (take j list)) (earlier j (λ i x before there. below n i x (omega arith) there)) m.clause m.origin (made j m at)

      pub member_without : (j : ℕ) (m : Member) → slice_get list j ≡ Some m → AreWithout k m.clause.lits
      member_without j m at = below (suc j) j m (omega arith) at
