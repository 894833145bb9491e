-- Symbols that stand in no literal.
use Rattle.std.specs.Prelude.{ℕ, ◌≡◌, ◌||◌, Bool, true, false, not, List, [], ◌∷◌, map, refl}
use Rattle.std.specs.List.{AllByRecursion, Contains, list_any}
use Rattle.std.proofs.Common.{ap, sym, subst, ◌∙◌}
use Rattle.std.proofs.lemmas.List.Elements.{recursion_from_All}
use Rattle.fof_terms.specs.Occurs.{occurs_in}
use Rattle.fof_terms.specs.declared.form.Form.{Form}
use Rattle.fof_terms.proofs.OccursFacts.{occurs_in-And, occurs_in-Atom, occurs_in-Eq, occurs_in-Not, occurs_in-Or}
use Rattle.fof_terms.proofs.Scoped.{member_of}
use Rattle.clause_form.specs.ClauseView.{form_of_atom}
use Rattle.clause_form.specs.Norm.{signed}
use Rattle.clause_form.specs.declared.clause.AtomOf.{AtomOf}
use Rattle.clause_form.specs.declared.clause.AtomOf.TheVariants.{Pred, Eq as Equation, True, False}
use Rattle.clause_form.specs.declared.clause.Lit.{Lit}
use Rattle.clause_learning.proofs.Members.{head_in, place_of, tail_in}
use Rattle.chain_proofs.specs.Facts.{all_false, denied_form, not_all_false}
use Rattle.skolem_fresh.proofs.Entering.{both_false}
use Rattle.superpose.specs.Absent.{AreWithout, stands_in_atom}

module _ (k : ℕ) where
  atom_occurs : (a : AtomOf) → occurs_in k (form_of_atom a) ≡ stands_in_atom k a
  atom_occurs (Pred p ts) = occurs_in-Atom k p ts
  atom_occurs (Equation l r) = occurs_in-Eq k l r
  atom_occurs True = occurs_in-And k []
  atom_occurs False = occurs_in-Or k []

  signed_occurs : (g : Bool) (a : AtomOf) → occurs_in k (signed g (form_of_atom a)) ≡ stands_in_atom k a
  signed_occurs true a = atom_occurs a
  signed_occurs false a = occurs_in-Not k (form_of_atom a) ∙ atom_occurs a

  denials_lack : (lits : List Lit) → ((x : Lit) → Contains lits x → stands_in_atom k x.atom ≡ false) → list_any (occurs_in k) (map denied_form lits) ≡ false
  denials_lack [] h = refl
  denials_lack (l ∷ lits) h =
      both_false (occurs_in k (denied_form l)) (list_any (occurs_in k) (map denied_form lits)) (signed_occurs (not l.positive) l.atom ∙ h l (head_in l lits)) (denials_lack lits (λ x there. h x (tail_in l lits x there)))

  pub not_all_lacks : (lits : List Lit) → ((x : Lit) → Contains lits x → stands_in_atom k x.atom ≡ false) → occurs_in k (not_all_false lits) ≡ false
  not_all_lacks lits h = occurs_in-Not k (all_false lits) ∙ (occurs_in-And k (map denied_form lits) ∙ denials_lack lits h)

  pub atom_lacks : (lits : List Lit) → AreWithout k lits → (x : Lit) → Contains lits x → stands_in_atom k x.atom ≡ false
  atom_lacks lits without x there =
      let spot = place_of lits x there in
      member_of (λ (l : Lit). stands_in_atom k l.atom ≡ false) lits spot.0 x (recursion_from_All (λ (l : Lit). stands_in_atom k l.atom ≡ false) lits without) spot.1
