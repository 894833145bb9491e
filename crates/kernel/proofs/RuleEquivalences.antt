-- What each kind of node shows, one equivalence each: the relation of specs/Proves without its encoding of rows.
use Rattle.std.specs.Prelude.{ℕ, ◌≡◌, ◌↔◌, List, [], ◌∷◌, slice_get, Some}
use Rattle.std.proofs.Common.{subst}
use Rattle.fof_terms.specs.declared.term.Term.{Term}
use Rattle.fof_terms.specs.declared.form.Form.{Form, Eq, Not, And, Or, Imp, Iff, All, Ex}
use Rattle.fof_terms.specs.Sorts.{sort_of_term, Sorted}
use Rattle.fof_terms.specs.Instance.{instance_at}
use Rattle.kernel.specs.Statements.{Statements}
use Rattle.kernel.specs.Proves.{Proves, ProvesAll, ProvesEach, over, all_over}
use Rattle.kernel.specs.declared.proof.Proof.{Proof, Line, Hyp, AndI, AndE, OrI, OrE, ImpI, ImpE, NotI, NotE, Raa, IffI, IffL, IffR, AllI, AllE, ExI, ExE, Refl, Subst, Inhabit, Row_of-Proof, end_of-Proof, more_of-Proof, items-the_row-Proof}
use Rattle.kernel.specs.declared.proof.Proof.TheBlock.{hidden-the_row-Proof-1, hidden-the_row-Proof-0, items_hidden-the_row-Proof-0}
use denote.Hole.Carrier.{hidden}
use Rattle.kernel.specs.code.Rules.{ProveAll}
use Rattle.kernel.specs.Rules.{ProveEach}

module _ (t : Statements) (v : List ℕ) (h : List Form) where
  row_parts : {n : _} (row : Row_of-Proof n) (bs : List Form) → ProvesAll t v h row bs ↔ ProveAll t v h (items-the_row-Proof n row) bs
  unfolding Proves ProvesAll
  row_parts end_of-Proof [] = (λ e. e, λ e. e)
  row_parts end_of-Proof (b ∷ bs) = (λ e. e, λ e. e)
  row_parts (more_of-Proof p rest) [] = (λ e. e, λ e. e)
  row_parts (more_of-Proof p rest) (b ∷ bs) = (λ e. (e.0, (row_parts rest bs).0 e.1), λ e. (e.0, (row_parts rest bs).1 e.1))

  list_parts : (ps : List Proof) (bs : List Form) → ProvesAll t v h (hidden-the_row-Proof-0 ps) bs ↔ ProveAll t v h ps bs
  list_parts ps bs =
      subst (λ qs. ProvesAll t v h (hidden-the_row-Proof-0 ps) bs ↔ ProveAll t v h qs bs) (items_hidden-the_row-Proof-0 ps) (row_parts (hidden-the_row-Proof-0 ps) bs)

  row_cases : {n : _} (row : Row_of-Proof n) (bs : List Form) (a : Form) → ProvesEach t v h row bs a ↔ ProveEach t v h (items-the_row-Proof n row) bs a
  unfolding Proves ProvesEach
  row_cases end_of-Proof [] a = (λ e. e, λ e. e)
  row_cases end_of-Proof (b ∷ bs) a = (λ e. e, λ e. e)
  row_cases (more_of-Proof p rest) [] a = (λ e. e, λ e. e)
  row_cases (more_of-Proof p rest) (b ∷ bs) a = (λ e. (e.0, (row_cases rest bs a).0 e.1), λ e. (e.0, (row_cases rest bs a).1 e.1))

  list_cases : (ps : List Proof) (bs : List Form) (a : Form) → ProvesEach t v h (hidden-the_row-Proof-0 ps) bs a ↔ ProveEach t v h ps bs a
  list_cases ps bs a =
      subst (λ qs. ProvesEach t v h (hidden-the_row-Proof-0 ps) bs a ↔ ProveEach t v h qs bs a) (items_hidden-the_row-Proof-0 ps) (row_cases (hidden-the_row-Proof-0 ps) bs a)

  pub Proves-Line : (i : ℕ) (a : Form) → Proves t v h (Line i) a
      ↔ (Sorted t.vocabulary v a × (slice_get t.formulas i ≡ Some a))
  unfolding Proves hidden-the_row-Proof-1 hidden
  Proves-Line i a = (λ x. x, λ x. x)

  pub Proves-Hyp : (i : ℕ) (a : Form) → Proves t v h (Hyp i) a
      ↔ (Sorted t.vocabulary v a × (slice_get h i ≡ Some a))
  unfolding Proves hidden-the_row-Proof-1 hidden
  Proves-Hyp i a = (λ x. x, λ x. x)

  pub Proves-AndI : (ps : List Proof) (a : Form) → Proves t v h (AndI ps) a
      ↔ (Sorted t.vocabulary v a × ((as_ : List Form) × (a ≡ And as_) × ProveAll t v h ps as_))
  unfolding Proves hidden-the_row-Proof-1 hidden
  Proves-AndI ps a = (
    λ x. (x.0, (x.1.0, x.1.1, (list_parts ps x.1.0).0 x.1.2)),
    λ x. (x.0, (x.1.0, x.1.1, (list_parts ps x.1.0).1 x.1.2)),
  )

  pub Proves-AndE : (k : ℕ) (p : Proof) (a : Form) → Proves t v h (AndE k p) a
      ↔ (Sorted t.vocabulary v a × ((as_ : List Form) × Proves t v h p (And as_) × (slice_get as_ k ≡ Some a)))
  unfolding Proves hidden-the_row-Proof-1 hidden
  Proves-AndE k p a = (λ x. x, λ x. x)

  pub Proves-OrI : (as_ : List Form) (k : ℕ) (p : Proof) (a : Form) → Proves t v h (OrI as_ k p) a
      ↔ (Sorted t.vocabulary v a × (a ≡ Or as_) × ((b : Form) × (slice_get as_ k ≡ Some b) × Proves t v h p b))
  unfolding Proves hidden-the_row-Proof-1 hidden
  Proves-OrI as_ k p a = (λ x. x, λ x. x)

  pub Proves-OrE : (g : Form) (p : Proof) (qs : List Proof) (a : Form) → Proves t v h (OrE g p qs) a
      ↔ (Sorted t.vocabulary v a × (a ≡ g) × ((as_ : List Form) × Proves t v h p (Or as_) × ProveEach t v h qs as_ a))
  unfolding Proves hidden-the_row-Proof-1 hidden
  Proves-OrE g p qs a = (
    λ x. (x.0, x.1, (x.2.0, x.2.1, (list_cases qs x.2.0 a).0 x.2.2)),
    λ x. (x.0, x.1, (x.2.0, x.2.1, (list_cases qs x.2.0 a).1 x.2.2)),
  )

  pub Proves-ImpI : (b : Form) (p : Proof) (a : Form) → Proves t v h (ImpI b p) a
      ↔ (Sorted t.vocabulary v a × ((c : Form) × (a ≡ Imp b c) × Proves t v (b ∷ h) p c))
  unfolding Proves hidden-the_row-Proof-1 hidden
  Proves-ImpI b p a = (λ x. x, λ x. x)

  pub Proves-ImpE : (p q : Proof) (a : Form) → Proves t v h (ImpE p q) a
      ↔ (Sorted t.vocabulary v a × ((b : Form) × Proves t v h p (Imp b a) × Proves t v h q b))
  unfolding Proves hidden-the_row-Proof-1 hidden
  Proves-ImpE p q a = (λ x. x, λ x. x)

  pub Proves-NotI : (b : Form) (p : Proof) (a : Form) → Proves t v h (NotI b p) a
      ↔ (Sorted t.vocabulary v a × (a ≡ Not b) × Proves t v (b ∷ h) p (Or []))
  unfolding Proves hidden-the_row-Proof-1 hidden
  Proves-NotI b p a = (λ x. x, λ x. x)

  pub Proves-NotE : (p q : Proof) (a : Form) → Proves t v h (NotE p q) a
      ↔ (Sorted t.vocabulary v a × (a ≡ Or []) × ((b : Form) × Proves t v h p (Not b) × Proves t v h q b))
  unfolding Proves hidden-the_row-Proof-1 hidden
  Proves-NotE p q a = (λ x. x, λ x. x)

  pub Proves-Raa : (g : Form) (p : Proof) (a : Form) → Proves t v h (Raa g p) a
      ↔ (Sorted t.vocabulary v a × (a ≡ g) × Proves t v (Not a ∷ h) p (Or []))
  unfolding Proves hidden-the_row-Proof-1 hidden
  Proves-Raa g p a = (λ x. x, λ x. x)

  pub Proves-IffI : (b c : Form) (p q : Proof) (a : Form) → Proves t v h (IffI b c p q) a
      ↔ (Sorted t.vocabulary v a × (a ≡ Iff b c) × Proves t v (b ∷ h) p c × Proves t v (c ∷ h) q b)
  unfolding Proves hidden-the_row-Proof-1 hidden
  Proves-IffI b c p q a = (λ x. x, λ x. x)

  pub Proves-IffL : (p q : Proof) (a : Form) → Proves t v h (IffL p q) a
      ↔ (Sorted t.vocabulary v a × ((b : Form) × Proves t v h p (Iff b a) × Proves t v h q b))
  unfolding Proves hidden-the_row-Proof-1 hidden
  Proves-IffL p q a = (λ x. x, λ x. x)

  pub Proves-IffR : (p q : Proof) (a : Form) → Proves t v h (IffR p q) a
      ↔ (Sorted t.vocabulary v a × ((b : Form) × Proves t v h p (Iff a b) × Proves t v h q b))
  unfolding Proves hidden-the_row-Proof-1 hidden
  Proves-IffR p q a = (λ x. x, λ x. x)

  pub Proves-AllI : (s : ℕ) (p : Proof) (a : Form) → Proves t v h (AllI s p) a
      ↔ (Sorted t.vocabulary v a × ((b : Form) × (a ≡ All s b) × Proves t (s ∷ v) (all_over h) p b))
  unfolding Proves hidden-the_row-Proof-1 hidden
  Proves-AllI s p a = (λ x. x, λ x. x)

  pub Proves-AllE : (x : Term) (p : Proof) (a : Form) → Proves t v h (AllE x p) a
      ↔ (Sorted t.vocabulary v a × ((s : ℕ) × (b : Form) × Proves t v h p (All s b) × (sort_of_term t.vocabulary v x ≡ Some s) × (a ≡ instance_at x 0 b)))
  unfolding Proves hidden-the_row-Proof-1 hidden
  Proves-AllE x p a = (λ x. x, λ x. x)

  pub Proves-ExI : (s : ℕ) (b : Form) (x : Term) (p : Proof) (a : Form) → Proves t v h (ExI s b x p) a
      ↔ (Sorted t.vocabulary v a × (a ≡ Ex s b) × Sorted t.vocabulary (s ∷ v) b × (sort_of_term t.vocabulary v x ≡ Some s) × Proves t v h p (instance_at x 0 b))
  unfolding Proves hidden-the_row-Proof-1 hidden
  Proves-ExI s b x p a = (λ x. x, λ x. x)

  pub Proves-ExE : (g : Form) (p q : Proof) (a : Form) → Proves t v h (ExE g p q) a
      ↔ (Sorted t.vocabulary v a × (a ≡ g) × ((s : ℕ) × (b : Form) × Proves t v h p (Ex s b) × Proves t (s ∷ v) (b ∷ all_over h) q (over a)))
  unfolding Proves hidden-the_row-Proof-1 hidden
  Proves-ExE g p q a = (λ x. x, λ x. x)

  pub Proves-Refl : (x : Term) (a : Form) → Proves t v h (Refl x) a
      ↔ (Sorted t.vocabulary v a × (a ≡ Eq x x))
  unfolding Proves hidden-the_row-Proof-1 hidden
  Proves-Refl x a = (λ x. x, λ x. x)

  pub Proves-Subst : (s : ℕ) (b : Form) (p q : Proof) (a : Form) → Proves t v h (Subst s b p q) a
      ↔ (Sorted t.vocabulary v a × Sorted t.vocabulary (s ∷ v) b
      × ((l : Term) × (r : Term) × Proves t v h p (Eq l r) × (sort_of_term t.vocabulary v l ≡ Some s) × Proves t v h q (instance_at l 0 b) × (a ≡ instance_at r 0 b)))
  unfolding Proves hidden-the_row-Proof-1 hidden
  Proves-Subst s b p q a = (λ x. x, λ x. x)

  pub Proves-Inhabit : (s : ℕ) (g : Form) (p : Proof) (a : Form) → Proves t v h (Inhabit s g p) a
      ↔ (Sorted t.vocabulary v a × (a ≡ g) × Proves t (s ∷ v) (all_over h) p (over a))
  unfolding Proves hidden-the_row-Proof-1 hidden
  Proves-Inhabit s g p a = (λ x. x, λ x. x)
