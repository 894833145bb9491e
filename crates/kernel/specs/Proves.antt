-- Natural deduction: what a proof shows, with one case for each rule. Hypotheses and variables stand number 0 first.
use Rattle.std.specs.Prelude.{ℕ, ◌≡◌, List, [], ◌∷◌, map, slice_get, Some}
use Rattle.fof_terms.specs.declared.term.Term.{Term}
use Rattle.fof_terms.specs.declared.form.Form.{Form, Eq, Not, And, Or, Imp, Iff, All, Ex}
use Rattle.fof_terms.specs.Sorts.{Sorted, sort_of_term}
use Rattle.fof_terms.specs.Lift.{lifted}
use Rattle.fof_terms.specs.Instance.{instance_at}
use Rattle.kernel.specs.Statements.{Statements}
use Rattle.kernel.specs.declared.proof.Proof.{Proof, Line, Hyp, AndI', AndE', OrI', OrE', ImpI', ImpE', NotI', NotE'}
use Rattle.kernel.specs.declared.proof.Proof.{Raa', IffI', IffL', IffR', AllI', AllE', ExI', ExE', Refl, Subst'}
use Rattle.kernel.specs.declared.proof.Proof.{Inhabit', Row_of-Proof, end_of-Proof, more_of-Proof}

-- the formula or the formulas over one variable more, number 0
abbrev pub over : Form → Form
over = lifted 1 0

abbrev pub all_over : List Form → List Form
all_over = map (lifted 1 0)

unfoldable mutual
  -- what a proof shows is well-sorted, and
  pub Proves : Statements → List ℕ → List Form → Proof → Form → Type 0
  Proves t v h (Line i) a = Sorted t.vocabulary v a × (slice_get t.formulas i ≡ Some a)
  Proves t v h (Hyp i) a = Sorted t.vocabulary v a × (slice_get h i ≡ Some a)
  Proves t v h (AndI' u ps) a = Sorted t.vocabulary v a × ((as_ : List Form) × (a ≡ And as_) × ProvesAll t v h ps as_)
  Proves t v h (AndE' k u (more_of-Proof p end_of-Proof)) a = Sorted t.vocabulary v a × ((as_ : List Form) × Proves t v h p (And as_) × (slice_get as_ k ≡ Some a))
  Proves t v h (OrI' as_ k u (more_of-Proof p end_of-Proof)) a = Sorted t.vocabulary v a × (a ≡ Or as_) × ((b : Form) × (slice_get as_ k ≡ Some b) × Proves t v h p b)
  Proves t v h (OrE' g u (more_of-Proof p end_of-Proof) w qs) a = Sorted t.vocabulary v a × (a ≡ g) × ((as_ : List Form) × Proves t v h p (Or as_) × ProvesEach t v h qs as_ a)
  Proves t v h (ImpI' b u (more_of-Proof p end_of-Proof)) a = Sorted t.vocabulary v a × ((c : Form) × (a ≡ Imp b c) × Proves t v (b ∷ h) p c)
  Proves t v h (ImpE' u (more_of-Proof p end_of-Proof) w (more_of-Proof q end_of-Proof)) a = Sorted t.vocabulary v a × ((b : Form) × Proves t v h p (Imp b a) × Proves t v h q b)
  Proves t v h (NotI' b u (more_of-Proof p end_of-Proof)) a = Sorted t.vocabulary v a × (a ≡ Not b) × Proves t v (b ∷ h) p (Or [])
  Proves t v h (NotE' u (more_of-Proof p end_of-Proof) w (more_of-Proof q end_of-Proof)) a = Sorted t.vocabulary v a × (a ≡ Or []) × ((b : Form) × Proves t v h p (Not b) × Proves t v h q b)
  Proves t v h (Raa' g u (more_of-Proof p end_of-Proof)) a = Sorted t.vocabulary v a × (a ≡ g) × Proves t v (Not a ∷ h) p (Or [])
  Proves t v h (IffI' b c u (more_of-Proof p end_of-Proof) w (more_of-Proof q end_of-Proof)) a =
      Sorted t.vocabulary v a × (a ≡ Iff b c) × Proves t v (b ∷ h) p c × Proves t v (c ∷ h) q b
  Proves t v h (IffL' u (more_of-Proof p end_of-Proof) w (more_of-Proof q end_of-Proof)) a = Sorted t.vocabulary v a × ((b : Form) × Proves t v h p (Iff b a) × Proves t v h q b)
  Proves t v h (IffR' u (more_of-Proof p end_of-Proof) w (more_of-Proof q end_of-Proof)) a = Sorted t.vocabulary v a × ((b : Form) × Proves t v h p (Iff a b) × Proves t v h q b)
  Proves t v h (AllI' s u (more_of-Proof p end_of-Proof)) a = Sorted t.vocabulary v a × ((b : Form) × (a ≡ All s b) × Proves t (s ∷ v) (all_over h) p b)
  Proves t v h (AllE' x u (more_of-Proof p end_of-Proof)) a =
      Sorted t.vocabulary v a × ((s : ℕ) × (b : Form) × Proves t v h p (All s b) × (sort_of_term t.vocabulary v x ≡ Some s) × (a ≡ instance_at x 0 b))
  Proves t v h (ExI' s b x u (more_of-Proof p end_of-Proof)) a =
      Sorted t.vocabulary v a × (a ≡ Ex s b) × Sorted t.vocabulary (s ∷ v) b × (sort_of_term t.vocabulary v x ≡ Some s) × Proves t v h p (instance_at x 0 b)
  Proves t v h (ExE' g u (more_of-Proof p end_of-Proof) w (more_of-Proof q end_of-Proof)) a =
      Sorted t.vocabulary v a × (a ≡ g) × ((s : ℕ) × (b : Form) × Proves t v h p (Ex s b) × Proves t (s ∷ v) (b ∷ all_over h) q (over a))
  Proves t v h (Refl x) a = Sorted t.vocabulary v a × (a ≡ Eq x x)
  Proves t v h (Subst' s b u (more_of-Proof p end_of-Proof) w (more_of-Proof q end_of-Proof)) a =
      Sorted t.vocabulary v a × Sorted t.vocabulary (s ∷ v) b
      × ((l : Term) × (r : Term) × Proves t v h p (Eq l r) × (sort_of_term t.vocabulary v l ≡ Some s) × Proves t v h q (instance_at l 0 b) × (a ≡ instance_at r 0 b))
  Proves t v h (Inhabit' s g u (more_of-Proof p end_of-Proof)) a = Sorted t.vocabulary v a × (a ≡ g) × Proves t (s ∷ v) (all_over h) p (over a)

  -- each proof shows the formula at its place
  pub ProvesAll : {n : _} → Statements → List ℕ → List Form → Row_of-Proof n → List Form → Type 0
  ProvesAll t v h end_of-Proof [] = Unit {0}
  ProvesAll t v h end_of-Proof (b ∷ bs) = ⊥
  ProvesAll t v h (more_of-Proof p ps) [] = ⊥
  ProvesAll t v h (more_of-Proof p ps) (b ∷ bs) = Proves t v h p b × ProvesAll t v h ps bs

  -- each proof shows the formula under the member at its place
  pub ProvesEach : {n : _} → Statements → List ℕ → List Form → Row_of-Proof n → List Form → Form → Type 0
  ProvesEach t v h end_of-Proof [] a = Unit {0}
  ProvesEach t v h end_of-Proof (b ∷ bs) a = ⊥
  ProvesEach t v h (more_of-Proof p ps) [] a = ⊥
  ProvesEach t v h (more_of-Proof p ps) (b ∷ bs) a = Proves t v (b ∷ h) p a × ProvesEach t v h ps bs a
