-- What a node shows where its parts show theirs: the rules, used forth.
use Rattle.std.specs.Prelude.{ℕ, ◌≡◌, ◌+◌, ◌<◌, List, [], ◌∷◌, length, slice_get, Some, refl}
use Rattle.std.specs.List.{AllByRecursion}
use Rattle.std.proofs.Common.{sym, ◌∙◌, arith}
use Rattle.fof_terms.specs.declared.term.Term.{Term, Var}
use Rattle.fof_terms.specs.declared.form.Form.{Form, Eq, Not, And, Or, Imp, Iff, All, Ex}
use Rattle.fof_terms.specs.Lift.{lifted}
use Rattle.fof_terms.specs.Instance.{instance_at}
use Rattle.fof_terms.specs.Sorts.{sort_of_term, IsScope, Sorted}
use Rattle.fof_terms.proofs.SortsFacts.{sort_of_term-Var}
use Rattle.fof_terms.proofs.Scoped.{member_of, not_sorted, and_sorted, sorted_of_and, or_sorted, imp_sorted, sorted_of_imp, iff_sorted, sorted_of_iff, eq_sorted, sorted_of_eq, sorted_of_ex}
use Rattle.fof_terms.proofs.Moved.{instance_sorted, body_instance_sorted}
use Rattle.fof_terms.proofs.Walks.{instance_back, lifted_fits, same_depth, lifting}
use Rattle.kernel.specs.Statements.{Statements}
use Rattle.kernel.specs.Proves.{Proves, over, all_over}
use Rattle.kernel.specs.code.Rules.{ProveAll}
use Rattle.kernel.specs.Rules.{ProveEach}
use Rattle.kernel.proofs.RuleEquivalences.{Proves-Line, Proves-Hyp, Proves-AndI, Proves-AndE, Proves-OrI, Proves-OrE, Proves-ImpI, Proves-ImpE, Proves-NotI, Proves-NotE, Proves-Raa, Proves-IffI, Proves-IffL, Proves-IffR, Proves-AllI, Proves-AllE, Proves-ExI, Proves-ExE, Proves-Refl, Proves-Subst, Proves-Inhabit}
use Rattle.kernel.specs.declared.proof.Proof.{AndI', AndE', OrI', OrE', ImpI', ImpE', NotI', NotE', Raa', IffI', IffL', IffR', AllI', AllE', ExI', ExE', Refl, Subst', Inhabit', end_of-Proof, more_of-Proof, Proof, Line, Hyp, AndI, AndE, OrI, OrE, ImpI, ImpE, NotI, NotE, Raa, IffI, IffL, IffR, AllI, AllE, ExI, ExE, Subst, Inhabit}

-- what is shown is well-sorted
pub shown_sorted : (t : Statements) (v : List ℕ) (h : List Form) (p : Proof) (a : Form) → Proves t v h p a → Sorted t.vocabulary v a
unfolding Proves
shown_sorted t v h (Line i) a shown = shown.0
shown_sorted t v h (Hyp i) a shown = shown.0
shown_sorted t v h (AndI' u ps) a shown = shown.0
shown_sorted t v h (AndE' k u (more_of-Proof p end_of-Proof)) a shown = shown.0
shown_sorted t v h (OrI' as_ k u (more_of-Proof p end_of-Proof)) a shown = shown.0
shown_sorted t v h (OrE' g u (more_of-Proof p end_of-Proof) w qs) a shown = shown.0
shown_sorted t v h (ImpI' b u (more_of-Proof p end_of-Proof)) a shown = shown.0
shown_sorted t v h (ImpE' u (more_of-Proof p end_of-Proof) w (more_of-Proof q end_of-Proof)) a shown = shown.0
shown_sorted t v h (NotI' b u (more_of-Proof p end_of-Proof)) a shown = shown.0
shown_sorted t v h (NotE' u (more_of-Proof p end_of-Proof) w (more_of-Proof q end_of-Proof)) a shown = shown.0
shown_sorted t v h (Raa' g u (more_of-Proof p end_of-Proof)) a shown = shown.0
shown_sorted t v h (IffI' b c u (more_of-Proof p end_of-Proof) w (more_of-Proof q end_of-Proof)) a shown = shown.0
shown_sorted t v h (IffL' u (more_of-Proof p end_of-Proof) w (more_of-Proof q end_of-Proof)) a shown = shown.0
shown_sorted t v h (IffR' u (more_of-Proof p end_of-Proof) w (more_of-Proof q end_of-Proof)) a shown = shown.0
shown_sorted t v h (AllI' s u (more_of-Proof p end_of-Proof)) a shown = shown.0
shown_sorted t v h (AllE' x u (more_of-Proof p end_of-Proof)) a shown = shown.0
shown_sorted t v h (ExI' s b x u (more_of-Proof p end_of-Proof)) a shown = shown.0
shown_sorted t v h (ExE' g u (more_of-Proof p end_of-Proof) w (more_of-Proof q end_of-Proof)) a shown = shown.0
shown_sorted t v h (Refl x) a shown = shown.0
shown_sorted t v h (Subst' s b u (more_of-Proof p end_of-Proof) w (more_of-Proof q end_of-Proof)) a shown = shown.0
shown_sorted t v h (Inhabit' s g u (more_of-Proof p end_of-Proof)) a shown = shown.0

-- over one variable more
module _ (t : Statements) (v : List ℕ) (s : ℕ) where
  pub over_sorted : (a : Form) → IsScope t.vocabulary (s ∷ v) → Sorted t.vocabulary v a → Sorted t.vocabulary (s ∷ v) (over a)
  over_sorted a sc r = record {
    scope_fits = sc;
    few_binders = rw (same_depth _ _ (lifting 1 (λ d. d) (λ d. refl)) a 0) r.few_binders;
    fits = rw (lifted_fits t.vocabulary (s ∷ []) v a []) r.fits;
  }

  pub sorted_of_over : (a : Form) → Sorted t.vocabulary (s ∷ v) (over a) → Sorted t.vocabulary v a
  sorted_of_over a r = record {
    scope_fits = record { few_variables = omega (arith, r.scope_fits.few_variables); sorts_exist = r.scope_fits.sorts_exist.1 };
    few_binders = rw (same_depth _ _ (lifting 1 (λ d. d) (λ d. refl)) a 0) at r.few_binders;
    fits = rw (lifted_fits t.vocabulary (s ∷ []) v a []) at r.fits;
  }

module _ (t : Statements) (v : List ℕ) (h : List Form) where
  pub by_line : (i : ℕ) (a : Form) → Sorted t.vocabulary v a → slice_get t.formulas i ≡ Some a → Proves t v h (Line i) a
  by_line i a s e = (Proves-Line t v h i a).1 (s, e)

  pub by_hyp : (i : ℕ) (a : Form) → Sorted t.vocabulary v a → slice_get h i ≡ Some a → Proves t v h (Hyp i) a
  by_hyp i a s e = (Proves-Hyp t v h i a).1 (s, e)

  all_sorted_of : (ps : List Proof) (as_ : List Form) → ProveAll t v h ps as_ → AllByRecursion (Sorted t.vocabulary v) as_
  all_sorted_of [] [] w = tt
  all_sorted_of [] (a ∷ as_) w = absurd w
  all_sorted_of (p ∷ ps) [] w = absurd w
  all_sorted_of (p ∷ ps) (a ∷ as_) w = (shown_sorted t v h p a w.0, all_sorted_of ps as_ w.1)

  pub by_and_i : (ps : List Proof) (as_ : List Form) → IsScope t.vocabulary v → ProveAll t v h ps as_ → Proves t v h (AndI ps) (And as_)
  by_and_i ps as_ sc w = (Proves-AndI t v h ps (And as_)).1 (and_sorted t.vocabulary v 2147483647 sc as_ (all_sorted_of ps as_ w), (as_, refl, w))

  pub by_and_e : (k : ℕ) (p : Proof) (as_ : List Form) (a : Form) → slice_get as_ k ≡ Some a → Proves t v h p (And as_) → Proves t v h (AndE k p) a
  by_and_e k p as_ a e w =
      let each = sorted_of_and t.vocabulary v 2147483647 as_ (shown_sorted t v h p (And as_) w) in
      (Proves-AndE t v h k p a).1 (member_of (Sorted t.vocabulary v) as_ k a each e, (as_, w, e))

  pub by_or_i : (as_ : List Form) (k : ℕ) (p : Proof) (b : Form) → Sorted t.vocabulary v (Or as_) → slice_get as_ k ≡ Some b → Proves t v h p b → Proves t v h (OrI as_ k p) (Or as_)
  by_or_i as_ k p b s e w = (Proves-OrI t v h as_ k p (Or as_)).1 (s, refl, (b, e, w))

  pub by_or_e : (g : Form) (p : Proof) (qs : List Proof) (as_ : List Form) → Sorted t.vocabulary v g → Proves t v h p (Or as_) → ProveEach t v h qs as_ g → Proves t v h (OrE g p qs) g
  by_or_e g p qs as_ s w each = (Proves-OrE t v h g p qs g).1 (s, refl, (as_, w, each))

  pub by_imp_i : (b c : Form) (p : Proof) → Sorted t.vocabulary v b → Proves t v (b ∷ h) p c → Proves t v h (ImpI b p) (Imp b c)
  by_imp_i b c p s w = (Proves-ImpI t v h b p (Imp b c)).1 (imp_sorted t.vocabulary v 2147483647 b c s (shown_sorted t v (b ∷ h) p c w), (c, refl, w))

  pub by_imp_e : (p q : Proof) (b a : Form) → Proves t v h p (Imp b a) → Proves t v h q b → Proves t v h (ImpE p q) a
  by_imp_e p q b a w z = (Proves-ImpE t v h p q a).1 ((sorted_of_imp t.vocabulary v 2147483647 b a (shown_sorted t v h p (Imp b a) w)).1, (b, w, z))

  pub by_not_i : (b : Form) (p : Proof) → Sorted t.vocabulary v b → Proves t v (b ∷ h) p (Or []) → Proves t v h (NotI b p) (Not b)
  by_not_i b p s w = (Proves-NotI t v h b p (Not b)).1 (not_sorted t.vocabulary v 2147483647 b s, refl, w)

  pub by_not_e : (p q : Proof) (b : Form) → Proves t v h p (Not b) → Proves t v h q b → Proves t v h (NotE p q) (Or [])
  by_not_e p q b w z = (Proves-NotE t v h p q (Or [])).1 (or_sorted t.vocabulary v 2147483647 (shown_sorted t v h q b z).scope_fits [] tt, refl, (b, w, z))

  pub by_raa : (g : Form) (p : Proof) → Sorted t.vocabulary v g → Proves t v (Not g ∷ h) p (Or []) → Proves t v h (Raa g p) g
  by_raa g p s w = (Proves-Raa t v h g p g).1 (s, refl, w)

  pub by_all_i : (s : ℕ) (b : Form) (p : Proof) → Sorted t.vocabulary v (All s b) → Proves t (s ∷ v) (all_over h) p b → Proves t v h (AllI s p) (All s b)
  by_all_i s b p r w = (Proves-AllI t v h s p (All s b)).1 (r, (b, refl, w))

  pub by_iff_i : (b c : Form) (p q : Proof) → Proves t v (b ∷ h) p c → Proves t v (c ∷ h) q b → Proves t v h (IffI b c p q) (Iff b c)
  by_iff_i b c p q w z = (Proves-IffI t v h b c p q (Iff b c)).1 (iff_sorted t.vocabulary v 2147483647 b c (shown_sorted t v (c ∷ h) q b z) (shown_sorted t v (b ∷ h) p c w), refl, w, z)

  pub by_iff_l : (p q : Proof) (b a : Form) → Proves t v h p (Iff b a) → Proves t v h q b → Proves t v h (IffL p q) a
  by_iff_l p q b a w z = (Proves-IffL t v h p q a).1 ((sorted_of_iff t.vocabulary v 2147483647 b a (shown_sorted t v h p (Iff b a) w)).1, (b, w, z))

  pub by_iff_r : (p q : Proof) (a b : Form) → Proves t v h p (Iff a b) → Proves t v h q b → Proves t v h (IffR p q) a
  by_iff_r p q a b w z = (Proves-IffR t v h p q a).1 ((sorted_of_iff t.vocabulary v 2147483647 a b (shown_sorted t v h p (Iff a b) w)).0, (b, w, z))

  pub by_refl : (x : Term) (s : ℕ) → IsScope t.vocabulary v → sort_of_term t.vocabulary v x ≡ Some s → Proves t v h (Refl x) (Eq x x)
  by_refl x s sc e = (Proves-Refl t v h x (Eq x x)).1 (eq_sorted t.vocabulary v 2147483647 sc x x s e e, refl)

  pub by_all_e : (x : Term) (p : Proof) (s : ℕ) (b : Form) → sort_of_term t.vocabulary v x ≡ Some s → Proves t v h p (All s b) → Proves t v h (AllE x p) (instance_at x 0 b)
  by_all_e x p s b e w =
      let fits = instance_sorted t.vocabulary v 2147483647 s b x e (shown_sorted t v h p (All s b) w) in
      (Proves-AllE t v h x p (instance_at x 0 b)).1 (fits, (s, b, w, e, refl))

  pub by_ex_i : (s : ℕ) (b : Form) (x : Term) (p : Proof) → length v < 2147483647 → Sorted t.vocabulary v (Ex s b) → sort_of_term t.vocabulary v x ≡ Some s → Proves t v h p (instance_at x 0 b)
      → Proves t v h (ExI s b x p) (Ex s b)
  by_ex_i s b x p room r e w =
      (Proves-ExI t v h s b x p (Ex s b)).1 (r, refl, sorted_of_ex t.vocabulary v 2147483647 2147483647 s b (omega arith) room r, e, w)

  pub by_subst : (s : ℕ) (b : Form) (p q : Proof) (l r : Term) → Sorted t.vocabulary (s ∷ v) b → Proves t v h p (Eq l r) → sort_of_term t.vocabulary v l ≡ Some s → Proves t v h q (instance_at l 0 b)
      → Proves t v h (Subst s b p q) (instance_at r 0 b)
  by_subst s b p q l r body w e z =
      let sides = sorted_of_eq t.vocabulary v 2147483647 l r (shown_sorted t v h p (Eq l r) w) in
      let same : Some sides.0 ≡ Some s = sym sides.1 ∙ e in
      let fits = body_instance_sorted t.vocabulary v 2147483647 s b r (sides.2 ∙ same) (shown_sorted t v h p (Eq l r) w).scope_fits body.few_binders body.fits in
      (Proves-Subst t v h s b p q (instance_at r 0 b)).1 (fits, body, (l, r, w, e, z, refl))

  pub by_ex_e : (g : Form) (p q : Proof) (s : ℕ) (b : Form) → Sorted t.vocabulary v g → Proves t v h p (Ex s b) → Proves t (s ∷ v) (b ∷ all_over h) q (over g) → Proves t v h (ExE g p q) g
  by_ex_e g p q s b r w z = (Proves-ExE t v h g p q g).1 (r, refl, (s, b, w, z))

  pub by_inhabit : (s : ℕ) (g : Form) (p : Proof) → Proves t (s ∷ v) (all_over h) p (over g) → Proves t v h (Inhabit s g p) g
  by_inhabit s g p w = (Proves-Inhabit t v h s g p g).1 (sorted_of_over t v s g (shown_sorted t (s ∷ v) (all_over h) p (over g) w), refl, w)

-- at the nearest variable itself
module _ (t : Statements) (v : List ℕ) (h : List Form) (s : ℕ) (a : Form) where
  pub by_all_e_here : (p : Proof) → Sorted t.vocabulary (s ∷ v) a → Proves t (s ∷ v) h p (All s (lifted 1 1 a)) → Proves t (s ∷ v) h (AllE (Var 0) p) a
  by_all_e_here p r w = (Proves-AllE t (s ∷ v) h (Var 0) p a).1 (r, (s, lifted 1 1 a, w, rw sort_of_term-Var refl, sym (instance_back a 0)))

  pub by_ex_i_here : (p : Proof) → length v + 1 < 2147483647 → Sorted t.vocabulary (s ∷ v) (Ex s (lifted 1 1 a)) → Proves t (s ∷ v) h p a
      → Proves t (s ∷ v) h (ExI s (lifted 1 1 a) (Var 0) p) (Ex s (lifted 1 1 a))
  by_ex_i_here p room r w = by_ex_i t (s ∷ v) h s (lifted 1 1 a) (Var 0) p (omega arith) r (rw sort_of_term-Var refl) (rw (instance_back a 0) w)
