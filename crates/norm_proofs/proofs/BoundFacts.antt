-- Lemmas on what specs/code/Bound defines.
use Rattle.std.specs.Prelude.{ℕ, Bool, true, false, ◌≡◌, ◌+◌, ◌≤◌, ◌<◌, length, List, [], ◌∷◌}
use Rattle.std.proofs.Common.{arith, subst}
use Rattle.fof_terms.specs.declared.term.Term.{Var}
use Rattle.fof_terms.specs.declared.form.Form.{Form, Not, Or, All, Ex}
use Rattle.fof_terms.specs.Lift.{lifted}
use Rattle.fof_terms.proofs.LiftFacts.{lifted-All, lifted-Ex, lifted-Not, lifted-Or}
use Rattle.fof_terms.specs.Instance.{instance_at}
use Rattle.fof_terms.specs.Sorts.{binder_depth, SortedTo, Sorted}
use Rattle.fof_terms.proofs.Scoped.{raised, not_sorted, sorted_of_not, or_sorted, sorted_of_all, sorted_of_ex, all_sorted, ex_sorted}
use Rattle.fof_terms.proofs.Unused.{unused_back}
use Rattle.fof_terms.specs.Variables.{has_variable}
use Rattle.clause_form.specs.Norm.{signed, quantifier, quantified}
use Rattle.clause_form.proofs.NormFacts.{quantified-kept, quantified-dropped}
use Rattle.kernel.specs.Statements.{Statements}
use Rattle.kernel.specs.Proves.{Proves, over, all_over}
use Rattle.kernel.proofs.Building.{shown_sorted, over_sorted, sorted_of_over, by_imp_i, by_not_i, by_not_e, by_raa, by_all_i, by_all_e_here, by_ex_i_here, by_ex_e, by_inhabit}
use Rattle.kernel.specs.declared.proof.Proof.{Proof, Hyp}
use Rattle.norm_proofs.specs.code.Steps.{Between, then_tree}
use Rattle.derive_kit.proofs.Members.{first, second, third}
use Rattle.norm_proofs.proofs.ApplyingFacts.{by_applied}
use Rattle.norm_proofs.proofs.StepsFacts.{other_sorted, then_shows}
use Rattle.norm_proofs.specs.code.Links.{kind_of}
use Rattle.norm_proofs.specs.code.Bound.{at_variable, by_variable, bound_tree, dropped_tree}

module _ (t : Statements) (v : List ℕ) (s : ℕ) where
  sorted_body : (k : Bool) (a : Form) → length v < 2147483647 → Sorted t.vocabulary v (quantifier k s a) → SortedTo 2147483646 t.vocabulary (s ∷ v) a
  sorted_body true a room r = sorted_of_all t.vocabulary v 2147483647 2147483646 s a (omega arith) room r
  sorted_body false a room r = sorted_of_ex t.vocabulary v 2147483647 2147483646 s a (omega arith) room r

  sorted_quantifier : (k : Bool) (a b : Form) → binder_depth b ≤ binder_depth a → SortedTo 2147483646 t.vocabulary (s ∷ v) a → Sorted t.vocabulary (s ∷ v) b → Sorted t.vocabulary v (quantifier k s b)
  sorted_quantifier true a b small ra rb = all_sorted t.vocabulary v 2147483646 s b (record { scope_fits = rb.scope_fits; few_binders = omega (arith, ra.few_binders); fits = rb.fits })
  sorted_quantifier false a b small ra rb = ex_sorted t.vocabulary v 2147483646 s b (record { scope_fits = rb.scope_fits; few_binders = omega (arith, ra.few_binders); fits = rb.fits })

  full : (a : Form) → SortedTo 2147483646 t.vocabulary (s ∷ v) a → Sorted t.vocabulary (s ∷ v) a
  full a r = raised t.vocabulary (s ∷ v) 2147483646 2147483647 a (omega arith) r

  -- the quantified formula itself, over its variable
  here_from_all : (a : Form) (h : List Form) (p : Proof) → Sorted t.vocabulary (s ∷ v) a → Proves t (s ∷ v) h p (over (All s a)) → Proves t (s ∷ v) h (at_variable p) a
  here_from_all a h p r w = by_all_e_here t v h s a p r (rw lifted-All at w)

  here_to_ex : (a : Form) (h : List Form) (p : Proof) → length v + 1 < 2147483647 → Sorted t.vocabulary v (Ex s a) → Proves t (s ∷ v) h p a → Proves t (s ∷ v) h (by_variable s a p) (over (Ex s a))
  here_to_ex a h p room r w =
      let ro : Sorted t.vocabulary (s ∷ v) (Ex s (lifted 1 1 a)) = rw lifted-Ex at (over_sorted t v s (Ex s a) (shown_sorted t (s ∷ v) h p a w).scope_fits r) in
      rw lifted-Ex (by_ex_i_here t v h s a p room ro w)

  denied_over : (a : Form) (h : List Form) (p : Proof) → Proves t (s ∷ v) h p (over (Not a)) → Proves t (s ∷ v) h p (Not (over a))
  denied_over a h p w = rw lifted-Not at w

  none_over : (h : List Form) (p : Proof) → Proves t (s ∷ v) h p (Or []) → Proves t (s ∷ v) h p (over (Or []))
  none_over h p w = rw lifted-Or w

  -- over the variable, a hypothesis
  module _ (h : List Form) (b : Form) where
    first_over : (a : Form) → Sorted t.vocabulary (s ∷ v) b → Sorted t.vocabulary v a → Proves t (s ∷ v) (all_over (a ∷ h)) (Hyp 0) (over a)
    first_over a r sa = first t (s ∷ v) (all_over h) (over a) (over_sorted t v s a r.scope_fits sa)

    second_over : (a : Form) → Sorted t.vocabulary (s ∷ v) b → Sorted t.vocabulary v a → Proves t (s ∷ v) (b ∷ all_over (a ∷ h)) (Hyp 1) (over a)
    second_over a r sa = second t (s ∷ v) (all_over h) b (over a) (over_sorted t v s a r.scope_fits sa)

    third_over : (a c : Form) → Sorted t.vocabulary (s ∷ v) b → Sorted t.vocabulary v a → Proves t (s ∷ v) (b ∷ all_over (c ∷ a ∷ h)) (Hyp 2) (over a)
    third_over a c r sa = third t (s ∷ v) (all_over h) b (over c) (over a) (over_sorted t v s a r.scope_fits sa)

module _ (n s : ℕ) (a b : Form) (q : Proof) (small : binder_depth b ≤ binder_depth a) where
  pub bound_shows : (conj g forth : Bool) → Between forth n q (signed g a) b → Between forth (n + 1) (bound_tree conj g forth s a b q) (signed g (quantifier conj s a)) (quantifier (kind_of conj g) s b)
  bound_shows true true true l t v h room r =
      let ra = sorted_body t v s true a (omega arith) r in
      let sa = full t v s a ra in
      let sb = other_sorted true n q a b l t (s ∷ v) (omega arith) sa in
      let sq = sorted_quantifier t v s true a b small ra sb in
      let h1 = All s a ∷ h in
      by_imp_i t v h (All s a) (All s b) _ r
      (by_all_i t v h1 s b _ sq
      (by_applied t (s ∷ v) (all_over h1) q _ a b (l t (s ∷ v) (all_over h1) (omega arith) sa) (here_from_all t v s a (all_over h1) (Hyp 0) sa (first_over t v s h a (All s a) sa r))))
  bound_shows true true false l t v h room r =
      let ra = sorted_body t v s true a (omega arith) r in
      let sa = full t v s a ra in
      let sb = other_sorted false n q a b l t (s ∷ v) (omega arith) sa in
      let sq = sorted_quantifier t v s true a b small ra sb in
      let h1 = All s b ∷ h in
      by_imp_i t v h (All s b) (All s a) _ sq
      (by_all_i t v h1 s a _ r
      (by_applied t (s ∷ v) (all_over h1) q _ b a (l t (s ∷ v) (all_over h1) (omega arith) sa) (here_from_all t v s b (all_over h1) (Hyp 0) sb (first_over t v s h b (All s b) sb sq))))
  bound_shows false true true l t v h room r =
      let ra = sorted_body t v s false a (omega arith) r in
      let sa = full t v s a ra in
      let sb = other_sorted true n q a b l t (s ∷ v) (omega arith) sa in
      let sq = sorted_quantifier t v s false a b small ra sb in
      let h1 = Ex s a ∷ h in
      let h2 = a ∷ all_over h1 in
      by_imp_i t v h (Ex s a) (Ex s b) _ r
      (by_ex_e t v h1 (Ex s b) (Hyp 0) _ s a sq (first t v h (Ex s a) r)
      (here_to_ex t v s b h2 _ (omega arith) sq (by_applied t (s ∷ v) h2 q (Hyp 0) a b (l t (s ∷ v) h2 (omega arith) sa) (first t (s ∷ v) (all_over h1) a sa))))
  bound_shows false true false l t v h room r =
      let ra = sorted_body t v s false a (omega arith) r in
      let sa = full t v s a ra in
      let sb = other_sorted false n q a b l t (s ∷ v) (omega arith) sa in
      let sq = sorted_quantifier t v s false a b small ra sb in
      let h1 = Ex s b ∷ h in
      let h2 = b ∷ all_over h1 in
      by_imp_i t v h (Ex s b) (Ex s a) _ sq
      (by_ex_e t v h1 (Ex s a) (Hyp 0) _ s b r (first t v h (Ex s b) sq)
      (here_to_ex t v s a h2 _ (omega arith) r (by_applied t (s ∷ v) h2 q (Hyp 0) b a (l t (s ∷ v) h2 (omega arith) sa) (first t (s ∷ v) (all_over h1) b sb))))
  bound_shows true false true l t v h room rn =
      let r = sorted_of_not t.vocabulary v 2147483647 (All s a) rn in
      let ra = sorted_body t v s true a (omega arith) r in
      let sa = full t v s a ra in
      let sna = not_sorted t.vocabulary (s ∷ v) 2147483647 a sa in
      let sb = other_sorted true n q (Not a) b l t (s ∷ v) (omega arith) sna in
      let sq = sorted_quantifier t v s false a b small ra sb in
      let snq = not_sorted t.vocabulary v 2147483647 (Ex s b) sq in
      let h1 = Not (All s a) ∷ h in
      let h2 = Not (Ex s b) ∷ h1 in
      let h3 = Not a ∷ all_over h2 in
      let inner = by_applied t (s ∷ v) h3 q (Hyp 0) (Not a) b (l t (s ∷ v) h3 (omega arith) sna) (first t (s ∷ v) (all_over h2) (Not a) sna) in
      by_imp_i t v h (Not (All s a)) (Ex s b) _ rn
      (by_raa t v h1 (Ex s b) _ sq
      (by_not_e t v h2 (Hyp 1) _ (All s a) (second t v h (Not (Ex s b)) (Not (All s a)) rn)
      (by_all_i t v h2 s a _ r
      (by_raa t (s ∷ v) (all_over h2) a _ sa
      (by_not_e t (s ∷ v) h3 (Hyp 1) _ (over (Ex s b)) (denied_over t v s (Ex s b) h3 (Hyp 1) (second_over t v s h1 (Not a) (Not (Ex s b)) sna snq)) (here_to_ex t v s b h3 _ (omega arith) sq inner))))))
  bound_shows true false false l t v h room rn =
      let r = sorted_of_not t.vocabulary v 2147483647 (All s a) rn in
      let ra = sorted_body t v s true a (omega arith) r in
      let sa = full t v s a ra in
      let sna = not_sorted t.vocabulary (s ∷ v) 2147483647 a sa in
      let sb = other_sorted false n q (Not a) b l t (s ∷ v) (omega arith) sna in
      let sq = sorted_quantifier t v s false a b small ra sb in
      let none = or_sorted t.vocabulary v 2147483647 r.scope_fits [] tt in
      let h1 = Ex s b ∷ h in
      let h2 = All s a ∷ h1 in
      let h3 = b ∷ all_over h2 in
      by_imp_i t v h (Ex s b) (Not (All s a)) _ sq
      (by_not_i t v h1 (All s a) _ r
      (by_ex_e t v h2 (Or []) (Hyp 1) _ s b none (second t v h (All s a) (Ex s b) sq)
      (none_over t v s h3 _
      (by_not_e t (s ∷ v) h3 _ _ a (by_applied t (s ∷ v) h3 q (Hyp 0) b (Not a) (l t (s ∷ v) h3 (omega arith) sna) (first t (s ∷ v) (all_over h2) b sb))
      (here_from_all t v s a h3 (Hyp 1) sa (second_over t v s h1 b (All s a) sb r))))))
  bound_shows false false true l t v h room rn =
      let r = sorted_of_not t.vocabulary v 2147483647 (Ex s a) rn in
      let ra = sorted_body t v s false a (omega arith) r in
      let sa = full t v s a ra in
      let sna = not_sorted t.vocabulary (s ∷ v) 2147483647 a sa in
      let sb = other_sorted true n q (Not a) b l t (s ∷ v) (omega arith) sna in
      let sq = sorted_quantifier t v s true a b small ra sb in
      let h1 = Not (Ex s a) ∷ h in
      let h2 = a ∷ all_over h1 in
      by_imp_i t v h (Not (Ex s a)) (All s b) _ rn
      (by_all_i t v h1 s b _ sq
      (by_applied t (s ∷ v) (all_over h1) q _ (Not a) b (l t (s ∷ v) (all_over h1) (omega arith) sna)
      (by_not_i t (s ∷ v) (all_over h1) a _ sa
      (by_not_e t (s ∷ v) h2 (Hyp 1) _ (over (Ex s a)) (denied_over t v s (Ex s a) h2 (Hyp 1) (second_over t v s h a (Not (Ex s a)) sa rn)) (here_to_ex t v s a h2 (Hyp 0) (omega arith) r (first t (s ∷ v) (all_over h1) a sa))))))
  bound_shows false false false l t v h room rn =
      let r = sorted_of_not t.vocabulary v 2147483647 (Ex s a) rn in
      let ra = sorted_body t v s false a (omega arith) r in
      let sa = full t v s a ra in
      let sna = not_sorted t.vocabulary (s ∷ v) 2147483647 a sa in
      let sb = other_sorted false n q (Not a) b l t (s ∷ v) (omega arith) sna in
      let sq = sorted_quantifier t v s true a b small ra sb in
      let none = or_sorted t.vocabulary v 2147483647 r.scope_fits [] tt in
      let h1 = All s b ∷ h in
      let h2 = Ex s a ∷ h1 in
      let h3 = a ∷ all_over h2 in
      by_imp_i t v h (All s b) (Not (Ex s a)) _ sq
      (by_not_i t v h1 (Ex s a) _ r
      (by_ex_e t v h2 (Or []) (Hyp 0) _ s a none (first t v h1 (Ex s a) r)
      (none_over t v s h3 _
      (by_not_e t (s ∷ v) h3 _ (Hyp 0) a
      (by_applied t (s ∷ v) h3 q _ b (Not a) (l t (s ∷ v) h3 (omega arith) sna) (here_from_all t v s b h3 (Hyp 2) sb (third_over t v s h a (All s b) (Ex s a) sa sq)))
      (first t (s ∷ v) (all_over h2) a sa)))))

module _ (n s : ℕ) (b : Form) (unused : has_variable 0 b ≡ false) where
  abbrev freed : Form
  freed = instance_at (Var 0) 0 b

  over_freed : over freed ≡ b
  over_freed = unused_back (Var 0) b 0 unused

  own_freed : (t : Statements) (v : List ℕ) (h : List Form) → Sorted t.vocabulary (s ∷ v) b → Sorted t.vocabulary v freed → Proves t (s ∷ v) (all_over (freed ∷ h)) (Hyp 0) b
  own_freed t v h sb sf = subst (λ a. Proves t (s ∷ v) (all_over (freed ∷ h)) (Hyp 0) a) over_freed (first_over t v s h b freed sb sf)

  pub dropped_shows : (k forth : Bool) → Between forth (n + 1) (dropped_tree k forth s b freed) (quantifier k s b) freed
  dropped_shows true true t v h room r =
      let sb = full t v s b (sorted_body t v s true b (omega arith) r) in
      let h1 = All s b ∷ h in
      by_imp_i t v h (All s b) freed _ r (by_inhabit t v h1 s freed _ (rw over_freed (here_from_all t v s b (all_over h1) (Hyp 0) sb (first_over t v s h b (All s b) sb r))))
  dropped_shows true false t v h room r =
      let sb = full t v s b (sorted_body t v s true b (omega arith) r) in
      let sf = sorted_of_over t v s freed (rw over_freed sb) in
      let h1 = freed ∷ h in
      by_imp_i t v h freed (All s b) _ sf (by_all_i t v h1 s b (Hyp 0) r (own_freed t v h sb sf))
  dropped_shows false true t v h room r =
      let sb = full t v s b (sorted_body t v s false b (omega arith) r) in
      let sf = sorted_of_over t v s freed (rw over_freed sb) in
      let h1 = Ex s b ∷ h in
      by_imp_i t v h (Ex s b) freed _ r (by_ex_e t v h1 freed (Hyp 0) (Hyp 0) s b sf (first t v h (Ex s b) r) (rw over_freed (first t (s ∷ v) (all_over h1) b sb)))
  dropped_shows false false t v h room r =
      let sb = full t v s b (sorted_body t v s false b (omega arith) r) in
      let sf = sorted_of_over t v s freed (rw over_freed sb) in
      let h1 = freed ∷ h in
      let own = own_freed t v h sb sf in
      by_imp_i t v h freed (Ex s b) _ sf (by_inhabit t v h1 s (Ex s b) _ (here_to_ex t v s b (all_over h1) (Hyp 0) (omega arith) r own))

-- the quantified formula and the quantifier over the body's normal form, which stays or is dropped
pub stays_shows : (conj g forth : Bool) (n s : ℕ) (a b : Form) (q : Proof) → binder_depth b ≤ binder_depth a → has_variable 0 b ≡ true → Between forth n q (signed g a) b
    → Between forth (n + 1) (bound_tree conj g forth s a b q) (signed g (quantifier conj s a)) (quantified (kind_of conj g) s b)
stays_shows conj g forth n s a b q small used l = rw (quantified-kept (kind_of conj g) s b used) (bound_shows n s a b q small conj g forth l)

pub goes_shows : (conj g forth : Bool) (n s : ℕ) (a b : Form) (q : Proof) → binder_depth b ≤ binder_depth a → has_variable 0 b ≡ false → Between forth n q (signed g a) b
    → Between forth (n + 1) (then_tree forth (signed g (quantifier conj s a)) (instance_at (Var 0) 0 b) (bound_tree conj g forth s a b q) (dropped_tree (kind_of conj g) forth s b (instance_at (Var 0) 0 b)))
    (signed g (quantifier conj s a)) (quantified (kind_of conj g) s b)
goes_shows conj g forth n s a b q small unused l =
    rw (quantified-dropped (kind_of conj g) s b unused)
    (then_shows forth (n + 1) _ _ (signed g (quantifier conj s a)) (quantifier (kind_of conj g) s b) (instance_at (Var 0) 0 b) (bound_shows n s a b q small conj g forth l) (dropped_shows n s b unused (kind_of conj g) forth))
