-- Lemmas on what specs/code/Connectives defines.
use Rattle.std.specs.Prelude.{ℕ, Bool, true, false, ◌≡◌, List, [], ◌∷◌, Some, slice_get, refl}
use Rattle.fof_terms.specs.declared.form.Form.{Form, Not, And, Or, Imp, Iff}
use Rattle.fof_terms.specs.Sorts.{Sorted}
use Rattle.fof_terms.proofs.Scoped.{not_sorted, and_sorted, or_sorted, sorted_of_imp, sorted_of_iff}
use Rattle.kernel.specs.Statements.{Statements}
use Rattle.kernel.specs.Proves.{Proves}
use Rattle.kernel.proofs.Building.{by_imp_i, by_imp_e, by_not_e, by_raa, by_or_i, by_or_e, by_and_i, by_and_e, by_iff_i, by_iff_l, by_iff_r}
use Rattle.kernel.specs.declared.proof.Proof.{Proof, Hyp, AndI, AndE, OrI, OrE, ImpI, ImpE, NotE, Raa, IffI, IffL, IffR}
use Rattle.norm_proofs.specs.code.Steps.{Between}
use Rattle.derive_kit.proofs.Members.{first, second, third}
use Rattle.norm_proofs.specs.code.Connectives.{sides, sides_back, both_sides, contrary, side_at, imp_tree, iff_tree}

module _ (t : Statements) (v : List ℕ) (h : List Form) (a b : Form) (sa : Sorted t.vocabulary v a) (sb : Sorted t.vocabulary v b) where
  not_a : Sorted t.vocabulary v (Not a)
  not_a = not_sorted t.vocabulary v 2147483647 a sa

  not_b : Sorted t.vocabulary v (Not b)
  not_b = not_sorted t.vocabulary v 2147483647 b sb

  pub sides_sorted : Sorted t.vocabulary v (Or (sides a b))
  sides_sorted = or_sorted t.vocabulary v 2147483647 sa.scope_fits (sides a b) (not_a, (sb, tt))

  pub back_sorted : Sorted t.vocabulary v (Or (sides_back a b))
  back_sorted = or_sorted t.vocabulary v 2147483647 sa.scope_fits (sides_back a b) (sa, (not_b, tt))

  -- by the right side, or by the negation of the left side
  by_left : Proves t v (Not (Or (sides a b)) ∷ h) (Raa a (NotE (Hyp 1) (OrI (sides a b) 0 (Hyp 0)))) a
  by_left =
      let sn = not_sorted t.vocabulary v 2147483647 (Or (sides a b)) sides_sorted in
      let h1 = Not (Or (sides a b)) ∷ h in
      by_raa t v h1 a _ sa
      (by_not_e t v (Not a ∷ h1) (Hyp 1) _ (Or (sides a b)) (second t v h (Not a) (Not (Or (sides a b))) sn) (by_or_i t v (Not a ∷ h1) (sides a b) 0 (Hyp 0) (Not a) sides_sorted refl (first t v h1 (Not a) not_a)))

  by_right : Proves t v (Not (Or (sides_back a b)) ∷ h) (Raa b (NotE (Hyp 1) (OrI (sides_back a b) 1 (Hyp 0)))) b
  by_right =
      let sn = not_sorted t.vocabulary v 2147483647 (Or (sides_back a b)) back_sorted in
      let h1 = Not (Or (sides_back a b)) ∷ h in
      by_raa t v h1 b _ sb
      (by_not_e t v (Not b ∷ h1) (Hyp 1) _ (Or (sides_back a b)) (second t v h (Not b) (Not (Or (sides_back a b))) sn)
      (by_or_i t v (Not b ∷ h1) (sides_back a b) 1 (Hyp 0) (Not b) back_sorted refl (first t v h1 (Not b) not_b)))

  by_side : (ms : List Form) (k : ℕ) (p : Proof) (c : Form) → Sorted t.vocabulary v (Or ms) → slice_get ms k ≡ Some c → Proves t v (Not (Or ms) ∷ h) p c → Proves t v h (side_at ms k p) (Or ms)
  by_side ms k p c so e w =
      let sn = not_sorted t.vocabulary v 2147483647 (Or ms) so in
      by_raa t v h (Or ms) _ so (by_not_e t v (Not (Or ms) ∷ h) (Hyp 0) _ (Or ms) (first t v h (Not (Or ms)) sn) (by_or_i t v (Not (Or ms) ∷ h) ms k p c so e w))

  -- one side by the other and the disjunction
  right_by : (p : Proof) → Proves t v (a ∷ h) p (Or (sides a b)) → Proves t v (a ∷ h) (OrE b p (contrary b ∷ Hyp 0 ∷ [])) b
  right_by p w =
      by_or_e t v (a ∷ h) b p _ (sides a b) sb w
      (by_raa t v (Not a ∷ a ∷ h) b _ sb (by_not_e t v (Not b ∷ Not a ∷ a ∷ h) (Hyp 1) (Hyp 2) a (second t v (a ∷ h) (Not b) (Not a) not_a) (third t v h (Not b) (Not a) a sa)), (first t v (a ∷ h) b sb, tt))

  left_by : (p : Proof) → Proves t v (b ∷ h) p (Or (sides_back a b)) → Proves t v (b ∷ h) (OrE a p (Hyp 0 ∷ contrary a ∷ [])) a
  left_by p w =
      by_or_e t v (b ∷ h) a p _ (sides_back a b) sa w
      (first t v (b ∷ h) a sa, (by_raa t v (Not b ∷ b ∷ h) a _ sa (by_not_e t v (Not a ∷ Not b ∷ b ∷ h) (Hyp 1) (Hyp 2) b (second t v (b ∷ h) (Not a) (Not b) not_b) (third t v h (Not a) (Not b) b sb)), tt))

pub imp_shows : (forth : Bool) (n : ℕ) (a b : Form) → Between forth n (imp_tree forth a b) (Imp a b) (Or (sides a b))
imp_shows true n a b t v h room s =
    let parts = sorted_of_imp t.vocabulary v 2147483647 a b s in
    let so = sides_sorted t v h a b parts.0 parts.1 in
    let h1 = Imp a b ∷ h in
    let h2 = Not (Or (sides a b)) ∷ h1 in
    by_imp_i t v h (Imp a b) (Or (sides a b)) _ s
    (by_side t v h1 a b parts.0 parts.1 (sides a b) 1 _ b so refl (by_imp_e t v h2 (Hyp 1) _ a b (second t v h (Not (Or (sides a b))) (Imp a b) s) (by_left t v h1 a b parts.0 parts.1)))
imp_shows false n a b t v h room s =
    let parts = sorted_of_imp t.vocabulary v 2147483647 a b s in
    let so = sides_sorted t v h a b parts.0 parts.1 in
    let h1 = Or (sides a b) ∷ h in
    by_imp_i t v h (Or (sides a b)) (Imp a b) _ so
    (by_imp_i t v h1 a b _ parts.0 (right_by t v h1 a b parts.0 parts.1 (Hyp 1) (second t v h a (Or (sides a b)) so)))

pub iff_shows : (forth : Bool) (n : ℕ) (a b : Form) → Between forth n (iff_tree forth a b) (Iff a b) (And (both_sides a b))
iff_shows true n a b t v h room s =
    let parts = sorted_of_iff t.vocabulary v 2147483647 a b s in
    let so = sides_sorted t v h a b parts.0 parts.1 in
    let sk = back_sorted t v h a b parts.0 parts.1 in
    let h1 = Iff a b ∷ h in
    let h2 = Not (Or (sides a b)) ∷ h1 in
    let h3 = Not (Or (sides_back a b)) ∷ h1 in
    by_imp_i t v h (Iff a b) (And (both_sides a b)) _ s
    (by_and_i t v h1 _ (both_sides a b) s.scope_fits (
      by_side t v h1 a b parts.0 parts.1 (sides a b) 1 _ b so refl (by_iff_l t v h2 (Hyp 1) _ a b (second t v h (Not (Or (sides a b))) (Iff a b) s) (by_left t v h1 a b parts.0 parts.1)),
      (
        by_side t v h1 a b parts.0 parts.1 (sides_back a b) 0 _ a sk refl (by_iff_r t v h3 (Hyp 1) _ a b (second t v h (Not (Or (sides_back a b))) (Iff a b) s) (by_right t v h1 a b parts.0 parts.1)),
        tt,
      ),
    ))
iff_shows false n a b t v h room s =
    let parts = sorted_of_iff t.vocabulary v 2147483647 a b s in
    let so = sides_sorted t v h a b parts.0 parts.1 in
    let sk = back_sorted t v h a b parts.0 parts.1 in
    let sc = and_sorted t.vocabulary v 2147483647 s.scope_fits (both_sides a b) (so, (sk, tt)) in
    let h1 = And (both_sides a b) ∷ h in
    by_imp_i t v h (And (both_sides a b)) (Iff a b) _ sc
    (by_iff_i t v h1 a b _ _
    (right_by t v h1 a b parts.0 parts.1 (AndE 0 (Hyp 1)) (by_and_e t v (a ∷ h1) 0 (Hyp 1) (both_sides a b) (Or (sides a b)) refl (second t v h a (And (both_sides a b)) sc)))
    (left_by t v h1 a b parts.0 parts.1 (AndE 1 (Hyp 1)) (by_and_e t v (b ∷ h1) 1 (Hyp 1) (both_sides a b) (Or (sides_back a b)) refl (second t v h b (And (both_sides a b)) sc))))
