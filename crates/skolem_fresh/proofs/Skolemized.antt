-- What a formula without its existential quantifiers keeps of the formula.
use Rattle.std.specs.Prelude.{ℕ, ◌≡◌, ◌+◌, ◌≤◌, ◌||◌, Bool, true, false, List, [], ◌∷◌, map, refl}
use Rattle.std.specs.List.{list_any}
use Rattle.std.proofs.Common.{sym, subst, ◌∙◌, arith, inl, inr}
use Rattle.fof_terms.specs.declared.form.Form.{Form, Atom, Eq, Not, And, Or, All, Ex}
use Rattle.fof_terms.specs.declared.form.Form.TheOpen as form
use Rattle.fof_terms.specs.declared.form.Form.TheViews.{out-Form, outs-Atom, outs-Eq, outs-Not, outs-And, outs-Or, outs-All, outs-Ex}
use Rattle.fof_terms.specs.Lift.{greatest}
use Rattle.fof_terms.specs.Instance.{instance_of, instance_at, instance_term}
use Rattle.fof_terms.specs.Sorts.{binder_depth}
use Rattle.fof_terms.proofs.SortsFacts.{binder_depth-And, binder_depth-Or, binder_depth-All, binder_depth-Ex}
use Rattle.fof_terms.specs.Variables.{has_variable}
use Rattle.fof_terms.proofs.VariablesFacts.{has_variable-And, has_variable-Or, has_variable-All, has_variable-Ex}
use Rattle.fof_terms.specs.Vocabulary.{Vocabulary}
use Rattle.fof_terms.proofs.Walks.{placing, same_depth}
use Rattle.clause_form.specs.Norm.{node}
use Rattle.skolem_fresh.specs.declared.just.Use.{Use}
use Rattle.skolem_fresh.specs.Uses.{value_of}
use Rattle.skolem_fresh.specs.SkolemRule.{MayReplace, IsSkolemized, AreSkolemized, an_atom, an_equation, a_negation, a_conjunction, a_disjunction, for_each, for_some, none, more}
use Rattle.skolem_fresh.specs.code.Solid.{IsSolid, AreSolid, a_node, a_quantifier, no_member, a_member}
use Rattle.skolem_fresh.proofs.SolidFacts.{AreSome}
use Rattle.skolem_fresh.proofs.Freely.{one_of}
use Rattle.skolem_fresh.proofs.SolidLaws.{node_solid, quantifier_solid, first_solid, instance_solid, keeps}

or_first : (a b : Bool) → a ≡ true → (a || b) ≡ true
or_first a b e = rw e refl

or_second : (a b : Bool) → b ≡ true → (a || b) ≡ true
or_second true b e = refl
or_second false b e = e

module _ (v : Vocabulary) where
  -- By the kind of the formula.
  abbrev pub SkolemizedIn : List ℕ → List Use → form.Form-F Form → Form → Form → Type 0
  SkolemizedIn scope uses (form.Atom p ts) a b = (uses ≡ []) × (b ≡ a)
  SkolemizedIn scope uses (form.Eq l r) a b = (uses ≡ []) × (b ≡ a)
  SkolemizedIn scope uses (form.Not c) a b = (uses ≡ []) × (b ≡ a)
  SkolemizedIn scope uses (form.And as_) a b = (bs : List Form) × (b ≡ And bs) × AreSkolemized v scope uses as_ bs
  SkolemizedIn scope uses (form.Or as_) a b = (bs : List Form) × (b ≡ Or bs) × AreSkolemized v scope uses as_ bs
  SkolemizedIn scope uses (form.Imp l r) a b = ⊥
  SkolemizedIn scope uses (form.Iff l r) a b = ⊥
  SkolemizedIn scope uses (form.All s c) a b = (d : Form) × (b ≡ All s d) × IsSkolemized v (s ∷ scope) uses c d
  SkolemizedIn scope uses (form.Ex s c) a b = (u : Use) × (rest : List Use) × (uses ≡ u ∷ rest) × MayReplace v scope u s c × IsSkolemized v scope rest (instance_of c (value_of u)) b

  pub skolemized_in : (scope : List ℕ) (uses : List Use) (a b : Form) → IsSkolemized v scope uses a b → SkolemizedIn scope uses (out-Form a) a b
  skolemized_in scope uses a b (an_atom sc p ts) = subst (λ y. SkolemizedIn scope [] y (Atom p ts) (Atom p ts)) (sym (outs-Atom p ts)) (refl, refl)
  skolemized_in scope uses a b (an_equation sc l r) = subst (λ y. SkolemizedIn scope [] y (Eq l r) (Eq l r)) (sym (outs-Eq l r)) (refl, refl)
  skolemized_in scope uses a b (a_negation sc c) = subst (λ y. SkolemizedIn scope [] y (Not c) (Not c)) (sym (outs-Not c)) (refl, refl)
  skolemized_in scope uses a b (a_conjunction sc us as_ bs h) = subst (λ y. SkolemizedIn scope uses y (And as_) (And bs)) (sym (outs-And as_)) (bs, refl, h)
  skolemized_in scope uses a b (a_disjunction sc us as_ bs h) = subst (λ y. SkolemizedIn scope uses y (Or as_) (Or bs)) (sym (outs-Or as_)) (bs, refl, h)
  skolemized_in scope uses a b (for_each sc us s c d h) = subst (λ y. SkolemizedIn scope uses y (All s c) (All s d)) (sym (outs-All s c)) (d, refl, h)
  skolemized_in scope uses a b (for_some sc u rest s c d m h) = subst (λ y. SkolemizedIn scope (u ∷ rest) y (Ex s c) d) (sym (outs-Ex s c)) (u, rest, refl, m, h)

  mutual
    -- variables that stand in it stand there still
    pub has_kept : (scope : List ℕ) (uses : List Use) (a b : Form) → IsSkolemized v scope uses a b → (k : ℕ) → has_variable k a ≡ true → has_variable k b ≡ true
    has_kept scope uses a b (an_atom sc p ts) k e = e
    has_kept scope uses a b (an_equation sc l r) k e = e
    has_kept scope uses a b (a_negation sc c) k e = e
    has_kept scope uses a b (a_conjunction sc us as_ bs h) k e = has_variable-And k bs ∙ any_kept scope us as_ bs h k (sym (has_variable-And k as_) ∙ e)
    has_kept scope uses a b (a_disjunction sc us as_ bs h) k e = has_variable-Or k bs ∙ any_kept scope us as_ bs h k (sym (has_variable-Or k as_) ∙ e)
    has_kept scope uses a b (for_each sc us s c d h) k e = has_variable-All k s d ∙ has_kept (s ∷ scope) us c d h (k + 1) (sym (has_variable-All k s c) ∙ e)
    has_kept scope uses a b (for_some sc u rest s c d m h) k e =
        has_kept scope rest (instance_of c (value_of u)) d h k (keeps (value_of u) c 0 (k + 1) k (inr (omega arith, refl)) (sym (has_variable-Ex k s c) ∙ e))

    any_kept : (scope : List ℕ) (uses : List Use) (as_ bs : List Form) → AreSkolemized v scope uses as_ bs → (k : ℕ) → list_any (has_variable k) as_ ≡ true → list_any (has_variable k) bs ≡ true
    any_kept scope uses as_ bs (none sc) k e = e
    any_kept scope uses as_ bs (more sc first rest a b cs ds h g) k e =
        elim (one_of (has_variable k a) (list_any (has_variable k) cs) e) [
          | inl one ↦ or_first (has_variable k b) (list_any (has_variable k) ds) (has_kept scope first a b h k one)
          | inr one ↦ or_second (has_variable k b) (list_any (has_variable k) ds) (any_kept scope rest cs ds g k one)
        ]

  mutual
    -- it stays solid
    pub solid_kept : (scope : List ℕ) (uses : List Use) (a b : Form) → IsSkolemized v scope uses a b → IsSolid a → IsSolid b
    solid_kept scope uses a b (an_atom sc p ts) s = s
    solid_kept scope uses a b (an_equation sc l r) s = s
    solid_kept scope uses a b (a_negation sc c) s = s
    solid_kept scope uses a b (a_conjunction sc us as_ bs h) s = some_kept true scope us as_ bs h (node_solid true as_ s)
    solid_kept scope uses a b (a_disjunction sc us as_ bs h) s = some_kept false scope us as_ bs h (node_solid false as_ s)
    solid_kept scope uses a b (for_each sc us s c d h) g =
        let parts = quantifier_solid true s c g in
        a_quantifier true s d (has_kept (s ∷ scope) us c d h 0 parts.0) (solid_kept (s ∷ scope) us c d h parts.1)
    solid_kept scope uses a b (for_some sc u rest s c d m h) g =
        solid_kept scope rest (instance_of c (value_of u)) d h (instance_solid (value_of u) c 0 (quantifier_solid false s c g).1)

    some_kept : (kind : Bool) (scope : List ℕ) (uses : List Use) (as_ bs : List Form) → AreSkolemized v scope uses as_ bs → AreSome as_ → IsSolid (node kind bs)
    some_kept kind scope uses as_ bs (none sc) s = absurd s
    some_kept kind scope uses as_ bs (more sc first rest a b cs ds h g) s =
        let parts = first_solid a cs s in
        a_node kind b ds (a_member b ds (solid_kept scope first a b h parts.0) (all_kept scope rest cs ds g parts.1))

    all_kept : (scope : List ℕ) (uses : List Use) (as_ bs : List Form) → AreSkolemized v scope uses as_ bs → AreSolid as_ → AreSolid bs
    all_kept scope uses as_ bs (none sc) s = no_member
    all_kept scope uses as_ bs (more sc first rest a b cs ds h g) s =
        let parts = first_solid a cs s in
        a_member b ds (solid_kept scope first a b h parts.0) (all_kept scope rest cs ds g parts.1)

  mutual
    -- no more quantifiers stand inside each other
    pub depth_kept : (scope : List ℕ) (uses : List Use) (a b : Form) → IsSkolemized v scope uses a b → binder_depth b ≤ binder_depth a
    depth_kept scope uses a b (an_atom sc p ts) = omega arith
    depth_kept scope uses a b (an_equation sc l r) = omega arith
    depth_kept scope uses a b (a_negation sc c) = omega arith
    depth_kept scope uses a b (a_conjunction sc us as_ bs h) = rw (binder_depth-And as_, binder_depth-And bs) (depths_kept scope us as_ bs h)
    depth_kept scope uses a b (a_disjunction sc us as_ bs h) = rw (binder_depth-Or as_, binder_depth-Or bs) (depths_kept scope us as_ bs h)
    depth_kept scope uses a b (for_each sc us s c d h) = let inner = depth_kept (s ∷ scope) us c d h in rw (binder_depth-All s c, binder_depth-All s d) (omega arith)
    depth_kept scope uses a b (for_some sc u rest s c d m h) =
        let inner = depth_kept scope rest (instance_of c (value_of u)) d h in
        let same : binder_depth (instance_at (value_of u) 0 c) ≡ binder_depth c = same_depth (instance_term (value_of u)) (instance_at (value_of u)) (placing (value_of u) (λ d. d) (λ d. refl)) c 0 in
        rw (binder_depth-Ex s c) (omega arith)

    depths_kept : (scope : List ℕ) (uses : List Use) (as_ bs : List Form) → AreSkolemized v scope uses as_ bs → greatest (map binder_depth bs) ≤ greatest (map binder_depth as_)
    depths_kept scope uses as_ bs (none sc) = omega arith
    depths_kept scope uses as_ bs (more sc first rest a b cs ds h g) = omega (arith, depth_kept scope first a b h, depths_kept scope rest cs ds g)
