-- The normal form of a formula is truth, falsehood or solid; and a solid formula has the same terms, in order, as its normal
-- form.
use Rattle.std.specs.Prelude.{ℕ, ◌≡◌, ◌+◌, ◌||◌, ◌⊎◌, Bool, true, false, not, List, [], ◌∷◌, ◌++◌, map, flat_map, refl}
use Rattle.std.specs.List.{AllByRecursion, list_any}
use Rattle.std.proofs.Common.{ap, sym, subst, ◌∙◌, inl, inr}
use Rattle.std.proofs.lemmas.List.{append-nil}
use Rattle.std.proofs.lemmas.List.Concat.{flat_map-cons, flat_map-append}
use Rattle.fof_terms.specs.declared.term.Term.{Term, Var}
use Rattle.fof_terms.specs.declared.form.Form.{Form, Atom, Eq, Not}
use Rattle.fof_terms.specs.declared.form.Form.TheOpen as form
use Rattle.fof_terms.specs.declared.form.Form.TheViews.{out-Form, outs-And, outs-Or}
use Rattle.fof_terms.proofs.Induction.{form_induction}
use Rattle.fof_terms.specs.Instance.{instance_at}
use Rattle.fof_terms.proofs.InstanceFacts.{instance_at-And, instance_at-Or}
use Rattle.fof_terms.specs.Variables.{has_variable}
use Rattle.fof_terms.proofs.VariablesFacts.{has_variable-And, has_variable-Or}
use Rattle.clause_form.specs.Norm.{node, quantifier, quantified, signed, members_of, ends, alone, join, norm_of}
use Rattle.clause_form.proofs.NormFacts.{quantified-kept, quantified-dropped, joined_flat-ended, joined_flat-alone, norm_of-Atom, norm_of-Eq, norm_of-Not, norm_of-And, norm_of-Or, norm_of-Imp, norm_of-Iff, norm_of-All, norm_of-Ex}
use Rattle.clause_form.proofs.MemberKinds.{members_of-And-true, members_of-Or-false, ends-And-false, ends-Or-true}
use Rattle.clause_form.proofs.Joined.{members_cases}
use Rattle.skolem_fresh.specs.code.Leaves.{leaves_of}
use Rattle.skolem_fresh.proofs.LeavesFacts.{leaves_of-All, leaves_of-Ex}
use Rattle.skolem_fresh.specs.code.Solid.{IsSolid, AreSolid, an_atom, an_equation, a_denied_atom, a_denied_equation, a_node, a_quantifier, no_member, a_member}
use Rattle.skolem_fresh.proofs.SolidFacts.{AreSome}
use Rattle.skolem_fresh.proofs.SolidLaws.{node_solid, some_solid, first_solid, append_solid, not_ended, members_solid, members_leaves, node_leaves, instance_solid}
use Rattle.skolem_fresh.proofs.LeafLaws.{stands, stands_in}

-- the formula is truth or falsehood, or solid
abbrev pub IsDone : Form → Type 0
IsDone a = ((g : Bool) × (a ≡ node g [])) ⊎ IsSolid a

either : (b : Bool) → (b ≡ true) ⊎ (b ≡ false)
either true = inl refl
either false = inr refl

or_false : (a b : Bool) → (a || b) ≡ false → (a ≡ false) × (b ≡ false)
or_false true b e = cc
or_false false b e = (refl, e)

same_empty : (g h : Bool) (as_ : List Form) → node g as_ ≡ node h [] → as_ ≡ []
same_empty true true as_ e = let layers : form.And as_ ≡ form.And [] = sym (outs-And as_) ∙ ap out-Form e ∙ outs-And [] in cc
same_empty true false as_ e = let layers : form.And as_ ≡ form.Or [] = sym (outs-And as_) ∙ ap out-Form e ∙ outs-Or [] in cc
same_empty false true as_ e = let layers : form.Or as_ ≡ form.And [] = sym (outs-Or as_) ∙ ap out-Form e ∙ outs-And [] in cc
same_empty false false as_ e = let layers : form.Or as_ ≡ form.Or [] = sym (outs-Or as_) ∙ ap out-Form e ∙ outs-Or [] in cc

no_members : (g : Bool) → members_of g (node g []) ≡ []
no_members true = members_of-And-true []
no_members false = members_of-Or-false []

-- What is joined. A member that does not end the node is solid.
abbrev IsMember : Bool → Form → Type 0
IsMember g a = ends g a ≡ false → IsSolid a

ends_other : (g h : Bool) (a : Form) → a ≡ node h [] → members_of g a ≡ a ∷ [] → ends g a ≡ true
ends_other true true a e m = let none : [] ≡ a ∷ [] = sym (ap (members_of true) e ∙ no_members true) ∙ m in cc
ends_other true false a e m = ap (ends true) e ∙ ends-Or-true []
ends_other false true a e m = ap (ends false) e ∙ ends-And-false []
ends_other false false a e m = let none : [] ≡ a ∷ [] = sym (ap (members_of false) e ∙ no_members false) ∙ m in cc

solid_each : (g : Bool) (as_ : List Form) → AreSolid as_ → AllByRecursion (IsMember g) as_
solid_each g [] h = tt
solid_each g (a ∷ as_) h = let parts = first_solid a as_ h in (λ off. parts.0, solid_each g as_ parts.1)

member_of : (g : Bool) (a : Form) → IsDone a → AllByRecursion (IsMember g) (members_of g a)
member_of g a h =
    elim (members_cases g a) [
      | inl k ↦ subst (AllByRecursion (IsMember g)) (sym k.2) (inside k.0 k.1)
      | inr k ↦ subst (AllByRecursion (IsMember g)) (sym k) (itself k, tt)
    ] where
      inside : (as_ : List Form) → a ≡ node g as_ → AllByRecursion (IsMember g) as_
      inside as_ e =
          elim h [
            | inl t ↦ subst (AllByRecursion (IsMember g)) (sym (same_empty g t.0 as_ (sym e ∙ t.1))) tt
            | inr s ↦ solid_each g as_ (some_solid as_ (node_solid g as_ (subst IsSolid e s)))
          ]

      itself : members_of g a ≡ a ∷ [] → IsMember g a
      itself m off =
          elim h [
            | inl t ↦ let on_ : ends g a ≡ true = ends_other g t.0 a t.1 m in cc
            | inr s ↦ s
          ]

join_members : (g : Bool) (as_ bs : List Form) → AllByRecursion (IsMember g) as_ → AllByRecursion (IsMember g) bs → AllByRecursion (IsMember g) (as_ ++ bs)
join_members g [] bs h k = k
join_members g (a ∷ as_) bs h k = (h.0, join_members g as_ bs h.1 k)

flat_members : (g : Bool) (as_ : List Form) → AllByRecursion IsDone as_ → AllByRecursion (IsMember g) (flat_map (members_of g) as_)
flat_members g [] h = tt
flat_members g (a ∷ as_) h = rw (flat_map-cons (members_of g) a as_) (join_members g (members_of g a) (flat_map (members_of g) as_) (member_of g a h.0) (flat_members g as_ h.1))

unended : (g : Bool) (as_ : List Form) → AllByRecursion (IsMember g) as_ → list_any (ends g) as_ ≡ false → AreSolid as_
unended g [] h e = no_member
unended g (a ∷ as_) h e = let parts = or_false (ends g a) (list_any (ends g) as_) e in a_member a as_ (h.0 parts.0) (unended g as_ h.1 parts.1)

done_alone : (g : Bool) (as_ : List Form) → AreSolid as_ → IsDone (alone g as_)
done_alone g [] h = inl (g, refl)
done_alone g (a ∷ []) h = inr (first_solid a [] h).0
done_alone g (a ∷ b ∷ as_) h = inr (a_node g a (b ∷ as_) h)

done_join : (g : Bool) (as_ : List Form) → AllByRecursion IsDone as_ → IsDone (join g as_)
done_join g as_ h =
    let xs = flat_map (members_of g) as_ in
    elim (either (list_any (ends g) (flat_map (members_of g) as_))) [
      | inl e ↦ subst IsDone (sym (joined_flat-ended g xs e)) (inl (not g, refl))
      | inr e ↦ subst IsDone (sym (joined_flat-alone g xs e)) (done_alone g xs (unended g xs (flat_members g as_ h) e))
    ]

nothing_in : (g : Bool) → has_variable 0 (node g []) ≡ false
nothing_in true = has_variable-And 0 []
nothing_in false = has_variable-Or 0 []

nothing_replaced : (g : Bool) → instance_at (Var 0) 0 (node g []) ≡ node g []
nothing_replaced true = instance_at-And (Var 0) 0 []
nothing_replaced false = instance_at-Or (Var 0) 0 []

done_quantified : (g : Bool) (s : ℕ) (a : Form) → IsDone a → IsDone (quantified g s a)
done_quantified g s a h =
    elim (either (has_variable 0 a)) [
      | inl e ↦ subst IsDone (sym (quantified-kept g s a e)) (kept e)
      | inr e ↦ subst IsDone (sym (quantified-dropped g s a e)) dropped
    ] where
      kept : has_variable 0 a ≡ true → IsDone (quantifier g s a)
      kept e =
          elim h [
            | inl t ↦ let off : has_variable 0 a ≡ false = ap (has_variable 0) t.1 ∙ nothing_in t.0 in cc
            | inr s' ↦ inr (a_quantifier g s a e s')
          ]

      dropped : IsDone (instance_at (Var 0) 0 a)
      dropped =
          elim h [
            | inl t ↦ inl (t.0, ap (instance_at (Var 0) 0) t.1 ∙ nothing_replaced t.0)
            | inr s' ↦ inr (instance_solid (Var 0) a 0 s')
          ]

signed_atom : (g : Bool) (p : ℕ) (ts : List Term) → IsDone (signed g (Atom p ts))
signed_atom true p ts = inr (an_atom p ts)
signed_atom false p ts = inr (a_denied_atom p ts)

signed_equation : (g : Bool) (l r : Term) → IsDone (signed g (Eq l r))
signed_equation true l r = inr (an_equation l r)
signed_equation false l r = inr (a_denied_equation l r)

norms_done : (g : Bool) (as_ : List Form) → AllByRecursion (λ a. (g : Bool) → IsDone (norm_of g a)) as_ → AllByRecursion IsDone (map (norm_of g) as_)
norms_done g [] all = tt
norms_done g (a ∷ as_) all = (all.0 g, norms_done g as_ all.1)

pub norm_done : (a : Form) (g : Bool) → IsDone (norm_of g a)
norm_done = form_induction _ (record {
  atom = λ p ts g. subst IsDone (sym (norm_of-Atom g p ts)) (signed_atom g p ts);
  eq = λ l r g. subst IsDone (sym (norm_of-Eq g l r)) (signed_equation g l r);
  not = λ a ih g. subst IsDone (sym (norm_of-Not g a)) (ih (not g));
  and = λ as_ all g. subst IsDone (sym (norm_of-And g as_)) (done_join g (map (norm_of g) as_) (norms_done g as_ all));
  or = λ as_ all g. subst IsDone (sym (norm_of-Or g as_)) (done_join (not g) (map (norm_of g) as_) (norms_done g as_ all));
  imp = λ a b ih jh g. subst IsDone (sym (norm_of-Imp g a b)) (done_join (not g) (norm_of (not g) a ∷ norm_of g b ∷ []) (ih (not g), (jh g, tt)));
  iff = λ a b ih jh g.
      let xs = norm_of (not g) a ∷ norm_of g b ∷ [] in
      let ys = norm_of g a ∷ norm_of (not g) b ∷ [] in
      let first = done_join (not g) xs (ih (not g), (jh g, tt)) in
      let second = done_join (not g) ys (ih g, (jh (not g), tt)) in
      subst IsDone (sym (norm_of-Iff g a b)) (done_join g (join (not g) xs ∷ join (not g) ys ∷ []) (first, (second, tt)));
  all = λ s a ih g. subst IsDone (sym (norm_of-All g s a)) (done_quantified g s (norm_of g a) (ih g));
  ex = λ s a ih g. subst IsDone (sym (norm_of-Ex g s a)) (done_quantified (not g) s (norm_of g a) (ih g));
})

-- Solid formulas that are joined.
flat_solid : (g : Bool) (as_ : List Form) → AreSolid as_ → AreSolid (flat_map (members_of g) as_)
flat_solid g [] h = no_member
flat_solid g (a ∷ as_) h =
    let parts = first_solid a as_ h in
    subst AreSolid (sym (flat_map-cons (members_of g) a as_)) (append_solid (members_of g a) (flat_map (members_of g) as_) (some_solid (members_of g a) (members_solid g a parts.0)) (flat_solid g as_ parts.1))

append_some : (as_ bs : List Form) → AreSome as_ → AreSolid bs → AreSome (as_ ++ bs)
append_some [] bs h k = absurd h
append_some (a ∷ as_) bs h k = append_solid (a ∷ as_) bs h k

flat_some : (g : Bool) (a : Form) (as_ : List Form) → AreSolid (a ∷ as_) → AreSome (flat_map (members_of g) (a ∷ as_))
flat_some g a as_ h =
    let parts = first_solid a as_ h in
    subst AreSome (sym (flat_map-cons (members_of g) a as_)) (append_some (members_of g a) (flat_map (members_of g) as_) (members_solid g a parts.0) (flat_solid g as_ parts.1))

none_ends : (g : Bool) (as_ : List Form) → AreSolid as_ → list_any (ends g) as_ ≡ false
none_ends g [] h = refl
none_ends g (a ∷ as_) h = let parts = first_solid a as_ h in rw (not_ended g a parts.0, none_ends g as_ parts.1) refl

alone_solid : (g : Bool) (as_ : List Form) → AreSome as_ → IsSolid (alone g as_)
alone_solid g [] h = absurd h
alone_solid g (a ∷ []) h = (first_solid a [] h).0
alone_solid g (a ∷ b ∷ as_) h = a_node g a (b ∷ as_) h

alone_leaves : (g : Bool) (d : ℕ) (as_ : List Form) → leaves_of d (alone g as_) ≡ flat_map (leaves_of d) as_
alone_leaves g d [] = node_leaves g d []
alone_leaves g d (a ∷ []) = sym (flat_map-cons (leaves_of d) a [] ∙ append-nil (leaves_of d a))
alone_leaves g d (a ∷ b ∷ as_) = node_leaves g d (a ∷ b ∷ as_)

flat_leaves : (g : Bool) (d : ℕ) (as_ : List Form) → flat_map (leaves_of d) (flat_map (members_of g) as_) ≡ flat_map (leaves_of d) as_
flat_leaves g d [] = refl
flat_leaves g d (a ∷ as_) = rw (flat_map-cons (members_of g) a as_, flat_map-append, flat_map-cons (leaves_of d) a as_, members_leaves g d a, flat_leaves g d as_) refl

-- the formula is solid and has the terms of the other, in order
abbrev pub Stays : Form → Form → Type 0
Stays a b = IsSolid a × ((d : ℕ) → leaves_of d a ≡ leaves_of d b)

solid_join : (g : Bool) (a : Form) (as_ : List Form) → AreSolid (a ∷ as_) → IsSolid (join g (a ∷ as_)) × ((d : ℕ) → leaves_of d (join g (a ∷ as_)) ≡ flat_map (leaves_of d) (a ∷ as_))
solid_join g a as_ h =
    let xs = flat_map (members_of g) (a ∷ as_) in
    let some = flat_some g a as_ h in
    let is : join g (a ∷ as_) ≡ alone g xs = joined_flat-alone g xs (none_ends g xs (some_solid xs some)) in
    (subst IsSolid (sym is) (alone_solid g xs some), λ d. ap (leaves_of d) is ∙ alone_leaves g d xs ∙ flat_leaves g d (a ∷ as_))

norm_node : (g : Bool) (as_ : List Form) → norm_of true (node g as_) ≡ join g (map (norm_of true) as_)
norm_node true as_ = norm_of-And true as_
norm_node false as_ = norm_of-Or true as_

norm_quantifier : (g : Bool) (s : ℕ) (a : Form) → norm_of true (quantifier g s a) ≡ quantified g s (norm_of true a)
norm_quantifier true s a = norm_of-All true s a
norm_quantifier false s a = norm_of-Ex true s a

quantifier_leaves : (g : Bool) (d s : ℕ) (a : Form) → leaves_of d (quantifier g s a) ≡ leaves_of (d + 1) a
quantifier_leaves true d s a = leaves_of-All d s a
quantifier_leaves false d s a = leaves_of-Ex d s a

still_stands : (a b : Form) → ((d : ℕ) → leaves_of d a ≡ leaves_of d b) → has_variable 0 b ≡ true → has_variable 0 a ≡ true
still_stands a b same e =
    let before : list_any (stands 0) (leaves_of 0 b) ≡ true = sym (stands_in b (0, 0)) ∙ e in
    stands_in a (0, 0) ∙ ap (list_any (stands 0)) (same 0) ∙ before

stays_quantified : (g : Bool) (s : ℕ) (a b : Form) → Stays a b → has_variable 0 b ≡ true → Stays (quantified g s a) (quantifier g s b)
stays_quantified g s a b h e =
    let has = still_stands a b h.1 e in
    let is = quantified-kept g s a has in
    (subst IsSolid (sym is) (a_quantifier g s a has h.0), λ d. ap (leaves_of d) is ∙ quantifier_leaves g d s a ∙ h.1 (d + 1) ∙ sym (quantifier_leaves g d s b))

same_stays : (a b : Form) → a ≡ b → IsSolid b → Stays a b
same_stays a b e h = (subst IsSolid (sym e) h, λ d. ap (leaves_of d) e)

mutual
  -- the normal form of a solid formula has its terms
  pub norm_stays : (a : Form) → IsSolid a → Stays (norm_of true a) a
  norm_stays a (an_atom p ts) = same_stays (norm_of true (Atom p ts)) (Atom p ts) (norm_of-Atom true p ts) (an_atom p ts)
  norm_stays a (an_equation l r) = same_stays (norm_of true (Eq l r)) (Eq l r) (norm_of-Eq true l r) (an_equation l r)
  norm_stays a (a_denied_atom p ts) = same_stays (norm_of true (Not (Atom p ts))) (Not (Atom p ts)) (norm_of-Not true (Atom p ts) ∙ norm_of-Atom false p ts) (a_denied_atom p ts)
  norm_stays a (a_denied_equation l r) = same_stays (norm_of true (Not (Eq l r))) (Not (Eq l r)) (norm_of-Not true (Eq l r) ∙ norm_of-Eq false l r) (a_denied_equation l r)
  norm_stays a (a_node g b bs h) =
      let inner = norms_stay (b ∷ bs) h in
      let made = solid_join g (norm_of true b) (map (norm_of true) bs) inner.0 in
      let is : norm_of true (node g (b ∷ bs)) ≡ join g (map (norm_of true) (b ∷ bs)) = norm_node g (b ∷ bs) in
      (subst IsSolid (sym is) made.0, λ d. ap (leaves_of d) is ∙ made.1 d ∙ inner.1 d ∙ sym (node_leaves g d (b ∷ bs)))
  norm_stays a (a_quantifier g s b e h) =
      subst (λ c. Stays c (quantifier g s b)) (sym (norm_quantifier g s b)) (stays_quantified g s (norm_of true b) b (norm_stays b h) e)

  norms_stay : (as_ : List Form) → AreSolid as_ → AreSolid (map (norm_of true) as_) × ((d : ℕ) → flat_map (leaves_of d) (map (norm_of true) as_) ≡ flat_map (leaves_of d) as_)
  norms_stay as_ no_member = (no_member, λ d. refl)
  norms_stay as_ (a_member b bs h k) =
      let first = norm_stays b h in
      let rest = norms_stay bs k in (
        a_member (norm_of true b) (map (norm_of true) bs) first.0 rest.0,
        λ d. rw (flat_map-cons (leaves_of d) (norm_of true b) (map (norm_of true) bs), flat_map-cons (leaves_of d) b bs, first.1 d, rest.1 d) refl,
      )
