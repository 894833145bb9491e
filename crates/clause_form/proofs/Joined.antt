-- What a joined node consists of.
use Rattle.std.specs.Prelude.{Bool, true, false, not, List, [], ◌∷◌, ◌++◌, flat_map, ◌≡◌, refl}
use Rattle.std.specs.List.{AllByRecursion, list_any}
use Rattle.std.proofs.Common.{ap, ◌⊎◌, inl, inr}
use Rattle.std.proofs.lemmas.List.Concat.{flat_map-cons}
use Rattle.fof_terms.specs.declared.form.Form.{Form, And, Or}
use Rattle.fof_terms.specs.declared.form.Form.TheViews.{outs-Atom, outs-Eq, outs-Not, outs-And, outs-Or, outs-Imp, outs-Iff, outs-All, outs-Ex}
use Rattle.fof_terms.proofs.Induction.{form_induction}
use Rattle.clause_form.specs.Norm.{node, members_of, ends, is_empty_list, alone, joined_flat, join}

-- the formula is a node of that sign and gives its members, or it gives itself
abbrev pub MembersOf : Bool → Form → Type 0
MembersOf g a = ((as_ : List Form) × (a ≡ node g as_) × (members_of g a ≡ as_)) ⊎ (members_of g a ≡ a ∷ [])

abbrev pub EndsIn : Bool → Form → Type 0
EndsIn g a = (ends g a ≡ true → a ≡ node (not g) [])

no_members : (as_ : List Form) → is_empty_list as_ ≡ true → as_ ≡ []
no_members [] e = refl
no_members (a ∷ as_) e = cc

members_true : (a : Form) → MembersOf true a
unfolding members_of
members_true = form_induction _ (record {
  atom = λ p ts. inr (rw (outs-Atom p ts) refl);
  eq = λ l r. inr (rw (outs-Eq l r) refl);
  not = λ a ih. inr (rw (outs-Not a) refl);
  and = λ as_ ih. inl (as_, refl, rw (outs-And as_) refl);
  or = λ as_ ih. inr (rw (outs-Or as_) refl);
  imp = λ a b ih jh. inr (rw (outs-Imp a b) refl);
  iff = λ a b ih jh. inr (rw (outs-Iff a b) refl);
  all = λ s a ih. inr (rw (outs-All s a) refl);
  ex = λ s a ih. inr (rw (outs-Ex s a) refl);
})

ends_true : (a : Form) → EndsIn true a
unfolding ends
ends_true = form_induction _ (record {
  atom = λ p ts e. let never : false ≡ true = rw (outs-Atom p ts) at e in cc;
  eq = λ l r e. let never : false ≡ true = rw (outs-Eq l r) at e in cc;
  not = λ a ih e. let never : false ≡ true = rw (outs-Not a) at e in cc;
  and = λ as_ ih e. let never : false ≡ true = rw (outs-And as_) at e in cc;
  or = λ as_ ih e. ap Or (no_members as_ (rw (outs-Or as_) at e));
  imp = λ a b ih jh e. let never : false ≡ true = rw (outs-Imp a b) at e in cc;
  iff = λ a b ih jh e. let never : false ≡ true = rw (outs-Iff a b) at e in cc;
  all = λ s a ih e. let never : false ≡ true = rw (outs-All s a) at e in cc;
  ex = λ s a ih e. let never : false ≡ true = rw (outs-Ex s a) at e in cc;
})

members_false : (a : Form) → MembersOf false a
unfolding members_of
members_false = form_induction _ (record {
  atom = λ p ts. inr (rw (outs-Atom p ts) refl);
  eq = λ l r. inr (rw (outs-Eq l r) refl);
  not = λ a ih. inr (rw (outs-Not a) refl);
  and = λ as_ ih. inr (rw (outs-And as_) refl);
  or = λ as_ ih. inl (as_, refl, rw (outs-Or as_) refl);
  imp = λ a b ih jh. inr (rw (outs-Imp a b) refl);
  iff = λ a b ih jh. inr (rw (outs-Iff a b) refl);
  all = λ s a ih. inr (rw (outs-All s a) refl);
  ex = λ s a ih. inr (rw (outs-Ex s a) refl);
})

ends_false : (a : Form) → EndsIn false a
unfolding ends
ends_false = form_induction _ (record {
  atom = λ p ts e. let never : false ≡ true = rw (outs-Atom p ts) at e in cc;
  eq = λ l r e. let never : false ≡ true = rw (outs-Eq l r) at e in cc;
  not = λ a ih e. let never : false ≡ true = rw (outs-Not a) at e in cc;
  and = λ as_ ih e. ap And (no_members as_ (rw (outs-And as_) at e));
  or = λ as_ ih e. let never : false ≡ true = rw (outs-Or as_) at e in cc;
  imp = λ a b ih jh e. let never : false ≡ true = rw (outs-Imp a b) at e in cc;
  iff = λ a b ih jh e. let never : false ≡ true = rw (outs-Iff a b) at e in cc;
  all = λ s a ih e. let never : false ≡ true = rw (outs-All s a) at e in cc;
  ex = λ s a ih e. let never : false ≡ true = rw (outs-Ex s a) at e in cc;
})

pub members_cases : (g : Bool) (a : Form) → MembersOf g a
members_cases true a = members_true a
members_cases false a = members_false a

pub ends_case : (g : Bool) (a : Form) → EndsIn g a
ends_case true a = ends_true a
ends_case false a = ends_false a

-- holds of a node where it holds of its members, and of these where it holds of the node
pub record Memberwise (P : Form → Type 0) : Type 0 where
  pub make : (g : Bool) (as_ : List Form) → AllByRecursion P as_ → P (node g as_)
  pub take : (g : Bool) (as_ : List Form) → P (node g as_) → AllByRecursion P as_

module _ (P : Form → Type 0) (m : Memberwise P) (g : Bool) where
  of_members : (a : Form) → P a → AllByRecursion P (members_of g a)
  of_members a h =
      elim (members_cases g a) [
        | inl k ↦ let h' : P (node g k.0) = rw k.1 at h in rw k.2 (m.take g k.0 h')
        | inr k ↦ rw k (h, tt)
      ]

  joined_lists : (as_ bs : List Form) → AllByRecursion P as_ → AllByRecursion P bs → AllByRecursion P (as_ ++ bs)
  joined_lists [] bs h k = k
  joined_lists (a ∷ as_) bs h k = (h.0, joined_lists as_ bs h.1 k)

  pub of_all : (as_ : List Form) → AllByRecursion P as_ → AllByRecursion P (flat_map (members_of g) as_)
  of_all [] h = tt
  of_all (a ∷ as_) h = rw (flat_map-cons (members_of g) a as_) (joined_lists (members_of g a) (flat_map (members_of g) as_) (of_members a h.0) (of_all as_ h.1))

  of_alone : (as_ : List Form) → AllByRecursion P as_ → P (alone g as_)
  of_alone [] h = m.make g [] h
  of_alone (a ∷ []) h = h.0
  of_alone (a ∷ b ∷ as_) h = m.make g (a ∷ b ∷ as_) h

  either : (b : Bool) → (b ≡ true) ⊎ (b ≡ false)
  either true = inl refl
  either false = inr refl

  -- it holds of a joined node where it holds of what is joined
  pub join_keeps : (as_ : List Form) → AllByRecursion P as_ → P (join g as_)
  unfolding joined_flat
  join_keeps as_ h =
      elim (either (list_any (ends g) (flat_map (members_of g) as_))) [
        | inl e ↦ rw e (m.make (not g) [] tt)
        | inr e ↦ rw e (of_alone (flat_map (members_of g) as_) (of_all as_ h))
      ]
