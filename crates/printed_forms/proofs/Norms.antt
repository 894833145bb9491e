-- Normal forms have no list of one: a joined node of one member is that member.
use Rattle.std.specs.Prelude.{ℕ, ◌+◌, ◌≡◌, Bool, true, false, not, List, [], ◌∷◌, ◌++◌, flat_map, map, refl}
use Rattle.std.specs.List.{AllByRecursion, list_any}
use Rattle.std.proofs.Common.{sym, ◌∙◌, ◌⊎◌, inl, inr}
use Rattle.std.proofs.lemmas.List.Concat.{flat_map-cons}
use Rattle.fof_terms.proofs.Induction.{form_induction}
use Rattle.fof_terms.proofs.Walks.{FormWalk, placing}
use Rattle.fof_terms.specs.Variables.{has_variable}
use Rattle.fof_terms.specs.declared.term.Term.{Term, Var}
use Rattle.fof_terms.specs.declared.form.Form.{Form, Atom, Eq}
use Rattle.clause_form.specs.Norm.{alone, ends, join, joined_flat, members_of, node, norm_of, quantified, quantifier, signed}
use Rattle.clause_form.proofs.Joined.{members_cases}
use Rattle.clause_form.proofs.NormFacts.{quantified-kept, quantified-dropped, norm_of-Atom, norm_of-Eq, norm_of-Not, norm_of-And, norm_of-Or, norm_of-Imp, norm_of-Iff, norm_of-All, norm_of-Ex}
use Rattle.printed_forms.specs.Lists.{has_no_list_of_one}
use Rattle.printed_forms.proofs.ListsFacts.{IsListed, listed-Atom, listed-Eq, listed-Not, listed-And, listed-Or, listed-Imp, listed-Iff, listed-All, listed-Ex, members_listed, two_listed}

-- ---- joined nodes

no_node : (g : Bool) → IsListed (node g [])
no_node true = listed-And []
no_node false = listed-Or []

two_node : (g : Bool) (a b : Form) (as_ : List Form) → AllByRecursion IsListed (a ∷ b ∷ as_) → IsListed (node g (a ∷ b ∷ as_))
two_node true a b as_ all = listed-And (a ∷ b ∷ as_) ∙ two_listed a b as_ all
two_node false a b as_ all = listed-Or (a ∷ b ∷ as_) ∙ two_listed a b as_ all

node_members : (g : Bool) (as_ : List Form) → IsListed (node g as_) → AllByRecursion IsListed as_
node_members true as_ is = members_listed as_ (sym (listed-And as_) ∙ is)
node_members false as_ is = members_listed as_ (sym (listed-Or as_) ∙ is)

of_members : (g : Bool) (a : Form) → IsListed a → AllByRecursion IsListed (members_of g a)
of_members g a is =
    elim (members_cases g a) [
      | inl k ↦ let own : IsListed (node g k.0) = rw k.1 at is in rw k.2 (node_members g k.0 own)
      | inr k ↦ rw k (is, tt)
    ]

both_lists : (as_ bs : List Form) → AllByRecursion IsListed as_ → AllByRecursion IsListed bs → AllByRecursion IsListed (as_ ++ bs)
both_lists [] bs all more = more
both_lists (a ∷ as_) bs all more = (all.0, both_lists as_ bs all.1 more)

of_all : (g : Bool) (as_ : List Form) → AllByRecursion IsListed as_ → AllByRecursion IsListed (flat_map (members_of g) as_)
of_all g [] all = tt
of_all g (a ∷ as_) all = rw (flat_map-cons (members_of g) a as_) (both_lists (members_of g a) (flat_map (members_of g) as_) (of_members g a all.0) (of_all g as_ all.1))

of_alone : (g : Bool) (as_ : List Form) → AllByRecursion IsListed as_ → IsListed (alone g as_)
of_alone g [] all = no_node g
of_alone g (a ∷ []) all = all.0
of_alone g (a ∷ b ∷ as_) all = two_node g a b as_ all

either : (b : Bool) → (b ≡ true) ⊎ (b ≡ false)
either true = inl refl
either false = inr refl

join_listed : (g : Bool) (as_ : List Form) → AllByRecursion IsListed as_ → IsListed (join g as_)
unfolding joined_flat
join_listed g as_ all =
    elim (either (list_any (ends g) (flat_map (members_of g) as_))) [
      | inl e ↦ rw e (no_node (not g))
      | inr e ↦ rw e (of_alone g (flat_map (members_of g) as_) (of_all g as_ all))
    ]

-- ---- quantifiers

same_each : (f : Form → Form) (as_ : List Form) → AllByRecursion (λ a. has_no_list_of_one (f a) ≡ has_no_list_of_one a) as_ → map has_no_list_of_one (map f as_) ≡ map has_no_list_of_one as_
same_each f [] all = refl
same_each f (a ∷ as_) all = rw (all.0, same_each f as_ all.1) refl

at_depth : (g : ℕ → Form → Form) (as_ : List Form) (d : ℕ) → AllByRecursion (λ a. (d : ℕ) → has_no_list_of_one (g d a) ≡ has_no_list_of_one a) as_ → AllByRecursion (λ a. has_no_list_of_one (g d a) ≡ has_no_list_of_one a) as_
at_depth g [] d all = tt
at_depth g (a ∷ as_) d all = (all.0 d, at_depth g as_ d all.1)

-- a change of variables alone changes no list
same_lists : (f : ℕ → Term → Term) (g : ℕ → Form → Form) → FormWalk f g → (a : Form) (d : ℕ) → has_no_list_of_one (g d a) ≡ has_no_list_of_one a
same_lists f g w = form_induction _ (record {
  atom = λ p ts d. rw (w.atom, listed-Atom, listed-Atom) refl;
  eq = λ l r d. rw (w.eq, listed-Eq, listed-Eq) refl;
  not = λ a ih d. rw (w.not, listed-Not, listed-Not, ih d) refl;
  and = λ as_ all d. rw (w.and, listed-And, listed-And, same_each (g d) as_ (at_depth g as_ d all)) refl;
  or = λ as_ all d. rw (w.or, listed-Or, listed-Or, same_each (g d) as_ (at_depth g as_ d all)) refl;
  imp = λ a b ih jh d. rw (w.imp, listed-Imp, listed-Imp, ih d, jh d) refl;
  iff = λ a b ih jh d. rw (w.iff, listed-Iff, listed-Iff, ih d, jh d) refl;
  all = λ s a ih d. rw (w.all, listed-All, listed-All, ih (d + 1)) refl;
  ex = λ s a ih d. rw (w.ex, listed-Ex, listed-Ex, ih (d + 1)) refl;
})

quantifier_listed : (g : Bool) (s : ℕ) (a : Form) → IsListed a → IsListed (quantifier g s a)
quantifier_listed true s a is = listed-All s a ∙ is
quantifier_listed false s a is = listed-Ex s a ∙ is

quantified_listed : (g : Bool) (s : ℕ) (a : Form) → IsListed a → IsListed (quantified g s a)
quantified_listed g s a is =
    elim (either (has_variable 0 a)) [
      | inl e ↦ rw (quantified-kept g s a e) (quantifier_listed g s a is)
      | inr e ↦ rw (quantified-dropped g s a e) (same_lists _ _ (placing (Var 0) (λ d. d) (λ d. refl)) a 0 ∙ is)
    ]

-- ---- normal forms

signed_atom : (g : Bool) (p : ℕ) (ts : List Term) → IsListed (signed g (Atom p ts))
signed_atom true p ts = listed-Atom p ts
signed_atom false p ts = listed-Not (Atom p ts) ∙ listed-Atom p ts

signed_eq : (g : Bool) (l r : Term) → IsListed (signed g (Eq l r))
signed_eq true l r = listed-Eq l r
signed_eq false l r = listed-Not (Eq l r) ∙ listed-Eq l r

norms : (g : Bool) (as_ : List Form) → AllByRecursion (λ a. (g : Bool) → IsListed (norm_of g a)) as_ → AllByRecursion IsListed (map (norm_of g) as_)
norms g [] all = tt
norms g (a ∷ as_) all = (all.0 g, norms g as_ all.1)

norm_is_listed : (a : Form) (g : Bool) → IsListed (norm_of g a)
norm_is_listed = form_induction _ (record {
  atom = λ p ts g. rw norm_of-Atom (signed_atom g p ts);
  eq = λ l r g. rw norm_of-Eq (signed_eq g l r);
  not = λ a ih g. rw norm_of-Not (ih (not g));
  and = λ as_ all g. rw norm_of-And (join_listed g (map (norm_of g) as_) (norms g as_ all));
  or = λ as_ all g. rw norm_of-Or (join_listed (not g) (map (norm_of g) as_) (norms g as_ all));
  imp = λ a b ih jh g. rw norm_of-Imp (join_listed (not g) (norm_of (not g) a ∷ norm_of g b ∷ []) (ih (not g), (jh g, tt)));
  iff = λ a b ih jh g.
      let xs = norm_of (not g) a ∷ norm_of g b ∷ [] in
      let ys = norm_of g a ∷ norm_of (not g) b ∷ [] in
      let first = join_listed (not g) xs (ih (not g), (jh g, tt)) in
      let second = join_listed (not g) ys (ih g, (jh (not g), tt)) in
      rw norm_of-Iff (join_listed g (join (not g) xs ∷ join (not g) ys ∷ []) (first, (second, tt)));
  all = λ s a ih g. rw norm_of-All (quantified_listed g s (norm_of g a) (ih g));
  ex = λ s a ih g. rw norm_of-Ex (quantified_listed (not g) s (norm_of g a) (ih g));
})

pub norm_listed : (g : Bool) (a : Form) → has_no_list_of_one (norm_of g a) ≡ true
norm_listed g a = norm_is_listed a g
