-- The normal form of a formula is no larger than the formula's norm size.
use Rattle.std.specs.Prelude.{ℕ, Bool, true, false, not, ◌≡◌, ◌≤◌, ◌+◌, List, [], ◌∷◌, ◌++◌, map, flat_map, sum, refl}
use Rattle.std.specs.List.{AllByRecursion, list_any}
use Rattle.std.proofs.Common.{arith, ap, ◌∙◌, inl, inr, ◌⊎◌}
use Rattle.std.proofs.lemmas.List.Concat.{flat_map-cons}
use Rattle.std.proofs.lemmas.Simd.{map-map}
use Rattle.fof_terms.specs.declared.term.Term.{Term, Var}
use Rattle.fof_terms.specs.declared.form.Form.{Form, Atom, Eq}
use Rattle.fof_terms.proofs.Induction.{form_induction}
use Rattle.fof_terms.specs.Variables.{has_variable}
use Rattle.fof_terms.proofs.Walks.{FormWalk, placing}
use Rattle.clause_form.proofs.Joined.{members_cases}
use Rattle.clause_form.specs.Norm.{signed, node, members_of, ends, alone, join, quantifier, quantified, norm_of}
use Rattle.clause_form.proofs.NormFacts.{joined_flat-ended, joined_flat-alone, quantified-kept, quantified-dropped, norm_of-Atom, norm_of-Eq, norm_of-Not, norm_of-And, norm_of-Or, norm_of-Imp, norm_of-Iff, norm_of-All, norm_of-Ex}
use Rattle.clause_form.specs.Sizes.{norm_size_of}
use Rattle.clause_form.proofs.SizesFacts.{norm_size_of-Atom, norm_size_of-Eq, norm_size_of-Not, norm_size_of-And, norm_size_of-Or, norm_size_of-Imp, norm_size_of-Iff, norm_size_of-All, norm_size_of-Ex}
use Rattle.clause_form.proofs.SizeLaws.{sum_cons}

same_sums : {X : Type 0} (f g : X → ℕ) (xs : List X) → AllByRecursion (λ x. f x ≡ g x) xs → sum (map f xs) ≡ sum (map g xs)
same_sums f g [] e = refl
same_sums f g (x ∷ xs) e = let here = e.0 in let rest = same_sums f g xs e.1 in rw (sum_cons (f x) (map f xs), sum_cons (g x) (map g xs)) (omega arith)

at_depth : (g : ℕ → Form → Form) (as_ : List Form) (d : ℕ) → AllByRecursion (λ a. (d : ℕ) → norm_size_of (g d a) ≡ norm_size_of a) as_ → AllByRecursion (λ a. norm_size_of (g d a) ≡ norm_size_of a) as_
at_depth g [] d all = tt
at_depth g (a ∷ as_) d all = (all.0 d, at_depth g as_ d all.1)

-- a walk changes no size
same_size : (f : ℕ → Term → Term) (g : ℕ → Form → Form) → FormWalk f g → (a : Form) (d : ℕ) → norm_size_of (g d a) ≡ norm_size_of a
same_size f g w = form_induction _ (record {
  atom = λ p ts d. rw (w.atom, norm_size_of-Atom, norm_size_of-Atom) refl;
  eq = λ l r d. rw (w.eq, norm_size_of-Eq, norm_size_of-Eq) refl;
  not = λ a ih d. rw (w.not, norm_size_of-Not, norm_size_of-Not) (ih d);
  and = λ as_ all d. rw (w.and, norm_size_of-And, norm_size_of-And, map-map) (ap (λ n. 1 + n) (same_sums (λ a. norm_size_of (g d a)) norm_size_of as_ (at_depth g as_ d all)));
  or = λ as_ all d. rw (w.or, norm_size_of-Or, norm_size_of-Or, map-map) (ap (λ n. 1 + n) (same_sums (λ a. norm_size_of (g d a)) norm_size_of as_ (at_depth g as_ d all)));
  imp = λ a b ih jh d. rw (w.imp, norm_size_of-Imp, norm_size_of-Imp, ih d, jh d) refl;
  iff = λ a b ih jh d. rw (w.iff, norm_size_of-Iff, norm_size_of-Iff, ih d, jh d) refl;
  all = λ s a ih d. rw (w.all, norm_size_of-All, norm_size_of-All, ih (d + 1)) refl;
  ex = λ s a ih d. rw (w.ex, norm_size_of-Ex, norm_size_of-Ex, ih (d + 1)) refl;
})

node_size : (g : Bool) (as_ : List Form) → norm_size_of (node g as_) ≡ 1 + sum (map norm_size_of as_)
node_size true as_ = norm_size_of-And as_
node_size false as_ = norm_size_of-Or as_

quantifier_size : (g : Bool) (s : ℕ) (a : Form) → norm_size_of (quantifier g s a) ≡ 1 + norm_size_of a
quantifier_size true s a = norm_size_of-All s a
quantifier_size false s a = norm_size_of-Ex s a

signed_size : (g : Bool) (a : Form) → norm_size_of (signed g a) ≡ norm_size_of a
signed_size true a = refl
signed_size false a = norm_size_of-Not a

one_size : (a : Form) → sum (map norm_size_of (a ∷ [])) ≡ norm_size_of a
one_size a = rw (sum_cons (norm_size_of a) []) (omega arith)

either : (b : Bool) → (b ≡ true) ⊎ (b ≡ false)
either true = inl refl
either false = inr refl

members_size : (g : Bool) (a : Form) → sum (map norm_size_of (members_of g a)) ≤ norm_size_of a
members_size g a =
    elim (members_cases g a) [
      | inl k ↦
          let e : norm_size_of a ≡ 1 + sum (map norm_size_of k.0) = ap norm_size_of k.1 ∙ node_size g k.0 in
          rw k.2 (omega arith)
      | inr k ↦ rw k (let e = one_size a in omega arith)
    ]

sums_append : (xs ys : List Form) → sum (map norm_size_of (xs ++ ys)) ≡ sum (map norm_size_of xs) + sum (map norm_size_of ys)
sums_append [] ys = omega arith
sums_append (x ∷ xs) ys =
    let rest = sums_append xs ys in
    rw (sum_cons (norm_size_of x) (map norm_size_of (xs ++ ys)), sum_cons (norm_size_of x) (map norm_size_of xs)) (omega arith)

pub flat_size : (g : Bool) (as_ : List Form) → sum (map norm_size_of (flat_map (members_of g) as_)) ≤ sum (map norm_size_of as_)
flat_size g [] = omega arith
flat_size g (a ∷ as_) =
    let here = members_size g a in
    let rest = flat_size g as_ in
    let split = sums_append (members_of g a) (flat_map (members_of g) as_) in
    rw (flat_map-cons (members_of g) a as_, sum_cons (norm_size_of a) (map norm_size_of as_)) (omega arith)

alone_size : (g : Bool) (as_ : List Form) → norm_size_of (alone g as_) ≤ 1 + sum (map norm_size_of as_)
alone_size g [] = let e = node_size g [] in omega arith
alone_size g (a ∷ []) = let e = one_size a in omega arith
alone_size g (a ∷ b ∷ as_) = let e = node_size g (a ∷ b ∷ as_) in omega arith

empty_size : (g : Bool) → norm_size_of (node g []) ≡ 1
empty_size g = node_size g []

join_size : (g : Bool) (as_ : List Form) → norm_size_of (join g as_) ≤ 1 + sum (map norm_size_of as_)
join_size g as_ =
    let flat = flat_map (members_of g) as_ in
    let small = flat_size g as_ in
    elim (either (list_any (ends g) flat)) [
      | inl e ↦ let same = empty_size (not g) in rw (joined_flat-ended g flat e) (omega arith)
      | inr e ↦ let le = alone_size g flat in rw (joined_flat-alone g flat e) (omega arith)
    ]

quantified_size : (g : Bool) (s : ℕ) (a : Form) → norm_size_of (quantified g s a) ≤ 1 + norm_size_of a
quantified_size g s a =
    elim (either (has_variable 0 a)) [
      | inl e ↦ let same = quantifier_size g s a in rw (quantified-kept g s a e) (omega arith)
      | inr e ↦ let same = same_size _ _ (placing (Var 0) (λ d. d) (λ d. refl)) a 0 in rw (quantified-dropped g s a e) (omega arith)
    ]

abbrev Small : Form → Type 0
Small a = (g : Bool) → norm_size_of (norm_of g a) ≤ norm_size_of a

pub norms_size : (g : Bool) (as_ : List Form) → AllByRecursion Small as_ → sum (map norm_size_of (map (norm_of g) as_)) ≤ sum (map norm_size_of as_)
norms_size g [] all = omega arith
norms_size g (a ∷ as_) all =
    let here = all.0 g in
    let rest = norms_size g as_ all.1 in
    rw (sum_cons (norm_size_of (norm_of g a)) (map norm_size_of (map (norm_of g) as_)), sum_cons (norm_size_of a) (map norm_size_of as_)) (omega arith)

two_size : (a b : Form) → sum (map norm_size_of (a ∷ b ∷ [])) ≡ norm_size_of a + norm_size_of b
two_size a b = let one = one_size b in rw (sum_cons (norm_size_of a) (map norm_size_of (b ∷ []))) (omega arith)

pair_size : (g : Bool) (a b : Form) → norm_size_of (join g (a ∷ b ∷ [])) ≤ 1 + (norm_size_of a + norm_size_of b)
pair_size g a b = let le = join_size g (a ∷ b ∷ []) in let two = two_size a b in omega arith

-- the normal form of a formula, or of its negation, has at most its norm size
pub norm_small : (a : Form) → Small a
norm_small = form_induction _ (record {
  atom = λ p ts g. let e = signed_size g (Atom p ts) in rw norm_of-Atom (omega arith);
  eq = λ l r g. let e = signed_size g (Eq l r) in rw norm_of-Eq (omega arith);
  not = λ a ih g. rw (norm_of-Not, norm_size_of-Not) (ih (not g));
  and = λ as_ all g.
      let one = join_size g (map (norm_of g) as_) in
      let two = norms_size g as_ all in
      rw (norm_of-And, norm_size_of-And) (omega arith);
  or = λ as_ all g.
      let one = join_size (not g) (map (norm_of g) as_) in
      let two = norms_size g as_ all in
      rw (norm_of-Or, norm_size_of-Or) (omega arith);
  imp = λ a b ih jh g.
      let one = pair_size (not g) (norm_of (not g) a) (norm_of g b) in
      let two = ih (not g) in
      let three = jh g in
      rw (norm_of-Imp, norm_size_of-Imp) (omega arith);
  iff = λ a b ih jh g.
      let x = join (not g) (norm_of (not g) a ∷ norm_of g b ∷ []) in
      let y = join (not g) (norm_of g a ∷ norm_of (not g) b ∷ []) in
      let one = pair_size g x y in
      let two = pair_size (not g) (norm_of (not g) a) (norm_of g b) in
      let three = pair_size (not g) (norm_of g a) (norm_of (not g) b) in
      let four = ih (not g) in
      let five = ih g in
      let six = jh g in
      let seven = jh (not g) in
      rw (norm_of-Iff, norm_size_of-Iff) (omega arith);
  all = λ s a ih g. let one = quantified_size g s (norm_of g a) in let two = ih g in rw (norm_of-All, norm_size_of-All) (omega arith);
  ex = λ s a ih g. let one = quantified_size (not g) s (norm_of g a) in let two = ih g in rw (norm_of-Ex, norm_size_of-Ex) (omega arith);
})
