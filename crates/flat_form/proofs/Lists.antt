-- What is pulled out of one formula after another.
use Rattle.std.specs.Prelude.{ℕ, zero, suc, ◌≡◌, ◌+◌, ◌<◌, ◌≤◌, Bool, true, false, List, [], ◌∷◌, ◌++◌, length, map, flat_map, take, get_or, sum, refl}
use Rattle.std.specs.List.{AllByRecursion}
use Rattle.std.proofs.Common.{ap, sym, subst, ◌∙◌, arith, length-append, append_assoc}
use Rattle.std.proofs.lemmas.List.Concat.{flat_map-cons}
use Rattle.std.proofs.lemmas.Grind.{flat_map-append}
use Rattle.std.proofs.lemmas.List.{append-nil}
use Rattle.fof_terms.specs.declared.form.Form.{Form}
use Rattle.clause_form.specs.Norm.{node, members_of}
use Rattle.clause_form.specs.Sizes.{norm_size_of}
use Rattle.clause_form.proofs.SizesFacts.{norm_size_of-And, norm_size_of-Or, norm_size_of-All}
use Rattle.clause_form.proofs.SizeLaws.{sum_cons, some_size}
use Rattle.fof_terms.proofs.Induction.{form_induction}
use Rattle.flat_form.specs.Flat.{Pulled, kept, sorts_of, pulled}
use Rattle.flat_form.specs.Renumbered.{renumbered}
use Rattle.flat_form.specs.code.Numbers.{placed}
use Rattle.flat_form.proofs.Bodies.{placed_bodies}
use Rattle.flat_form.proofs.PulledFacts.{pulled-Atom, pulled-Eq, kept-Not, kept-Imp, kept-Iff, kept-Ex, node_sorts, all_sorts}

pub take_next : {X : Type 0} (xs : List X) (i : ℕ) (d : X) → i < length xs → take (i + 1) xs ≡ take i xs ++ get_or xs i d ∷ []
take_next [] i d lt = absurd (omega arith)
take_next (x ∷ xs) zero d lt = refl
take_next (x ∷ xs) (suc i) d lt = let same : suc i + 1 ≡ suc (i + 1) = omega arith in rw same (ap (λ ys. x ∷ ys) (take_next xs i d (omega arith)))

pub take_end : {X : Type 0} (xs : List X) (i : ℕ) → length xs ≤ i → take i xs ≡ xs
take_end [] zero le = refl
take_end [] (suc i) le = refl
take_end (x ∷ xs) zero le = absurd (omega arith)
take_end (x ∷ xs) (suc i) le = ap (λ ys. x ∷ ys) (take_end xs i (omega arith))

map_end : {X Y : Type 0} (f : X → Y) (xs : List X) (x : X) → map f (xs ++ x ∷ []) ≡ map f xs ++ f x ∷ []
map_end f [] x = refl
map_end f (y ∷ xs) x = ap (λ ys. f y ∷ ys) (map_end f xs x)

sorts_end : (ps : List Pulled) (p : Pulled) → sorts_of (ps ++ p ∷ []) ≡ sorts_of ps ++ p.sorts
sorts_end [] p = append-nil p.sorts
sorts_end (q ∷ ps) p = ap (λ xs. q.sorts ++ xs) (sorts_end ps p) ∙ sym (append_assoc q.sorts (sorts_of ps) p.sorts)

-- the sorts of one more
pub sorts_more : (as_ : List Form) (i : ℕ) (d : Form) → i < length as_ → sorts_of (map pulled (take (i + 1) as_)) ≡ sorts_of (map pulled (take i as_)) ++ (pulled (get_or as_ i d)).sorts
sorts_more as_ i d lt =
    ap (λ bs. sorts_of (map pulled bs)) (take_next as_ i d lt)
    ∙ (ap sorts_of (map_end pulled (take i as_) (get_or as_ i d)) ∙ sorts_end (map pulled (take i as_)) (pulled (get_or as_ i d)))

-- and they are not more than all
pub sorts_within : (as_ : List Form) (i : ℕ) (d : Form) → i < length as_ → length (sorts_of (map pulled (take i as_))) + length (pulled (get_or as_ i d)).sorts ≤ length (sorts_of (map pulled as_))
sorts_within [] i d lt = absurd (omega arith)
sorts_within (a ∷ as_) zero d lt = let e = length-append (pulled a).sorts (sorts_of (map pulled as_)) in omega arith
sorts_within (a ∷ as_) (suc i) d lt =
    let e = length-append (pulled a).sorts (sorts_of (map pulled as_)) in
    let k = length-append (pulled a).sorts (sorts_of (map pulled (take i as_))) in
    omega (arith, sorts_within as_ i d (omega arith))

-- the bodies of one more
module _ (places : List ℕ) (total : ℕ) where
  bodies_end : (start : ℕ) (ps : List Pulled) (p : Pulled)
      → placed_bodies places total start (ps ++ p ∷ []) ≡ placed_bodies places total start ps ++ renumbered (placed places total (start + length (sorts_of ps)) (length p.sorts)) 0 p.body ∷ []
  bodies_end start [] p = let same : start + 0 ≡ start = omega arith in rw same refl
  bodies_end start (q ∷ ps) p =
      let e = length-append q.sorts (sorts_of ps) in
      let same : start + length q.sorts + length (sorts_of ps) ≡ start + length (q.sorts ++ sorts_of ps) = omega arith in
      ap (λ bs. renumbered (placed places total start (length q.sorts)) 0 q.body ∷ bs) (rw same at (bodies_end (start + length q.sorts) ps p))

  pub flat_more : (start : ℕ) (kind : Bool) (as_ : List Form) (i : ℕ) (d body : Form) (flat flat' : List Form) → i < length as_
      → flat ≡ flat_map (members_of kind) (placed_bodies places total start (map pulled (take i as_)))
      → body ≡ renumbered (placed places total (start + length (sorts_of (map pulled (take i as_)))) (length (pulled (get_or as_ i d)).sorts)) 0 (pulled (get_or as_ i d)).body
      → flat' ≡ flat ++ members_of kind body
      → flat' ≡ flat_map (members_of kind) (placed_bodies places total start (map pulled (take (i + 1) as_)))
  flat_more start kind as_ i d body flat flat' lt is made more =
      let ps = map pulled (take i as_) in
      let p = pulled (get_or as_ i d) in
      let b = renumbered (placed places total (start + length (sorts_of ps)) (length p.sorts)) 0 p.body in
      let next : placed_bodies places total start (map pulled (take (i + 1) as_)) ≡ placed_bodies places total start ps ++ b ∷ [] =
      ap (λ bs. placed_bodies places total start (map pulled bs)) (take_next as_ i d lt) ∙ (ap (placed_bodies places total start) (map_end pulled (take i as_) (get_or as_ i d)) ∙ bodies_end start ps p) in
      let last : flat_map (members_of kind) (b ∷ []) ≡ members_of kind b = flat_map-cons (members_of kind) b [] ∙ append-nil (members_of kind b) in
      more ∙ (rw (is, made) (sym (ap (flat_map (members_of kind)) next ∙ (flat_map-append (members_of kind) (placed_bodies places total start ps) (b ∷ []) ∙ ap (λ xs. flat_map (members_of kind) (placed_bodies places total start ps) ++ xs) last))))

-- How many are pulled out is below the norm size.
count_kept : (a : Form) → pulled a ≡ kept a → length (pulled a).sorts + 1 ≤ norm_size_of a
count_kept a e = let none : length (pulled a).sorts ≡ 0 = ap (λ (p : Pulled). length p.sorts) e in omega (arith, some_size a)

counts : (as_ : List Form) → AllByRecursion (λ a. length (pulled a).sorts + 1 ≤ norm_size_of a) as_ → length (sorts_of (map pulled as_)) ≤ sum (map norm_size_of as_)
counts [] all = omega arith
counts (a ∷ as_) all =
    let e = length-append (pulled a).sorts (sorts_of (map pulled as_)) in
    rw (sum_cons (norm_size_of a) (map norm_size_of as_)) (omega (arith, all.0, counts as_ all.1))

pub count_within : (a : Form) → length (pulled a).sorts + 1 ≤ norm_size_of a
count_within = form_induction _ (record {
  atom = λ p ts. count_kept _ (pulled-Atom p ts);
  eq = λ l r. count_kept _ (pulled-Eq l r);
  not = λ a ih. count_kept _ (kept-Not a);
  and = λ as_ all. rw (norm_size_of-And, node_sorts true as_) (omega (arith, counts as_ all));
  or = λ as_ all. rw (norm_size_of-Or, node_sorts false as_) (omega (arith, counts as_ all));
  imp = λ a b ih jh. count_kept _ (kept-Imp a b);
  iff = λ a b ih jh. count_kept _ (kept-Iff a b);
  all = λ s a ih. rw (norm_size_of-All, all_sorts s a) (omega (arith, ih));
  ex = λ s a ih. count_kept _ (kept-Ex s a);
})

node_size : (g : Bool) (as_ : List Form) → norm_size_of (node g as_) ≡ 1 + sum (map norm_size_of as_)
node_size true as_ = norm_size_of-And as_
node_size false as_ = norm_size_of-Or as_

size_at : (as_ : List Form) (i : ℕ) (d : Form) → i < length as_ → norm_size_of (get_or as_ i d) ≤ sum (map norm_size_of as_)
size_at [] i d lt = absurd (omega arith)
size_at (a ∷ as_) zero d lt = rw (sum_cons (norm_size_of a) (map norm_size_of as_)) (omega arith)
size_at (a ∷ as_) (suc i) d lt = rw (sum_cons (norm_size_of a) (map norm_size_of as_)) (omega (arith, size_at as_ i d (omega arith)))

-- a member, as code meets it
module _ (g : Bool) (as_ : List Form) (i : ℕ) (a : Form) (small : norm_size_of (node g as_) ≤ 100000) (lt : i < length as_) (is : a ≡ get_or as_ i a) where
  pub member_small : norm_size_of a ≤ 100000
  member_small = subst (λ b. norm_size_of b ≤ 100000) (sym is) (omega (arith, node_size g as_, size_at as_ i a lt))

  module _ (total count : ℕ) (so_far : total ≡ length (sorts_of (map pulled (take i as_)))) (here : count ≡ length (pulled a).sorts) where
    own_count : count ≡ length (pulled (get_or as_ i a)).sorts
    own_count = here ∙ ap (λ b. length (pulled b).sorts) is

    pub total_more : total + count ≡ length (sorts_of (map pulled (take (i + 1) as_)))
    total_more =
        let next = ap length (sorts_more as_ i a lt) ∙ length-append (sorts_of (map pulled (take i as_))) (pulled (get_or as_ i a)).sorts in
        omega (arith, own_count)

    pub total_small : total + count ≤ 100000
    total_small =
        let whole : length (pulled (node g as_)).sorts ≡ length (sorts_of (map pulled as_)) = ap length (node_sorts g as_) in
        omega (arith, own_count, sorts_within as_ i a lt, count_within (node g as_))
