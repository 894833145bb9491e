-- In a normal form each variable of a quantifier that is pulled out stands in the body.
use Rattle.std.specs.Prelude.{ℕ, ◌≡◌, ◌+◌, ◌-◌, ◌<◌, ◌≤◌, ◌||◌, nat_eq, Bool, true, false, not, List, [], ◌∷◌, ◌++◌, length, map, flat_map, refl}
use Rattle.std.specs.List.{AllByRecursion, list_any}
use Rattle.std.proofs.Common.{ap, sym, subst, ◌∙◌, arith, ◌⊎◌, inl, inr, length-append}
use Rattle.std.proofs.lemmas.Bool.{eq-eqb, eqb-true}
use Rattle.std.proofs.lemmas.List.Concat.{flat_map-cons}
use Rattle.std.proofs.lemmas.List.Folds.{list_any-append}
use Rattle.fof_terms.specs.declared.form.Form.{Form, All}
use Rattle.fof_terms.specs.declared.form.Form.TheViews.{outs-And, outs-Or}
use Rattle.fof_terms.specs.Lift.{lifted}
use Rattle.fof_terms.specs.Variables.{has_variable}
use Rattle.fof_terms.proofs.Induction.{form_induction}
use Rattle.fof_terms.proofs.LiftingLaws.{below_or_above}
use Rattle.fof_terms.proofs.VariablesFacts.{has_variable-And, has_variable-Or, has_variable-All}
use Rattle.clause_form.specs.Norm.{node, members_of, ends, alone, join}
use Rattle.clause_form.proofs.Joined.{members_cases, ends_case}
use Rattle.clause_form.proofs.MemberKinds.{ends-And-true, ends-And-false, ends-Or-true, ends-Or-false}
use Rattle.clause_form.proofs.NormFacts.{joined_flat-alone}
use Rattle.flat_form.specs.Flat.{Pulled, kept, sorts_of, bodies_of, pulled, order_of}
use Rattle.flat_form.specs.Renumbered.{renumbered}
use Rattle.flat_form.specs.Variables.{variables_of}
use Rattle.flat_form.proofs.Occurring.{stands_in, new_form}
use Rattle.flat_form.proofs.Order.{has, order_has}
use Rattle.flat_form.proofs.Own.{IsOwn, Stands, OwnStands, own_node, own_quantifier, flat_own, none_ends, stand_all}
use Rattle.flat_form.proofs.OwnNorms.{own_lifted}
use Rattle.flat_form.proofs.PulledFacts.{pulled-Atom, pulled-Eq, kept-Not, kept-Imp, kept-Iff, kept-Ex, node_sorts, node_body, all_sorts, all_body}
use Rattle.flat_form.proofs.PulledOwn.{pulled_own}
use Rattle.flat_form.proofs.Renumbering.{renumbering, lift_number, lift_below, lift_above, lift_is, ends_walk}
use Rattle.flat_form.proofs.Standing.{stands, end_ends}

either : (b : Bool) → (b ≡ true) ⊎ (b ≡ false)
either true = inl refl
either false = inr refl

or_left : (a b : Bool) → a ≡ true → (a || b) ≡ true
or_left true b e = refl
or_left false b e = absurd (let never : false ≡ true = e in cc)

or_right : (a b : Bool) → b ≡ true → (a || b) ≡ true
or_right true b e = refl
or_right false b e = e

one_of : (a b : Bool) → (a || b) ≡ true → (a ≡ true) ⊎ (b ≡ true)
one_of true b e = inl refl
one_of false b e = inr e

-- Variables of a formula that is lifted.
in_map : (new : ℕ → ℕ) (q : ℕ) (ks : List ℕ) → has q ks ≡ true → has (new q) (map new ks) ≡ true
in_map new q [] e = absurd (let never : false ≡ true = e in cc)
in_map new q (k ∷ ks) e =
    elim (either (nat_eq q k)) [
      | inl h ↦ let same : new q ≡ new k = ap new (eqb-true q k h) in rw (eq-eqb (new q) (new k) same) refl
      | inr h ↦ or_right (nat_eq (new q) (new k)) (has (new q) (map new ks)) (in_map new q ks (let rest : (nat_eq q k || has q ks) ≡ true = e in (rw h at rest)))
    ]

lifted_has : (by n q : ℕ) (a : Form) → has_variable q a ≡ true → has_variable (lift_number by n q) (lifted by n a) ≡ true
lifted_has by n q a e =
    let new = lift_number by n in
    ap (has_variable (new q)) (lift_is by n a) ∙ (sym (stands_in (new q) (renumbered new 0 a)) ∙ (ap (has (new q)) (new_form new a 0) ∙ in_map new q (variables_of 0 a) (stands_in q a ∙ e)))

-- a body's variable among those of all
moved_has : (e f n q : ℕ) (a : Form) → has_variable q a ≡ true → (q < n → has_variable (q + e) (lifted e 0 (lifted f n a)) ≡ true) × (n ≤ q → has_variable (q + f + e) (lifted e 0 (lifted f n a)) ≡ true)
moved_has e f n q a h =
    let one = lifted_has f n q a h in
    let two = lifted_has e 0 (lift_number f n q) (lifted f n a) one in (
      λ lt. ap (λ k. has_variable k (lifted e 0 (lifted f n a))) (sym (ap (lift_number e 0) (lift_below f n q lt) ∙ lift_above e 0 q (omega arith))) ∙ two,
      λ le. ap (λ k. has_variable k (lifted e 0 (lifted f n a))) (sym (ap (lift_number e 0) (lift_above f n q le) ∙ lift_above e 0 (q + f) (omega arith))) ∙ two,
    )

-- Formulas that are neither truth nor falsehood.
abbrev pub Live : Form → Type 0
Live a = (g : Bool) → ends g a ≡ false

none_in_empty : (g : Bool) (k : ℕ) → has_variable k (node g []) ≡ false
none_in_empty true k = has_variable-And k []
none_in_empty false k = has_variable-Or k []

variable_live : (a : Form) (k : ℕ) → has_variable k a ≡ true → Live a
variable_live a k h g =
    elim (either (ends g a)) [
      | inl e ↦ absurd (let never : true ≡ false = sym h ∙ (ap (has_variable k) (ends_case g a e) ∙ none_in_empty (not g) k) in cc)
      | inr e ↦ e
    ]

stands_empty : (g h : Bool) → stands g (node h []) ≡ false
unfolding stands
stands_empty true true = rw (outs-And []) refl
stands_empty true false = rw (outs-Or []) refl
stands_empty false true = rw (outs-And []) refl
stands_empty false false = rw (outs-Or []) refl

stands_live : (g : Bool) (a : Form) → Stands g a → Live a
stands_live g a h k =
    elim (either (ends k a)) [
      | inl e ↦ absurd (let never : true ≡ false = sym h ∙ (ap (stands g) (ends_case k a e) ∙ stands_empty g (not k)) in cc)
      | inr e ↦ e
    ]

stand_lists : (g : Bool) (as_ : List Form) → AllByRecursion (Stands g) as_ → AllByRecursion Live as_
stand_lists g [] h = tt
stand_lists g (a ∷ as_) h = (stands_live g a h.0, stand_lists g as_ h.1)

live_goes : (g : Bool) (a : Form) → Live a → a ≡ node (not g) [] → ⊥
live_goes g a h is = let never : true ≡ false = sym (end_ends g) ∙ (ap (ends g) (sym is) ∙ h g) in cc

go_all : (g : Bool) (as_ : List Form) → AllByRecursion Live as_ → AllByRecursion (λ a. a ≡ node (not g) [] → ⊥) as_
go_all g [] h = tt
go_all g (a ∷ as_) h = (live_goes g a h.0, go_all g as_ h.1)

lifted_live : (by n : ℕ) (a : Form) → Live a → Live (lifted by n a)
lifted_live by n a h g = ap (ends g) (lift_is by n a) ∙ (ends_walk _ _ (renumbering (lift_number by n)) 0 g a ∙ h g)

-- The joined node of such formulas isn't ended.
module _ (g : Bool) (as_ : List Form) (own_ : AllByRecursion IsOwn as_) (live : AllByRecursion Live as_) where
  members_stand : AllByRecursion (OwnStands g) (flat_map (members_of g) as_)
  members_stand = flat_own g as_ own_ (go_all g as_ live)

  goes_on : join g as_ ≡ alone g (flat_map (members_of g) as_)
  goes_on = joined_flat-alone g (flat_map (members_of g) as_) (none_ends g (flat_map (members_of g) as_) (stand_all g (flat_map (members_of g) as_) members_stand))

or_none : (b : Bool) → (b || false) ≡ b
or_none true = refl
or_none false = refl

variable_in_node : (g : Bool) (k : ℕ) (as_ : List Form) → has_variable k (node g as_) ≡ list_any (has_variable k) as_
variable_in_node true k as_ = has_variable-And k as_
variable_in_node false k as_ = has_variable-Or k as_

variable_in_alone : (g : Bool) (k : ℕ) (as_ : List Form) → has_variable k (alone g as_) ≡ list_any (has_variable k) as_
variable_in_alone g k [] = none_in_empty g k
variable_in_alone g k (a ∷ []) = sym (or_none (has_variable k a))
variable_in_alone g k (a ∷ b ∷ as_) = variable_in_node g k (a ∷ b ∷ as_)

variable_in_members : (g : Bool) (k : ℕ) (a : Form) → list_any (has_variable k) (members_of g a) ≡ has_variable k a
variable_in_members g k a =
    elim (members_cases g a) [
      | inl c ↦ ap (list_any (has_variable k)) c.2 ∙ (sym (variable_in_node g k c.0) ∙ ap (has_variable k) (sym c.1))
      | inr e ↦ ap (list_any (has_variable k)) e ∙ or_none (has_variable k a)
    ]

variable_in_flat : (g : Bool) (k : ℕ) (as_ : List Form) → list_any (has_variable k) (flat_map (members_of g) as_) ≡ list_any (has_variable k) as_
variable_in_flat g k [] = refl
variable_in_flat g k (a ∷ as_) =
    ap (list_any (has_variable k)) (flat_map-cons (members_of g) a as_)
    ∙ (list_any-append (has_variable k) (members_of g a) (flat_map (members_of g) as_) ∙ (rw (variable_in_members g k a, variable_in_flat g k as_) refl))

variable_in_join : (g : Bool) (k : ℕ) (as_ : List Form) → AllByRecursion IsOwn as_ → AllByRecursion Live as_ → has_variable k (join g as_) ≡ list_any (has_variable k) as_
variable_in_join g k as_ o l = ap (has_variable k) (goes_on g as_ o l) ∙ (variable_in_alone g k (flat_map (members_of g) as_) ∙ variable_in_flat g k as_)

more_live : (g : Bool) (a b : Form) (as_ : List Form) → Live (node g (a ∷ b ∷ as_))
more_live true a b as_ true = ends-And-true (a ∷ b ∷ as_)
more_live true a b as_ false = ends-And-false (a ∷ b ∷ as_)
more_live false a b as_ true = ends-Or-true (a ∷ b ∷ as_)
more_live false a b as_ false = ends-Or-false (a ∷ b ∷ as_)

-- a list that isn't empty
abbrev IsSome : {X : Type 0} → List X → Type 0
IsSome [] = ⊥
IsSome (x ∷ xs) = Unit {0}

some_alone : (g : Bool) (as_ : List Form) → IsSome as_ → AllByRecursion Live as_ → Live (alone g as_)
some_alone g [] s h = absurd s
some_alone g (a ∷ []) s h = h.0
some_alone g (a ∷ b ∷ as_) s h = more_live g a b as_

some_before : {X : Type 0} (xs ys : List X) → IsSome xs → IsSome (xs ++ ys)
some_before [] ys s = absurd s
some_before (x ∷ xs) ys s = tt

not_not : (g : Bool) → not (not g) ≡ g
not_not true = refl
not_not false = refl

some_node : (g : Bool) (as_ : List Form) → Live (node g as_) → IsSome as_
some_node g [] h = let never : true ≡ false = sym (end_ends (not g)) ∙ (ap (λ k. ends (not g) (node k [])) (not_not g) ∙ h (not g)) in absurd cc
some_node g (a ∷ as_) h = tt

some_members : (g : Bool) (a : Form) → Live a → IsSome (members_of g a)
some_members g a h =
    elim (members_cases g a) [
      | inl c ↦ subst IsSome (sym c.2) (some_node g c.0 (λ k. ap (ends k) (sym c.1) ∙ h k))
      | inr e ↦ subst IsSome (sym e) tt
    ]

live_join : (g : Bool) (as_ : List Form) → IsSome as_ → AllByRecursion IsOwn as_ → AllByRecursion Live as_ → Live (join g as_)
live_join g [] s o l k = absurd s
live_join g (a ∷ as_) s o l k =
    let flat = flat_map (members_of g) (a ∷ as_) in
    let some : IsSome flat = subst IsSome (sym (flat_map-cons (members_of g) a as_)) (some_before (members_of g a) (flat_map (members_of g) as_) (some_members g a l.0)) in
    ap (ends k) (goes_on g (a ∷ as_) o l) ∙ some_alone g flat some (stand_lists g flat (stand_all g flat (members_stand g (a ∷ as_) o l))) k

-- The bodies of members.
bodies_own : (f : ℕ) (as_ : List Form) → AllByRecursion IsOwn as_ → AllByRecursion IsOwn (bodies_of f (map pulled as_))
bodies_own f [] h = tt
bodies_own f (a ∷ as_) h =
    let p = pulled a in
    (own_lifted (length (sorts_of (map pulled as_))) 0 (lifted f (length p.sorts) p.body) (own_lifted f (length p.sorts) p.body (pulled_own a h.0)), bodies_own (f + length p.sorts) as_ h.1)

abbrev LiveBody : Form → Type 0
LiveBody a = IsOwn a → Live a → Live (pulled a).body

bodies_live : (f : ℕ) (as_ : List Form) → AllByRecursion LiveBody as_ → AllByRecursion IsOwn as_ → AllByRecursion Live as_ → AllByRecursion Live (bodies_of f (map pulled as_))
bodies_live f [] all o l = tt
bodies_live f (a ∷ as_) all o l =
    let p = pulled a in
    (lifted_live (length (sorts_of (map pulled as_))) 0 (lifted f (length p.sorts) p.body) (lifted_live f (length p.sorts) p.body (all.0 o.0 l.0)), bodies_live (f + length p.sorts) as_ all.1 o.1 l.1)

some_bodies : (as_ : List Form) → IsSome as_ → IsSome (bodies_of 0 (map pulled as_))
some_bodies [] s = absurd s
some_bodies (a ∷ as_) s = tt

live_node : (g : Bool) (as_ : List Form) → AllByRecursion LiveBody as_ → LiveBody (node g as_)
live_node g as_ all o l =
    let m = own_node g as_ o in
    subst Live (sym (node_body g as_))
    (live_join g (bodies_of 0 (map pulled as_)) (some_bodies as_ (some_node g as_ l)) (bodies_own 0 as_ m.own) (bodies_live 0 as_ all m.own (stand_lists g as_ m.stand)))

live_kept : (a : Form) → pulled a ≡ kept a → LiveBody a
live_kept a is o l = subst Live (sym (ap (λ (p : Pulled). p.body) is)) l

live_body : (a : Form) → LiveBody a
live_body = form_induction _ (record {
  atom = λ p ts. live_kept _ (pulled-Atom p ts);
  eq = λ l r. live_kept _ (pulled-Eq l r);
  not = λ a ih. live_kept _ (kept-Not a);
  and = live_node true;
  or = live_node false;
  imp = λ a b ih jh. live_kept _ (kept-Imp a b);
  iff = λ a b ih jh. live_kept _ (kept-Iff a b);
  all = λ s a ih o l.
      let parts = own_quantifier true s a o in
      subst Live (sym (all_body s a)) (ih parts.0 (variable_live a 0 parts.1));
  ex = λ s a ih. live_kept _ (kept-Ex s a);
})

-- What stands in a formula stands in the body, and so does each variable of what is pulled out.
record Stand (a : Form) : Type 0 where
  old : (k : ℕ) → has_variable k a ≡ true → has_variable (k + length (pulled a).sorts) (pulled a).body ≡ true
  own_ones : (k : ℕ) → k < length (pulled a).sorts → has_variable k (pulled a).body ≡ true

stand_kept : (a : Form) → pulled a ≡ kept a → Stand a
stand_kept a is = record {
  old = λ k e.
      let none : length (pulled a).sorts ≡ 0 = ap (λ (p : Pulled). length p.sorts) is in
      let same : k + length (pulled a).sorts ≡ k = omega arith in
      ap (λ (b : Form). has_variable (k + length (pulled a).sorts) b) (ap (λ (p : Pulled). p.body) is) ∙ (ap (λ n. has_variable n a) same ∙ e);
  own_ones = λ k lt.
      let none : length (pulled a).sorts ≡ 0 = ap (λ (p : Pulled). length p.sorts) is in
      absurd (omega arith);
}

old_in : (f : ℕ) (as_ : List Form) → AllByRecursion (λ a. IsOwn a → Stand a) as_ → AllByRecursion IsOwn as_ → (k : ℕ) → list_any (has_variable k) as_ ≡ true
    → list_any (has_variable (k + f + length (sorts_of (map pulled as_)))) (bodies_of f (map pulled as_)) ≡ true
old_in f [] all o k e = e
old_in f (a ∷ as_) all o k e =
    let p = pulled a in
    let n = length p.sorts in
    let later = length (sorts_of (map pulled as_)) in
    let sum = length-append p.sorts (sorts_of (map pulled as_)) in
    let total = k + f + length (sorts_of (map pulled (a ∷ as_))) in
    let b = lifted later 0 (lifted f n p.body) in
    elim (one_of (has_variable k a) (list_any (has_variable k) as_) e) [
      | inl h ↦
          let there = (moved_has later f n (k + n) p.body ((all.0 o.0).old k h)).1 (omega arith) in
          let same : total ≡ k + n + f + later = omega arith in
          or_left (has_variable total b) (list_any (has_variable total) (bodies_of (f + n) (map pulled as_))) (ap (λ m. has_variable m b) same ∙ there)
      | inr h ↦
          let there = old_in (f + n) as_ all.1 o.1 k h in
          let same : total ≡ k + (f + n) + later = omega arith in
          or_right (has_variable total b) (list_any (has_variable total) (bodies_of (f + n) (map pulled as_))) (ap (λ m. list_any (has_variable m) (bodies_of (f + n) (map pulled as_))) same ∙ there)
    ]

own_in : (f : ℕ) (as_ : List Form) → AllByRecursion (λ a. IsOwn a → Stand a) as_ → AllByRecursion IsOwn as_ → (k : ℕ) → k < length (sorts_of (map pulled as_)) → list_any (has_variable k) (bodies_of f (map pulled as_)) ≡ true
own_in f [] all o k lt = absurd (omega arith)
own_in f (a ∷ as_) all o k lt =
    let p = pulled a in
    let n = length p.sorts in
    let later = length (sorts_of (map pulled as_)) in
    let sum = length-append p.sorts (sorts_of (map pulled as_)) in
    let b = lifted later 0 (lifted f n p.body) in
    elim (below_or_above k later) [
      | inl h ↦ or_right (has_variable k b) (list_any (has_variable k) (bodies_of (f + n) (map pulled as_))) (own_in (f + n) as_ all.1 o.1 k h)
      | inr h ↦
          let less : k - later < n = omega arith in
          let there = (moved_has later f n (k - later) p.body ((all.0 o.0).own_ones (k - later) less)).0 less in
          let same : k ≡ k - later + later = omega arith in
          or_left (has_variable k b) (list_any (has_variable k) (bodies_of (f + n) (map pulled as_))) (ap (λ m. has_variable m b) same ∙ there)
    ]

all_bodies : (as_ : List Form) → AllByRecursion LiveBody as_
all_bodies [] = tt
all_bodies (a ∷ as_) = (live_body a, all_bodies as_)

stand_node : (g : Bool) (as_ : List Form) → AllByRecursion (λ a. IsOwn a → Stand a) as_ → IsOwn (node g as_) → Stand (node g as_)
stand_node g as_ all o =
    let m = own_node g as_ o in
    let live = bodies_live 0 as_ (all_bodies as_) m.own (stand_lists g as_ m.stand) in
    let in_body = λ (k : ℕ). ap (has_variable k) (node_body g as_) ∙ variable_in_join g k (bodies_of 0 (map pulled as_)) (bodies_own 0 as_ m.own) live in
    let count : length (pulled (node g as_)).sorts ≡ length (sorts_of (map pulled as_)) = ap length (node_sorts g as_) in
    record {
      old = λ k e.
          let same : k + length (pulled (node g as_)).sorts ≡ k + 0 + length (sorts_of (map pulled as_)) = omega arith in
          ap (λ n. has_variable n (pulled (node g as_)).body) same ∙ (in_body (k + 0 + length (sorts_of (map pulled as_))) ∙ old_in 0 as_ all m.own k (sym (variable_in_node g k as_) ∙ e));
      own_ones = λ k lt. in_body k ∙ own_in 0 as_ all m.own k (omega arith);
    }

stand_all_quantifier : (s : ℕ) (a : Form) → (IsOwn a → Stand a) → IsOwn (All s a) → Stand (All s a)
stand_all_quantifier s a ih o =
    let parts = own_quantifier true s a o in
    let h = ih parts.0 in
    let n = length (pulled a).sorts in
    let count : length (pulled (All s a)).sorts ≡ n + 1 = ap length (all_sorts s a) ∙ (omega arith) in
    record {
      old = λ k e.
          let same : k + length (pulled (All s a)).sorts ≡ k + 1 + n = omega arith in
          ap (λ (b : Form). has_variable (k + length (pulled (All s a)).sorts) b) (all_body s a) ∙ (ap (λ m. has_variable m (pulled a).body) same ∙ h.old (k + 1) (sym (has_variable-All k s a) ∙ e));
      own_ones = λ k lt.
          ap (has_variable k) (all_body s a)
          ∙ elim (below_or_above k n) [
            | inl l ↦ h.own_ones k l
            | inr l ↦ let same : k ≡ 0 + n = omega arith in ap (λ m. has_variable m (pulled a).body) same ∙ h.old 0 parts.1
          ];
    }

all_stand : (a : Form) → IsOwn a → Stand a
all_stand = form_induction _ (record {
  atom = λ p ts o. stand_kept _ (pulled-Atom p ts);
  eq = λ l r o. stand_kept _ (pulled-Eq l r);
  not = λ a ih o. stand_kept _ (kept-Not a);
  and = stand_node true;
  or = stand_node false;
  imp = λ a b ih jh o. stand_kept _ (kept-Imp a b);
  iff = λ a b ih jh o. stand_kept _ (kept-Iff a b);
  all = stand_all_quantifier;
  ex = λ s a ih o. stand_kept _ (kept-Ex s a);
})

-- each of them is in the order of the body's variables
pub all_in_order : (a : Form) → IsOwn a → (k : ℕ) → k < length (pulled a).sorts → has k (order_of (length (pulled a).sorts) (pulled a).body) ≡ true
all_in_order a o k lt = order_has (length (pulled a).sorts) (pulled a).body k lt (stands_in k (pulled a).body ∙ (all_stand a o).own_ones k lt)
