-- Formulas that are their own normal forms, told by their structure.
use Rattle.std.specs.Prelude.{ℕ, suc, ◌≡◌, ◌==◌, ◌&&◌, ◌||◌, Bool, true, false, not, List, [], ◌∷◌, ◌++◌, length, map, flat_map, refl}
use Rattle.std.specs.List.{AllByRecursion, list_all, list_any}
use Rattle.std.proofs.Common.{ap, sym, subst, ◌∙◌, arith, ◌⊎◌, inl, inr}
use Rattle.std.proofs.lemmas.Bool.{ne_eqb}
use Rattle.std.proofs.lemmas.List.{length-map}
use Rattle.std.proofs.lemmas.List.Concat.{flat_map-cons}
use Rattle.std.proofs.lemmas.List.Folds.{list_any-append}
use Rattle.fof_terms.proofs.Trees.{fold-Atom, fold-Eq, fold-Not, fold-And, fold-Or, fold-Imp, fold-Iff, fold-All, fold-Ex}
use Rattle.fof_terms.proofs.Induction.{form_induction}
use Rattle.fof_terms.specs.Variables.{has_variable}
use Rattle.fof_terms.specs.declared.term.Term.{Term}
use Rattle.fof_terms.specs.declared.form.Form.{Form, Atom, Eq, Not, And, Or, Imp, Iff, All, Ex}
use Rattle.fof_terms.specs.declared.form.Form.TheFolds.{fold-Form}
use Rattle.clause_form.specs.Norm.{node, members_of, ends, alone, joined_flat, join, quantifier}
use Rattle.clause_form.proofs.NormFacts.{joined_flat-ended, joined_flat-alone}
use Rattle.flat_form.proofs.Standing.{stands, stands_members, stands_ends, stands_cases, node_members, end_ends, other_members}
use Rattle.fof_terms.specs.declared.form.Form.TheOpen as form

-- whether it is an atom or an equation, and whether it is its own normal form
pub record Own : Type 0 where
  pub whole : Form
  pub atomic : Bool
  pub own : Bool

abbrev own_of : Form → Bool → Bool → Own
own_of whole atomic own = record { whole = whole; atomic = atomic; own = own }

abbrev pub whole_in : Own → Form
whole_in a = a.whole

abbrev pub own_in : Own → Bool
own_in a = a.own

-- the members are in order: each is its own normal form and may stand there, and there isn't one alone
abbrev pub own_members : Bool → List Own → Bool
own_members g as_ = list_all own_in as_ && (list_all (λ a. stands g (whole_in a)) as_ && not (length as_ == 1))

abbrev pub own_step : form.Form-F Own → Own
own_step (form.Atom p ts) = own_of (Atom p ts) true true
own_step (form.Eq l r) = own_of (Eq l r) true true
own_step (form.Not a) = own_of (Not a.whole) false a.atomic
own_step (form.And as_) = own_of (And (map whole_in as_)) false (own_members true as_)
own_step (form.Or as_) = own_of (Or (map whole_in as_)) false (own_members false as_)
own_step (form.Imp a b) = own_of (Imp a.whole b.whole) false false
own_step (form.Iff a b) = own_of (Iff a.whole b.whole) false false
own_step (form.All s a) = own_of (All s a.whole) false (a.own && has_variable 0 a.whole)
own_step (form.Ex s a) = own_of (Ex s a.whole) false (a.own && has_variable 0 a.whole)

unfoldable pub own : Form → Own
own = fold-Form Own own_step

abbrev pub IsOwn : Form → Type 0
IsOwn a = (own a).own ≡ true

pub own-Atom : (p : ℕ) (ts : List Term) → own (Atom p ts) ≡ own_step (form.Atom p ts)
unfolding own
own-Atom p ts = fold-Atom Own own_step p ts

pub own-Eq : (l r : Term) → own (Eq l r) ≡ own_step (form.Eq l r)
unfolding own
own-Eq l r = fold-Eq Own own_step l r

pub own-Not : (a : Form) → own (Not a) ≡ own_step (form.Not (own a))
unfolding own
own-Not a = fold-Not Own own_step a

pub own-And : (as_ : List Form) → own (And as_) ≡ own_step (form.And (map own as_))
unfolding own
own-And as_ = fold-And Own own_step as_

pub own-Or : (as_ : List Form) → own (Or as_) ≡ own_step (form.Or (map own as_))
unfolding own
own-Or as_ = fold-Or Own own_step as_

pub own-Imp : (a b : Form) → own (Imp a b) ≡ own_step (form.Imp (own a) (own b))
unfolding own
own-Imp a b = fold-Imp Own own_step a b

pub own-Iff : (a b : Form) → own (Iff a b) ≡ own_step (form.Iff (own a) (own b))
unfolding own
own-Iff a b = fold-Iff Own own_step a b

pub own-All : (s : ℕ) (a : Form) → own (All s a) ≡ own_step (form.All s (own a))
unfolding own
own-All s a = fold-All Own own_step s a

pub own-Ex : (s : ℕ) (a : Form) → own (Ex s a) ≡ own_step (form.Ex s (own a))
unfolding own
own-Ex s a = fold-Ex Own own_step s a

wholes : (as_ : List Form) → AllByRecursion (λ a. (own a).whole ≡ a) as_ → map whole_in (map own as_) ≡ as_
wholes [] all = refl
wholes (a ∷ as_) all = rw (all.0, wholes as_ all.1) refl

-- the formula itself
pub own_whole : (a : Form) → (own a).whole ≡ a
own_whole = form_induction _ (record {
  atom = λ p ts. rw (own-Atom p ts) refl;
  eq = λ l r. rw (own-Eq l r) refl;
  not = λ a ih. rw (own-Not a) (ap Not ih);
  and = λ as_ all. rw (own-And as_) (ap And (wholes as_ all));
  or = λ as_ all. rw (own-Or as_) (ap Or (wholes as_ all));
  imp = λ a b ih jh. rw (own-Imp a b, ih, jh) refl;
  iff = λ a b ih jh. rw (own-Iff a b, ih, jh) refl;
  all = λ s a ih. rw (own-All s a) (ap (All s) ih);
  ex = λ s a ih. rw (own-Ex s a) (ap (Ex s) ih);
})

-- Nodes and quantifiers that are their own normal forms.
both : (a b : Bool) → (a && b) ≡ true → (a ≡ true) × (b ≡ true)
both true b e = (refl, e)
both false b e = absurd (let never : false ≡ true = e in cc)

all_of : {X Y : Type 0} (f : Y → Bool) (g : X → Y) (xs : List X) → list_all f (map g xs) ≡ true → AllByRecursion (λ x. f (g x) ≡ true) xs
all_of f g [] e = tt
all_of f g (x ∷ xs) e = let parts = both (f (g x)) (list_all f (map g xs)) e in (parts.0, all_of f g xs parts.1)

of_all : {X Y : Type 0} (f : Y → Bool) (g : X → Y) (xs : List X) → AllByRecursion (λ x. f (g x) ≡ true) xs → list_all f (map g xs) ≡ true
of_all f g [] all = refl
of_all f g (x ∷ xs) all = rw (all.0, of_all f g xs all.1) refl

pub each_same : {X : Type 0} (P Q : X → Type 0) (xs : List X) → ((x : X) → P x → Q x) → AllByRecursion P xs → AllByRecursion Q xs
each_same P Q [] h all = tt
each_same P Q (x ∷ xs) h all = (h x all.0, each_same P Q xs h all.1)

abbrev pub Stands : Bool → Form → Type 0
Stands g a = stands g a ≡ true

-- what the members of such a node are
pub record OwnMembers (g : Bool) (as_ : List Form) : Type 0 where
  pub own : AllByRecursion IsOwn as_
  pub stand : AllByRecursion (Stands g) as_
  pub not_one : not (length as_ == 1) ≡ true

node_own_is : (g : Bool) (as_ : List Form) → (own (node g as_)).own ≡ own_members g (map own as_)
node_own_is true as_ = ap own_in (own-And as_)
node_own_is false as_ = ap own_in (own-Or as_)

pub own_node : (g : Bool) (as_ : List Form) → IsOwn (node g as_) → OwnMembers g as_
own_node g as_ h =
    let one = both (list_all own_in (map own as_)) (list_all (λ a. stands g (whole_in a)) (map own as_) && not (length (map own as_) == 1)) (sym (node_own_is g as_) ∙ h) in
    let two = both (list_all (λ a. stands g (whole_in a)) (map own as_)) (not (length (map own as_) == 1)) one.1 in
    record {
      own = all_of own_in own as_ one.0;
      stand = each_same _ _ as_ (λ a e. ap (stands g) (sym (own_whole a)) ∙ e) (all_of (λ a. stands g (whole_in a)) own as_ two.0);
      not_one = ap (λ n. not (n == 1)) (sym (length-map as_ own)) ∙ two.1;
    }

pub node_own : (g : Bool) (as_ : List Form) → OwnMembers g as_ → IsOwn (node g as_)
node_own g as_ m =
    let one = of_all own_in own as_ m.own in
    let two = of_all (λ a. stands g (whole_in a)) own as_ (each_same _ _ as_ (λ a e. ap (stands g) (own_whole a) ∙ e) m.stand) in
    let three : not (length (map own as_) == 1) ≡ true = ap (λ n. not (n == 1)) (length-map as_ own) ∙ m.not_one in
    node_own_is g as_ ∙ (rw (one, two, three) refl)

quantifier_own_is : (g : Bool) (s : ℕ) (a : Form) → (own (quantifier g s a)).own ≡ ((own a).own && has_variable 0 a)
quantifier_own_is true s a = ap own_in (own-All s a) ∙ ap (λ b. (own a).own && has_variable 0 b) (own_whole a)
quantifier_own_is false s a = ap own_in (own-Ex s a) ∙ ap (λ b. (own a).own && has_variable 0 b) (own_whole a)

pub own_quantifier : (g : Bool) (s : ℕ) (a : Form) → IsOwn (quantifier g s a) → IsOwn a × (has_variable 0 a ≡ true)
own_quantifier g s a h = both (own a).own (has_variable 0 a) (sym (quantifier_own_is g s a) ∙ h)

pub quantifier_own : (g : Bool) (s : ℕ) (a : Form) → IsOwn a → has_variable 0 a ≡ true → IsOwn (quantifier g s a)
quantifier_own g s a h e = quantifier_own_is g s a ∙ (rw (h, e) refl)

-- no implication is
pub own_imp : (a b : Form) → IsOwn (Imp a b) → ⊥
own_imp a b h = let never : false ≡ true = ap own_in (sym (own-Imp a b)) ∙ h in cc

pub own_iff : (a b : Form) → IsOwn (Iff a b) → ⊥
own_iff a b h = let never : false ≡ true = ap own_in (sym (own-Iff a b)) ∙ h in cc

-- What stands in a node is joined as it is.
pub flat_stands : (g : Bool) (as_ : List Form) → AllByRecursion (Stands g) as_ → flat_map (members_of g) as_ ≡ as_
flat_stands g [] all = refl
flat_stands g (a ∷ as_) all = flat_map-cons (members_of g) a as_ ∙ (rw (stands_members g a all.0, flat_stands g as_ all.1) refl)

pub none_ends : (g : Bool) (as_ : List Form) → AllByRecursion (Stands g) as_ → list_any (ends g) as_ ≡ false
none_ends g [] all = refl
none_ends g (a ∷ as_) all = rw (stands_ends g a all.0, none_ends g as_ all.1) refl

not_alone : (g : Bool) (as_ : List Form) → not (length as_ == 1) ≡ true → alone g as_ ≡ node g as_
not_alone g [] e = refl
not_alone g (a ∷ []) e = absurd (let never : false ≡ true = e in cc)
not_alone g (a ∷ b ∷ as_) e = refl

pub join_own_is : (g : Bool) (as_ : List Form) → OwnMembers g as_ → join g as_ ≡ node g as_
join_own_is g as_ m =
    ap (joined_flat g) (flat_stands g as_ m.stand) ∙ (joined_flat-alone g as_ (none_ends g as_ m.stand) ∙ not_alone g as_ m.not_one)

-- A joined node of such formulas is one.
abbrev pub OwnStands : Bool → Form → Type 0
OwnStands g a = IsOwn a × Stands g a

stands_list : (g : Bool) (as_ : List Form) → AllByRecursion IsOwn as_ → AllByRecursion (Stands g) as_ → AllByRecursion (OwnStands g) as_
stands_list g [] one two = tt
stands_list g (a ∷ as_) one two = ((one.0, two.0), stands_list g as_ one.1 two.1)

none_of : (a b : Bool) → (a || b) ≡ false → (a ≡ false) × (b ≡ false)
none_of true b e = absurd (let never : true ≡ false = e in cc)
none_of false b e = (refl, e)

-- the members of one that doesn't end the node
pub of_members : (g : Bool) (a : Form) → IsOwn a → (a ≡ node (not g) [] → ⊥) → AllByRecursion (OwnStands g) (members_of g a)
of_members g a h live =
    elim (stands_cases g a) [
      | inl e ↦ rw (stands_members g a e) ((h, e), tt)
      | inr c ↦
          elim c [
            | inl k ↦
                let m = own_node g k.0 (subst IsOwn k.1 h) in
                rw (k.1, node_members g k.0) (stands_list g k.0 m.own m.stand)
            | inr e ↦ absurd (live e)
          ]
    ]

joined_lists : {X : Type 0} (P : X → Type 0) (xs ys : List X) → AllByRecursion P xs → AllByRecursion P ys → AllByRecursion P (xs ++ ys)
joined_lists P [] ys h k = k
joined_lists P (x ∷ xs) ys h k = (h.0, joined_lists P xs ys h.1 k)

abbrev pub Goes : Bool → Form → Type 0
Goes g a = a ≡ node (not g) [] → ⊥

pub flat_own : (g : Bool) (as_ : List Form) → AllByRecursion IsOwn as_ → AllByRecursion (Goes g) as_ → AllByRecursion (OwnStands g) (flat_map (members_of g) as_)
flat_own g [] h live = tt
flat_own g (a ∷ as_) h live =
    rw (flat_map-cons (members_of g) a as_) (joined_lists (OwnStands g) (members_of g a) (flat_map (members_of g) as_) (of_members g a h.0 live.0) (flat_own g as_ h.1 live.1))

owns : (g : Bool) (as_ : List Form) → AllByRecursion (OwnStands g) as_ → AllByRecursion IsOwn as_
owns g as_ = each_same _ _ as_ (λ a h. h.0)

pub stand_all : (g : Bool) (as_ : List Form) → AllByRecursion (OwnStands g) as_ → AllByRecursion (Stands g) as_
stand_all g as_ = each_same _ _ as_ (λ a h. h.1)

more_than_one : (n : ℕ) → not (suc (suc n) == 1) ≡ true
more_than_one n = ap not (ne_eqb (suc (suc n)) 1 (λ e. omega arith))

pub alone_own : (g : Bool) (as_ : List Form) → AllByRecursion (OwnStands g) as_ → IsOwn (alone g as_)
alone_own g [] all = node_own g [] (record { own = tt; stand = tt; not_one = refl })
alone_own g (a ∷ []) all = all.0.0
alone_own g (a ∷ b ∷ as_) all = node_own g (a ∷ b ∷ as_) (record { own = owns g (a ∷ b ∷ as_) all; stand = stand_all g (a ∷ b ∷ as_) all; not_one = more_than_one (length as_) })

either : (b : Bool) → (b ≡ true) ⊎ (b ≡ false)
either true = inl refl
either false = inr refl

-- where none ends the node, no member is what ends it
goes_one : (g : Bool) (a : Form) → list_any (ends g) (members_of g a) ≡ false → Goes g a
goes_one g a e is =
    let stays : members_of g (node (not g) []) ≡ node (not g) [] ∷ [] = other_members g in
    let never : (ends g (node (not g) []) || false) ≡ false = rw (is, stays) at e in
    let ended : (true || false) ≡ false = ap (λ b. b || false) (sym (end_ends g)) ∙ never in
    (let no : true ≡ false = ended in cc)

goes_all : (g : Bool) (as_ : List Form) → list_any (ends g) (flat_map (members_of g) as_) ≡ false → AllByRecursion (Goes g) as_
goes_all g [] e = tt
goes_all g (a ∷ as_) e =
    let parts = none_of (list_any (ends g) (members_of g a)) (list_any (ends g) (flat_map (members_of g) as_)) (sym (ap (list_any (ends g)) (flat_map-cons (members_of g) a as_) ∙ list_any-append (ends g) (members_of g a) (flat_map (members_of g) as_)) ∙ e) in
    (goes_one g a parts.0, goes_all g as_ parts.1)

pub empty_own : (g : Bool) → IsOwn (node g [])
empty_own g = node_own g [] (record { own = tt; stand = tt; not_one = refl })

pub join_own : (g : Bool) (as_ : List Form) → AllByRecursion IsOwn as_ → IsOwn (join g as_)
join_own g as_ h =
    elim (either (list_any (ends g) (flat_map (members_of g) as_))) [
      | inl e ↦ rw (joined_flat-ended g (flat_map (members_of g) as_) e) (empty_own (not g))
      | inr e ↦ rw (joined_flat-alone g (flat_map (members_of g) as_) e) (alone_own g (flat_map (members_of g) as_) (flat_own g as_ h (goes_all g as_ e)))
    ]
