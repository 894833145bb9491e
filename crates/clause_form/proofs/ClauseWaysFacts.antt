-- Lemmas on what specs/ClauseWays defines.
use Rattle.std.specs.Prelude.{ℕ, ◌≡◌, List, [], ◌∷◌, ◌++◌, map, flat_map, Option, Some, None, slice_get, refl}
use Rattle.std.specs.List.{AllByRecursion}
use Rattle.std.specs.Option.{option_map}
use Rattle.std.proofs.Common.{ap, sym, subst, ◌∙◌, ◌⊎◌, inl, inr, zero, suc}
use Rattle.std.proofs.lemmas.List.Concat.{flat_map-cons}
use Rattle.fof_terms.proofs.Induction.{form_induction}
use Rattle.fof_terms.specs.declared.term.Term.{Term}
use Rattle.fof_terms.specs.declared.form.Form.{Form, Atom, Eq, Not, And, Or, Imp, Iff, All, Ex}
use Rattle.fof_terms.specs.declared.form.Form.TheViews.{outs-Atom, outs-Eq, outs-Not, outs-And, outs-Or, outs-Imp, outs-Iff, outs-All, outs-Ex}
use Rattle.clause_form.specs.declared.path.Path.{Path, Leaf, Pick, Each, Under}
use Rattle.clause_form.specs.declared.path.Path.TheViews.{roll-Path}
use Rattle.clause_form.specs.declared.path.Path.TheFolds.{ind-Path, map-Path}
use Rattle.clause_form.specs.declared.clause.Lit.{Lit}
use Rattle.clause_form.specs.declared.clause.Clause.{Clause}
use Rattle.clause_form.specs.ClauseView.{View, view_of, view_of_and, view_of_or, alone_lit, denied, open_clause, within}
use Rattle.clause_form.proofs.ClauseViewFacts.{view_of-Atom, view_of-Eq, view_of-Not, view_of-And, view_of-Or, view_of-Imp, view_of-Iff, view_of-All, view_of-Ex}
use Rattle.clause_form.specs.Paths.{plain, all_beside, at_member, one_more, each_reaches, pick_in, each_in, under_in, reached, IsReached}
use Rattle.clause_form.proofs.PathCases.{reached-Leaf, reached-Pick, reached-Each, reached-Under, reached_pick, reached_each, reached_under}
use Rattle.clause_form.specs.Clauses.{Clausal, choices, joined_lists, lone_clauses, clausal, clauses_in}
use Rattle.clause_form.proofs.ClausesFacts.{clausal-Atom, clausal-Eq, clausal-Not, clausal-And, clausal-Or, clausal-Imp, clausal-Iff, clausal-All, clausal-Ex}
use denote.Hole.Carrier.{roll}
use Rattle.clause_form.specs.ClauseWays.{IsIn}
use Rattle.clause_form.specs.declared.path.Path.TheOpen as path

listed_or : (as_ : List Form) → clauses_in (Or as_) ≡ map all_beside (choices (map (λ (x : Clausal). x.clauses) (map clausal as_)))
listed_or as_ = ap (λ (x : Clausal). x.clauses) (clausal-Or as_)

listed_and : (as_ : List Form) → clauses_in (And as_) ≡ joined_lists (map (λ (x : Clausal). x.clauses) (map clausal as_))
listed_and as_ = ap (λ (x : Clausal). x.clauses) (clausal-And as_)

listed_all : (s : ℕ) (a : Form) → clauses_in (All s a) ≡ map (within s) (clauses_in a)
listed_all s a = ap (λ (x : Clausal). x.clauses) (clausal-All s a)

-- Members of lists.
in_left : {X : Type 0} (x : X) (xs ys : List X) → IsIn x xs → IsIn x (xs ++ ys)
in_left x [] ys h = absurd h
in_left x (y ∷ xs) ys (inl e) = inl e
in_left x (y ∷ xs) ys (inr h) = inr (in_left x xs ys h)

in_right : {X : Type 0} (x : X) (xs ys : List X) → IsIn x ys → IsIn x (xs ++ ys)
in_right x [] ys h = h
in_right x (y ∷ xs) ys h = inr (in_right x xs ys h)

in_both : {X : Type 0} (x : X) (xs ys : List X) → IsIn x (xs ++ ys) → IsIn x xs ⊎ IsIn x ys
in_both x [] ys h = inr h
in_both x (y ∷ xs) ys (inl e) = inl (inl e)
in_both x (y ∷ xs) ys (inr h) = elim (in_both x xs ys h) [
  | inl g ↦ inl (inr g)
  | inr g ↦ inr g
]

in_map : {X Y : Type 0} (f : X → Y) (x : X) (xs : List X) → IsIn x xs → IsIn (f x) (map f xs)
in_map f x [] h = absurd h
in_map f x (y ∷ xs) (inl e) = inl (ap f e)
in_map f x (y ∷ xs) (inr h) = inr (in_map f x xs h)

of_map : {X Y : Type 0} (f : X → Y) (y : Y) (xs : List X) → IsIn y (map f xs) → (x : X) × IsIn x xs × (y ≡ f x)
of_map f y [] h = absurd h
of_map f y (x ∷ xs) (inl e) = (x, inl refl, e)
of_map f y (x ∷ xs) (inr h) = let found = of_map f y xs h in (found.0, inr found.1, found.2)

in_flat : {X Y : Type 0} (f : X → List Y) (x : X) (y : Y) (xs : List X) → IsIn x xs → IsIn y (f x) → IsIn y (flat_map f xs)
in_flat f x y [] h g = absurd h
in_flat f x y (z ∷ xs) (inl e) g = rw flat_map-cons (in_left y (f z) (flat_map f xs) (subst (λ w. IsIn y (f w)) e g))
in_flat f x y (z ∷ xs) (inr h) g = rw flat_map-cons (in_right y (f z) (flat_map f xs) (in_flat f x y xs h g))

of_flat : {X Y : Type 0} (f : X → List Y) (y : Y) (xs : List X) → IsIn y (flat_map f xs) → (x : X) × IsIn x xs × IsIn y (f x)
of_flat f y [] h = absurd h
of_flat f y (x ∷ xs) h = elim (in_both y (f x) (flat_map f xs) (rw flat_map-cons at h)) [
  | inl g ↦ (x, inl refl, g)
  | inr g ↦ let found = of_flat f y xs g in (found.0, inr found.1, found.2)
]

-- What holds of each kind of path holds of each path.
record OfKinds (P : Path → Type 0) : Type 0 where
  leaf : P Leaf
  pick : (k : ℕ) (p : Path) → P (Pick k p)
  each : (ps : List Path) → P (Each ps)
  under : (p : Path) → P (Under p)

path_layer : (P : Path → Type 0) → OfKinds P → (y : path.Path-F ((p : Path) × P p)) → P (roll-Path (map-Path ((p : Path) × P p) Path (λ e. e.0) y))
unfolding roll-Path roll
path_layer P c path.Leaf = c.leaf
path_layer P c (path.Pick k e) = c.pick k e.0
path_layer P c (path.Each es) = c.each (map (λ e. e.0) es)
path_layer P c (path.Under e) = c.under e.0

of_kinds : (P : Path → Type 0) → OfKinds P → (p : Path) → P p
of_kinds P c = ind-Path P (λ x y is. subst (λ z. P (roll-Path z)) is (path_layer P c y))

clash : (o : Option Clause) (c : Clause) → o ≡ None → o ≡ Some c → ⊥
clash o c e f = let never : None ≡ Some c = sym e ∙ f in cc

-- Literals.
and_plain : (as_ : List Form) → plain (view_of_and (map view_of as_)).lit ≡ None
and_plain [] = refl
and_plain (a ∷ as_) = refl

or_plain_each : (views : List View) → plain (view_of_or views).lit ≡ None
or_plain_each [] = refl
or_plain_each (v ∷ views) = refl

and_denied : (as_ : List Form) → plain (option_map denied (view_of_and (map view_of as_)).atom) ≡ None
and_denied [] = refl
and_denied (a ∷ as_) = refl

or_denied : (views : List View) → plain (option_map denied (view_of_or views).atom) ≡ None
or_denied [] = refl
or_denied (v ∷ views) = refl

atom_same : (a : Form) → plain (option_map denied (view_of a).atom) ≡ option_map denied (clausal a).atom
atom_same = form_induction _ (record {
  atom = λ p ts. rw (view_of-Atom, clausal-Atom) refl;
  eq = λ l r. rw (view_of-Eq, clausal-Eq) refl;
  not = λ a ih. rw (view_of-Not, clausal-Not) refl;
  and = λ as_ all. rw (view_of-And, clausal-And) (and_denied as_);
  or = λ as_ all. rw (view_of-Or, clausal-Or) (or_denied (map view_of as_));
  imp = λ a b ih jh. rw (view_of-Imp, clausal-Imp) refl;
  iff = λ a b ih jh. rw (view_of-Iff, clausal-Iff) refl;
  all = λ s a ih. rw (view_of-All, clausal-All) refl;
  ex = λ s a ih. rw (view_of-Ex, clausal-Ex) refl;
})

lone_listed : (o : Option Lit) (c : Clause) → option_map open_clause (option_map alone_lit o) ≡ Some c → IsIn c (lone_clauses o)
lone_listed None c e = cc
lone_listed (Some l) c e = inl cc

lone_reached : (o : Option Lit) (c : Clause) → IsIn c (lone_clauses o) → option_map open_clause (option_map alone_lit o) ≡ Some c
lone_reached None c h = absurd h
lone_reached (Some l) c (inl e) = ap Some (sym e)
lone_reached (Some l) c (inr h) = absurd h

leaf_none : (a : Form) (c : Clause) → plain (view_of a).lit ≡ None → reached Leaf a ≡ Some c → ⊥
leaf_none a c e f = clash (reached Leaf a) c (reached-Leaf a ∙ ap (λ (o : Option Lit). option_map open_clause (option_map alone_lit o)) e) f

leaf_some : (a : Form) (c : Clause) → clauses_in a ≡ lone_clauses (plain (view_of a).lit) → reached Leaf a ≡ Some c → IsIn c (clauses_in a)
leaf_some a c same e = subst (λ (cs : List Clause). IsIn c cs) (sym same) (lone_listed (plain (view_of a).lit) c (sym (reached-Leaf a) ∙ e))

some_leaf : (a : Form) (c : Clause) → clauses_in a ≡ lone_clauses (plain (view_of a).lit) → IsIn c (clauses_in a) → IsReached a c
some_leaf a c same h = (Leaf, reached-Leaf a ∙ lone_reached (plain (view_of a).lit) c (subst (λ (cs : List Clause). IsIn c cs) same h))

atom_clauses : (p : ℕ) (ts : List Term) → clauses_in (Atom p ts) ≡ lone_clauses (plain (view_of (Atom p ts)).lit)
atom_clauses p ts = ap (λ (x : Clausal). x.clauses) (clausal-Atom p ts) ∙ ap (λ (v : View). lone_clauses (plain v.lit)) (sym (view_of-Atom p ts))

eq_clauses : (l r : Term) → clauses_in (Eq l r) ≡ lone_clauses (plain (view_of (Eq l r)).lit)
eq_clauses l r = ap (λ (x : Clausal). x.clauses) (clausal-Eq l r) ∙ ap (λ (v : View). lone_clauses (plain v.lit)) (sym (view_of-Eq l r))

not_clauses : (a : Form) → clauses_in (Not a) ≡ lone_clauses (plain (view_of (Not a)).lit)
not_clauses a = ap (λ (x : Clausal). x.clauses) (clausal-Not a) ∙ ap lone_clauses (sym (atom_same a)) ∙ ap (λ (v : View). lone_clauses (plain v.lit)) (sym (view_of-Not a))

-- What a path reaches is a clause.
abbrev Listed : Form → Type 0
Listed a = (p : Path) (c : Clause) → reached p a ≡ Some c → IsIn c (clauses_in a)

and_listed : (as_ : List Form) → AllByRecursion Listed as_ → (k : ℕ) (p : Path) (c : Clause) → at_member (reached p) (slice_get as_ k) ≡ Some c → IsIn c (joined_lists (map (λ (x : Clausal). x.clauses) (map clausal as_)))
and_listed [] all k p c e = cc
and_listed (a ∷ as_) all zero p c e = in_left c (clauses_in a) (joined_lists (map (λ (x : Clausal). x.clauses) (map clausal as_))) (all.0 p c e)
and_listed (a ∷ as_) all (suc k) p c e = in_right c (clauses_in a) (joined_lists (map (λ (x : Clausal). x.clauses) (map clausal as_))) (and_listed as_ all.1 k p c e)

some_more : (o : Option Clause) (rest : Option (List Clause)) (cs : List Clause) → one_more o rest ≡ Some cs → (c : Clause) × (ds : List Clause) × (o ≡ Some c) × (rest ≡ Some ds) × (c ∷ ds ≡ cs)
some_more None rest cs e = cc
some_more (Some c) None cs e = cc
some_more (Some c) (Some ds) cs e = (c, ds, refl, refl, cc)

chosen_listed : (as_ : List Form) → AllByRecursion Listed as_ → (ps : List Path) (cs : List Clause) → each_reaches (map reached ps) as_ ≡ Some cs → IsIn cs (choices (map (λ (x : Clausal). x.clauses) (map clausal as_)))
chosen_listed [] all [] cs e = inl cc
chosen_listed [] all (p ∷ ps) cs e = cc
chosen_listed (a ∷ as_) all [] cs e = cc
chosen_listed (a ∷ as_) all (p ∷ ps) cs e =
    let parts = some_more (reached p a) (each_reaches (map reached ps) as_) cs e in
    let lists = choices (map (λ (x : Clausal). x.clauses) (map clausal as_)) in
    let rest = chosen_listed as_ all.1 ps parts.1 parts.3 in
    subst (λ (ds : List Clause). IsIn ds (flat_map (λ x. map (λ ds. x ∷ ds) lists) (clauses_in a))) parts.4
    (in_flat (λ x. map (λ ds. x ∷ ds) lists) parts.0 (parts.0 ∷ parts.1) (clauses_in a) (all.0 p parts.0 parts.2) (in_map (λ ds. parts.0 ∷ ds) parts.1 lists rest))

some_mapped : {X : Type 0} (f : X → Clause) (o : Option X) (c : Clause) → option_map f o ≡ Some c → (x : X) × (o ≡ Some x) × (f x ≡ c)
some_mapped f None c e = cc
some_mapped f (Some x) c e = (x, refl, cc)

or_listed : (as_ : List Form) → AllByRecursion Listed as_ → (ps : List Path) (c : Clause) → reached (Each ps) (Or as_) ≡ Some c → IsIn c (clauses_in (Or as_))
or_listed as_ all ps c e =
    let found = some_mapped all_beside (each_reaches (map reached ps) as_) c (sym (reached-Each ps as_) ∙ e) in
    subst (λ (cs : List Clause). IsIn c cs) (sym (listed_or as_)) (subst (λ (d : Clause). IsIn d (map all_beside (choices (map (λ (x : Clausal). x.clauses) (map clausal as_))))) found.2
    (in_map all_beside found.0 (choices (map (λ (x : Clausal). x.clauses) (map clausal as_))) (chosen_listed as_ all ps found.0 found.1)))

all_listed : (s : ℕ) (a : Form) → Listed a → (p : Path) (c : Clause) → reached (Under p) (All s a) ≡ Some c → IsIn c (clauses_in (All s a))
all_listed s a h p c e =
    let found = some_mapped (within s) (reached p a) c (sym (reached-Under p s a) ∙ e) in
    subst (λ (cs : List Clause). IsIn c cs) (sym (listed_all s a)) (subst (λ (d : Clause). IsIn d (map (within s) (clauses_in a))) found.2 (in_map (within s) found.0 (clauses_in a) (h p found.0 found.1)))

pub reached_is_listed : (a : Form) → Listed a
reached_is_listed = form_induction Listed (record {
  atom = λ p ts. of_kinds (λ w. (c : Clause) → reached w (Atom p ts) ≡ Some c → IsIn c (clauses_in (Atom p ts))) (record {
    leaf = λ c e. leaf_some (Atom p ts) c (atom_clauses p ts) e;
    pick = λ k q c e. absurd (clash (reached (Pick k q) (Atom p ts)) c (reached_pick k q (Atom p ts) ∙ ap (pick_in k (reached q)) (outs-Atom p ts)) e);
    each = λ ps c e. absurd (clash (reached (Each ps) (Atom p ts)) c (reached_each ps (Atom p ts) ∙ ap (each_in (map reached ps)) (outs-Atom p ts)) e);
    under = λ q c e. absurd (clash (reached (Under q) (Atom p ts)) c (reached_under q (Atom p ts) ∙ ap (under_in (reached q)) (outs-Atom p ts)) e);
  });
  eq = λ l r. of_kinds (λ p. (c : Clause) → reached p (Eq l r) ≡ Some c → IsIn c (clauses_in (Eq l r))) (record {
    leaf = λ c e. leaf_some (Eq l r) c (eq_clauses l r) e;
    pick = λ k q c e. absurd (clash (reached (Pick k q) (Eq l r)) c (reached_pick k q (Eq l r) ∙ ap (pick_in k (reached q)) (outs-Eq l r)) e);
    each = λ ps c e. absurd (clash (reached (Each ps) (Eq l r)) c (reached_each ps (Eq l r) ∙ ap (each_in (map reached ps)) (outs-Eq l r)) e);
    under = λ q c e. absurd (clash (reached (Under q) (Eq l r)) c (reached_under q (Eq l r) ∙ ap (under_in (reached q)) (outs-Eq l r)) e);
  });
  not = λ a ih. of_kinds (λ p. (c : Clause) → reached p (Not a) ≡ Some c → IsIn c (clauses_in (Not a))) (record {
    leaf = λ c e. leaf_some (Not a) c (not_clauses a) e;
    pick = λ k q c e. absurd (clash (reached (Pick k q) (Not a)) c (reached_pick k q (Not a) ∙ ap (pick_in k (reached q)) (outs-Not a)) e);
    each = λ ps c e. absurd (clash (reached (Each ps) (Not a)) c (reached_each ps (Not a) ∙ ap (each_in (map reached ps)) (outs-Not a)) e);
    under = λ q c e. absurd (clash (reached (Under q) (Not a)) c (reached_under q (Not a) ∙ ap (under_in (reached q)) (outs-Not a)) e);
  });
  and = λ as_ all. of_kinds (λ p. (c : Clause) → reached p (And as_) ≡ Some c → IsIn c (clauses_in (And as_))) (record {
    leaf = λ c e. absurd (leaf_none (And as_) c (rw view_of-And (and_plain as_)) e);
    pick = λ k q c e. subst (λ (cs : List Clause). IsIn c cs) (sym (listed_and as_)) (and_listed as_ all k q c (sym (reached-Pick k q as_) ∙ e));
    each = λ ps c e. absurd (clash (reached (Each ps) (And as_)) c (reached_each ps (And as_) ∙ ap (each_in (map reached ps)) (outs-And as_)) e);
    under = λ q c e. absurd (clash (reached (Under q) (And as_)) c (reached_under q (And as_) ∙ ap (under_in (reached q)) (outs-And as_)) e);
  });
  or = λ as_ all. of_kinds (λ p. (c : Clause) → reached p (Or as_) ≡ Some c → IsIn c (clauses_in (Or as_))) (record {
    leaf = λ c e. absurd (leaf_none (Or as_) c (rw view_of-Or (or_plain_each (map view_of as_))) e);
    pick = λ k q c e. absurd (clash (reached (Pick k q) (Or as_)) c (reached_pick k q (Or as_) ∙ ap (pick_in k (reached q)) (outs-Or as_)) e);
    each = λ ps c e. or_listed as_ all ps c e;
    under = λ q c e. absurd (clash (reached (Under q) (Or as_)) c (reached_under q (Or as_) ∙ ap (under_in (reached q)) (outs-Or as_)) e);
  });
  imp = λ a b ih jh. of_kinds (λ p. (c : Clause) → reached p (Imp a b) ≡ Some c → IsIn c (clauses_in (Imp a b))) (record {
    leaf = λ c e. absurd (leaf_none (Imp a b) c (rw view_of-Imp refl) e);
    pick = λ k q c e. absurd (clash (reached (Pick k q) (Imp a b)) c (reached_pick k q (Imp a b) ∙ ap (pick_in k (reached q)) (outs-Imp a b)) e);
    each = λ ps c e. absurd (clash (reached (Each ps) (Imp a b)) c (reached_each ps (Imp a b) ∙ ap (each_in (map reached ps)) (outs-Imp a b)) e);
    under = λ q c e. absurd (clash (reached (Under q) (Imp a b)) c (reached_under q (Imp a b) ∙ ap (under_in (reached q)) (outs-Imp a b)) e);
  });
  iff = λ a b ih jh. of_kinds (λ p. (c : Clause) → reached p (Iff a b) ≡ Some c → IsIn c (clauses_in (Iff a b))) (record {
    leaf = λ c e. absurd (leaf_none (Iff a b) c (rw view_of-Iff refl) e);
    pick = λ k q c e. absurd (clash (reached (Pick k q) (Iff a b)) c (reached_pick k q (Iff a b) ∙ ap (pick_in k (reached q)) (outs-Iff a b)) e);
    each = λ ps c e. absurd (clash (reached (Each ps) (Iff a b)) c (reached_each ps (Iff a b) ∙ ap (each_in (map reached ps)) (outs-Iff a b)) e);
    under = λ q c e. absurd (clash (reached (Under q) (Iff a b)) c (reached_under q (Iff a b) ∙ ap (under_in (reached q)) (outs-Iff a b)) e);
  });
  all = λ s a ih. of_kinds (λ p. (c : Clause) → reached p (All s a) ≡ Some c → IsIn c (clauses_in (All s a))) (record {
    leaf = λ c e. absurd (leaf_none (All s a) c (rw view_of-All refl) e);
    pick = λ k q c e. absurd (clash (reached (Pick k q) (All s a)) c (reached_pick k q (All s a) ∙ ap (pick_in k (reached q)) (outs-All s a)) e);
    each = λ ps c e. absurd (clash (reached (Each ps) (All s a)) c (reached_each ps (All s a) ∙ ap (each_in (map reached ps)) (outs-All s a)) e);
    under = λ q c e. all_listed s a ih q c e;
  });
  ex = λ s a ih. of_kinds (λ p. (c : Clause) → reached p (Ex s a) ≡ Some c → IsIn c (clauses_in (Ex s a))) (record {
    leaf = λ c e. absurd (leaf_none (Ex s a) c (rw view_of-Ex refl) e);
    pick = λ k q c e. absurd (clash (reached (Pick k q) (Ex s a)) c (reached_pick k q (Ex s a) ∙ ap (pick_in k (reached q)) (outs-Ex s a)) e);
    each = λ ps c e. absurd (clash (reached (Each ps) (Ex s a)) c (reached_each ps (Ex s a) ∙ ap (each_in (map reached ps)) (outs-Ex s a)) e);
    under = λ q c e. absurd (clash (reached (Under q) (Ex s a)) c (reached_under q (Ex s a) ∙ ap (under_in (reached q)) (outs-Ex s a)) e);
  });
})

-- A clause is what some path reaches.
abbrev Reaching : Form → Type 0
Reaching a = (c : Clause) → IsIn c (clauses_in a) → IsReached a c

and_reaching : (as_ : List Form) → AllByRecursion Reaching as_ → (c : Clause) → IsIn c (joined_lists (map (λ (x : Clausal). x.clauses) (map clausal as_))) → (k : ℕ) × (p : Path) × (at_member (reached p) (slice_get as_ k) ≡ Some c)
and_reaching [] all c h = absurd h
and_reaching (a ∷ as_) all c h = elim (in_both c (clauses_in a) (joined_lists (map (λ (x : Clausal). x.clauses) (map clausal as_))) h) [
  | inl g ↦ let own = all.0 c g in (0, own.0, own.1)
  | inr g ↦ let found = and_reaching as_ all.1 c g in (suc found.0, found.1, found.2)
]

both_more : (o : Option Clause) (rest : Option (List Clause)) (c : Clause) (ds cs : List Clause) → o ≡ Some c → rest ≡ Some ds → cs ≡ c ∷ ds → one_more o rest ≡ Some cs
both_more o rest c ds cs e f g = rw (e, f, g) refl

chosen_reaching : (as_ : List Form) → AllByRecursion Reaching as_ → (cs : List Clause) → IsIn cs (choices (map (λ (x : Clausal). x.clauses) (map clausal as_))) → (ps : List Path) × (each_reaches (map reached ps) as_ ≡ Some cs)
chosen_reaching [] all cs (inl e) = ([], ap Some (sym e))
chosen_reaching [] all cs (inr h) = absurd h
chosen_reaching (a ∷ as_) all cs h =
    let lists = choices (map (λ (x : Clausal). x.clauses) (map clausal as_)) in
    let first = of_flat (λ x. map (λ ds. x ∷ ds) lists) cs (clauses_in a) h in
    let rest = of_map (λ ds. first.0 ∷ ds) cs lists first.2 in
    let own = all.0 first.0 first.1 in
    let others = chosen_reaching as_ all.1 rest.0 rest.1 in
    (own.0 ∷ others.0, both_more (reached own.0 a) (each_reaches (map reached others.0) as_) first.0 rest.0 cs own.1 others.1 rest.2)

or_reaching : (as_ : List Form) → AllByRecursion Reaching as_ → Reaching (Or as_)
or_reaching as_ all c h =
    let found = of_map all_beside c (choices (map (λ (x : Clausal). x.clauses) (map clausal as_))) (subst (λ (cs : List Clause). IsIn c cs) (listed_or as_) h) in
    let ways = chosen_reaching as_ all found.0 found.1 in
    (Each ways.0, reached-Each ways.0 as_ ∙ ap (option_map all_beside) ways.1 ∙ ap Some (sym found.2))

pub listed_is_reached : (a : Form) → Reaching a
listed_is_reached = form_induction Reaching (record {
  atom = λ p ts c h. some_leaf (Atom p ts) c (atom_clauses p ts) h;
  eq = λ l r c h. some_leaf (Eq l r) c (eq_clauses l r) h;
  not = λ a ih c h. some_leaf (Not a) c (not_clauses a) h;
  and = λ as_ all c h. let found = and_reaching as_ all c (subst (λ (cs : List Clause). IsIn c cs) (listed_and as_) h) in (Pick found.0 found.1, reached-Pick found.0 found.1 as_ ∙ found.2);
  or = or_reaching;
  imp = λ a b ih jh c h. absurd (subst (λ (cs : List Clause). IsIn c cs) (ap (λ (x : Clausal). x.clauses) (clausal-Imp a b)) h);
  iff = λ a b ih jh c h. absurd (subst (λ (cs : List Clause). IsIn c cs) (ap (λ (x : Clausal). x.clauses) (clausal-Iff a b)) h);
  all = λ s a ih c h.
      let found = of_map (within s) c (clauses_in a) (subst (λ (cs : List Clause). IsIn c cs) (listed_all s a) h) in
      let way = ih found.0 found.1 in
      (Under way.0, reached-Under way.0 s a ∙ ap (option_map (within s)) way.1 ∙ ap Some (sym found.2));
  ex = λ s a ih c h. absurd (subst (λ (cs : List Clause). IsIn c cs) (ap (λ (x : Clausal). x.clauses) (clausal-Ex s a)) h);
})
