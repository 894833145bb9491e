-- How a formula has the clause that it is.
use Rattle.std.specs.Prelude.{ℕ, ◌≡◌, Bool, true, false, List, [], ◌∷◌, length, map, Option, Some, None, refl}
use Rattle.std.specs.Option.{option_map}
use Rattle.std.proofs.Common.{ap, sym, subst, ◌∙◌}
use Rattle.fof_terms.specs.declared.form.Form.{Form, Atom, Eq, Not, And, Or, Imp, Iff, All, Ex}
use Rattle.fof_terms.proofs.Induction.{form_induction}
use Rattle.clause_form.specs.declared.clause.AtomOf.{AtomOf}
use Rattle.clause_form.specs.declared.clause.AtomOf.TheVariants.{Pred, Eq as Equation, True, False}
use Rattle.clause_form.specs.declared.clause.Lit.{Lit}
use Rattle.clause_form.specs.declared.clause.Clause.{Clause}
use Rattle.clause_form.specs.ClauseView.{View, view_of, view_of_or, view_of_and, view_of_lit, clause_of, all_there, stated, denied, alone_lit, open_clause, within, closed_by, form_of_atom, form_of_lit}
use Rattle.clause_form.proofs.ClauseViewFacts.{view_of-Atom, view_of-Eq, view_of-Not, view_of-And, view_of-Or, view_of-Imp, view_of-Iff, view_of-All, view_of-Ex}
use Rattle.clause_proofs.specs.Bodies.{body_of, HasClause}

back_by : {X : Type 0} (f : X → Form) (x b : X) → Some x ≡ Some b → f x ≡ f b
back_by f x b e = let same : x ≡ b = cc in ap f same

never : {X Y : Type 0} (b : X) → None ≡ Some b → Y
never b e = cc

and_atom : (as_ : List Form) (b : AtomOf) → (view_of_and (map view_of as_)).atom ≡ Some b → And as_ ≡ form_of_atom b
and_atom [] b e = back_by form_of_atom True b e
and_atom (a ∷ as_) b e = never b e

or_atom : (as_ : List Form) (b : AtomOf) → (view_of_or (map view_of as_)).atom ≡ Some b → Or as_ ≡ form_of_atom b
or_atom [] b e = back_by form_of_atom False b e
or_atom (a ∷ as_) b e = never b e

-- the formula is its atom
atom_back : (a : Form) (b : AtomOf) → (view_of a).atom ≡ Some b → a ≡ form_of_atom b
atom_back = form_induction (λ a. (b : AtomOf) → (view_of a).atom ≡ Some b → a ≡ form_of_atom b) (record {
  atom = λ p ts b e. back_by form_of_atom (Pred p ts) b (rw view_of-Atom at e);
  eq = λ l r b e. back_by form_of_atom (Equation l r) b (rw view_of-Eq at e);
  not = λ a ih b e. never b (rw view_of-Not at e);
  and = λ as_ all b e. and_atom as_ b (rw view_of-And at e);
  or = λ as_ all b e. or_atom as_ b (rw view_of-Or at e);
  imp = λ a c ih jh b e. never b (rw view_of-Imp at e);
  iff = λ a c ih jh b e. never b (rw view_of-Iff at e);
  all = λ s a ih b e. never b (rw view_of-All at e);
  ex = λ s a ih b e. never b (rw view_of-Ex at e);
})

and_lit : (as_ : List Form) (l : Lit) → (view_of_and (map view_of as_)).lit ≡ Some l → And as_ ≡ form_of_lit l
and_lit [] l e = back_by form_of_lit (stated True) l e
and_lit (a ∷ as_) l e = never l e

or_lit : (as_ : List Form) (l : Lit) → (view_of_or (map view_of as_)).lit ≡ Some l → Or as_ ≡ form_of_lit l
or_lit [] l e = back_by form_of_lit (stated False) l e
or_lit (a ∷ as_) l e = never l e

denied_lit : (a : Form) (o : Option AtomOf) (l : Lit) → ((b : AtomOf) → o ≡ Some b → a ≡ form_of_atom b) → option_map denied o ≡ Some l → Not a ≡ form_of_lit l
denied_lit a None l h e = never l e
denied_lit a (Some b) l h e = ap Not (h b refl) ∙ back_by form_of_lit (denied b) l e

-- the formula is its literal
lit_back : (a : Form) (l : Lit) → (view_of a).lit ≡ Some l → a ≡ form_of_lit l
lit_back = form_induction (λ a. (l : Lit) → (view_of a).lit ≡ Some l → a ≡ form_of_lit l) (record {
  atom = λ p ts l e. back_by form_of_lit (stated (Pred p ts)) l (rw view_of-Atom at e);
  eq = λ x y l e. back_by form_of_lit (stated (Equation x y)) l (rw view_of-Eq at e);
  not = λ a ih l e. denied_lit a (view_of a).atom l (atom_back a) (rw view_of-Not at e);
  and = λ as_ all l e. and_lit as_ l (rw view_of-And at e);
  or = λ as_ all l e. or_lit as_ l (rw view_of-Or at e);
  imp = λ a c ih jh l e. never l (rw view_of-Imp at e);
  iff = λ a c ih jh l e. never l (rw view_of-Iff at e);
  all = λ s a ih l e. never l (rw view_of-All at e);
  ex = λ s a ih l e. never l (rw view_of-Ex at e);
})

abbrev next : Option Lit → Option (List Lit) → Option (List Lit)
next None ls = None
next (Some l) ls = option_map (λ ys. l ∷ ys) ls

there_is : (l : Option Lit) (rest : List (Option Lit)) → all_there (l ∷ rest) ≡ next l (all_there rest)
there_is None rest = refl
there_is (Some l) rest = refl

next_back : (a : Form) (as_ : List Form) (o : Option Lit) (rest : Option (List Lit)) (lits : List Lit) → ((l : Lit) → o ≡ Some l → a ≡ form_of_lit l) → ((ls : List Lit) → rest ≡ Some ls → as_ ≡ map form_of_lit ls)
    → next o rest ≡ Some lits → a ∷ as_ ≡ map form_of_lit lits
next_back a as_ None rest lits h g e = never lits e
next_back a as_ (Some l) None lits h g e = never lits e
next_back a as_ (Some l) (Some ls) lits h g e =
    let same : l ∷ ls ≡ lits = cc in
    subst (λ (ks : List Lit). a ∷ as_ ≡ map form_of_lit ks) same (rw (h l refl, g ls refl) refl)

lits_back : (as_ : List Form) (lits : List Lit) → all_there (map (λ (u : View). u.lit) (map view_of as_)) ≡ Some lits → as_ ≡ map form_of_lit lits
lits_back [] lits e = let same : [] ≡ lits = cc in subst (λ (ks : List Lit). [] ≡ map form_of_lit ks) same refl
lits_back (a ∷ as_) lits e =
    next_back a as_ (view_of a).lit (all_there (map (λ (u : View). u.lit) (map view_of as_))) lits (lit_back a) (lits_back as_) (sym (there_is (view_of a).lit (map (λ (u : View). u.lit) (map view_of as_))) ∙ e)

-- under a quantifier
within_has : (s : ℕ) (b : Form) (o : Option Clause) (r : Bool) (c : Clause) → ((d : Clause) → o ≡ Some d → HasClause b d r) → option_map (within s) o ≡ Some c → HasClause (All s b) c r
within_has s b None r c h e = never c e
within_has s b (Some d) r c h e =
    let same : within s d ≡ c = cc in
    let inner = h d refl in
    subst (λ (x : Clause). HasClause (All s b) x r) same (record { is = ap (All s) inner.is; alone = inner.alone })

pub all_has : (s : ℕ) (b : Form) (r : Bool) → ((d : Clause) → (view_of b).clause ≡ Some d → HasClause b d r) → (c : Clause) → (view_of (All s b)).clause ≡ Some c → HasClause (All s b) c r
all_has s b r h c e = within_has s b (view_of b).clause r c h (rw view_of-All at e)

-- a disjunction
lits_have : (as_ : List Form) (o : Option (List Lit)) (c : Clause) → ((ls : List Lit) → o ≡ Some ls → as_ ≡ map form_of_lit ls) → option_map open_clause o ≡ Some c → HasClause (Or as_) c true
lits_have as_ None c h e = never c e
lits_have as_ (Some ls) c h e =
    let same : open_clause ls ≡ c = cc in
    subst (λ (x : Clause). HasClause (Or as_) x true) same (record { is = ap Or (h ls refl); alone = λ no. cc })

or_view : (as_ : List Form) → (view_of_or (map view_of as_)).clause ≡ option_map open_clause (all_there (map (λ (u : View). u.lit) (map view_of as_)))
or_view [] = refl
or_view (a ∷ as_) = refl

pub or_has : (as_ : List Form) (c : Clause) → (view_of (Or as_)).clause ≡ Some c → HasClause (Or as_) c true
or_has as_ c e = lits_have as_ (all_there (map (λ (u : View). u.lit) (map view_of as_))) c (lits_back as_) (sym (or_view as_) ∙ (rw view_of-Or at e))

-- one literal
lone_has : (a : Form) (o : Option Lit) (c : Clause) → ((l : Lit) → o ≡ Some l → a ≡ form_of_lit l) → option_map open_clause (option_map alone_lit o) ≡ Some c → HasClause a c false
lone_has a None c h e = never c e
lone_has a (Some l) c h e =
    let same : open_clause (alone_lit l) ≡ c = cc in
    subst (λ (x : Clause). HasClause a x false) same (record { is = h l refl; alone = λ no. refl })

and_has : (as_ : List Form) (c : Clause) → (view_of_and (map view_of as_)).clause ≡ Some c → HasClause (And as_) c false
and_has [] c e = lone_has (And []) (Some (stated True)) c (λ l f. back_by form_of_lit (stated True) l f) e
and_has (a ∷ as_) c e = never c e

abbrev IsAll : Form → Type 0
IsAll a = (s : ℕ) × (b : Form) × (a ≡ All s b)

abbrev IsOr : Form → Type 0
IsOr a = (as_ : List Form) × (a ≡ Or as_)

pub other_has : (a : Form) → (IsAll a → ⊥) → (IsOr a → ⊥) → (c : Clause) → (view_of a).clause ≡ Some c → HasClause a c false
other_has = form_induction (λ a. (IsAll a → ⊥) → (IsOr a → ⊥) → (c : Clause) → (view_of a).clause ≡ Some c → HasClause a c false) (record {
  atom = λ p ts no none c e. lone_has (Atom p ts) (Some (stated (Pred p ts))) c (λ l f. back_by form_of_lit (stated (Pred p ts)) l f) (rw view_of-Atom at e);
  eq = λ x y no none c e. lone_has (Eq x y) (Some (stated (Equation x y))) c (λ l f. back_by form_of_lit (stated (Equation x y)) l f) (rw view_of-Eq at e);
  not = λ a ih no none c e. lone_has (Not a) (option_map denied (view_of a).atom) c (λ l f. denied_lit a (view_of a).atom l (atom_back a) f) (rw view_of-Not at e);
  and = λ as_ all no none c e. and_has as_ c (rw view_of-And at e);
  or = λ as_ all no none c e. absurd (none (as_, refl));
  imp = λ a b ih jh no none c e. never c (rw view_of-Imp at e);
  iff = λ a b ih jh no none c e. never c (rw view_of-Iff at e);
  all = λ s a ih no none c e. absurd (no (s, a, refl));
  ex = λ s a ih no none c e. never c (rw view_of-Ex at e);
})

-- as code meets them
pub all_has_at : (a : Form) (s : ℕ) (b inner : Form) (r : Bool) → a ≡ All s inner → b ≡ inner → ((d : Clause) → (view_of b).clause ≡ Some d → HasClause b d r) → (c : Clause) → (view_of a).clause ≡ Some c → HasClause a c r
all_has_at a s b inner r is same h c e =
    let whole : a ≡ All s b = is ∙ ap (All s) (sym same) in
    subst (λ (x : Form). HasClause x c r) (sym whole) (all_has s b r h c (subst (λ (x : Form). (view_of x).clause ≡ Some c) whole e))

pub or_has_at : (a : Form) (as_ : List Form) → a ≡ Or as_ → (c : Clause) → (view_of a).clause ≡ Some c → HasClause a c true
or_has_at a as_ is c e = subst (λ (x : Form). HasClause x c true) (sym is) (or_has as_ c (subst (λ (x : Form). (view_of x).clause ≡ Some c) is e))
