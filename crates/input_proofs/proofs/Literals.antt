-- What the literals of a formula's clauses have of the formula.
use Rattle.std.specs.Prelude.{ℕ, ◌≡◌, true, List, [], ◌∷◌, ◌++◌, map, flat_map, Option, Some, None, refl}
use Rattle.std.specs.Option.{option_map}
use Rattle.std.specs.List.{AllByRecursion as Each}
use Rattle.std.proofs.Common.{ap, sym, subst, ◌∙◌}
use Rattle.fof_terms.specs.Lift.{lifted_term}
use Rattle.fof_terms.specs.declared.term.Term.{Term}
use Rattle.fof_terms.specs.declared.form.Form.{Form, Atom, Eq, Not, And, Or, Imp, Iff, All, Ex}
use Rattle.fof_terms.proofs.Induction.{form_induction}
use Rattle.clause_form.specs.declared.clause.AtomOf.{AtomOf}
use Rattle.clause_form.specs.declared.clause.AtomOf.TheVariants.{Pred, Eq as Equation, True, False}
use Rattle.clause_form.specs.declared.clause.Lit.{Lit}
use Rattle.clause_form.specs.declared.clause.Clause.{Clause}
use Rattle.clause_form.specs.ClauseView.{stated, denied, within, form_of_atom}
use Rattle.clause_form.specs.Clauses.{Clausal, choices, joined_lists, lone_clauses, clausal, clauses_in}
use Rattle.clause_form.specs.Covers.{at_terms, in_lit}
use Rattle.clause_form.specs.Paths.{is_plain, all_beside}
use Rattle.clause_form.proofs.ClausesFacts.{clausal-Atom, clausal-Eq, clausal-Not, clausal-And, clausal-Or, clausal-Imp, clausal-Iff, clausal-All, clausal-Ex}

pub each_append : {X : Type 0} (P : X → Type 0) (xs ys : List X) → Each P xs → Each P ys → Each P (xs ++ ys)
each_append P [] ys h g = g
each_append P (x ∷ xs) ys h g = (h.0, each_append P xs ys h.1 g)

each_map : {X Y : Type 0} (P : Y → Type 0) (f : X → Y) (xs : List X) → Each (λ x. P (f x)) xs → Each P (map f xs)
each_map P f [] h = tt
each_map P f (x ∷ xs) h = (h.0, each_map P f xs h.1)

pub each_weaker : {X : Type 0} (P Q : X → Type 0) (xs : List X) → ((x : X) → P x → Q x) → Each P xs → Each Q xs
each_weaker P Q [] f h = tt
each_weaker P Q (x ∷ xs) f h = (f x h.0, each_weaker P Q xs f h.1)

-- The atom that a formula is.
pub record Stands (a : Form) (x : AtomOf) : Type 0 where
  pub back : form_of_atom x ≡ a
  pub plain : is_plain x ≡ true

abbrev AtomIs : Form → Type 0
AtomIs a = (x : AtomOf) → (clausal a).atom ≡ Some x → Stands a x

no_atom : (a : Form) (c : Clausal) → clausal a ≡ c → c.atom ≡ None → AtomIs a
no_atom a c e n x at = let none : None ≡ Some x = sym n ∙ ap (λ (y : Clausal). y.atom) (sym e) ∙ at in cc

pub atom_is : (a : Form) → AtomIs a
atom_is = form_induction AtomIs (record {
  atom = λ p ts x at. let same : Some (Pred p ts) ≡ Some x = ap (λ (y : Clausal). y.atom) (sym (clausal-Atom p ts)) ∙ at in let is : Pred p ts ≡ x = cc in subst (Stands (Atom p ts)) is (record { back = refl; plain = refl });
  eq = λ l r x at. let same : Some (Equation l r) ≡ Some x = ap (λ (y : Clausal). y.atom) (sym (clausal-Eq l r)) ∙ at in let is : Equation l r ≡ x = cc in subst (Stands (Eq l r)) is (record { back = refl; plain = refl });
  not = λ a ih. no_atom (Not a) _ (clausal-Not a) refl;
  and = λ as_ all. no_atom (And as_) _ (clausal-And as_) refl;
  or = λ as_ all. no_atom (Or as_) _ (clausal-Or as_) refl;
  imp = λ a b ih jh. no_atom (Imp a b) _ (clausal-Imp a b) refl;
  iff = λ a b ih jh. no_atom (Iff a b) _ (clausal-Iff a b) refl;
  all = λ s a ih. no_atom (All s a) _ (clausal-All s a) refl;
  ex = λ s a ih. no_atom (Ex s a) _ (clausal-Ex s a) refl;
})

-- a property of literals that those of a formula get from the formula
pub record IsInherited (H : Form → Type 0) (P : Lit → Type 0) : Type 0 where
  pub atom : (p : ℕ) (ts : List Term) → H (Atom p ts) → P (stated (Pred p ts))
  pub eq : (l r : Term) → H (Eq l r) → P (stated (Equation l r))
  pub denial : (a : Form) (x : AtomOf) → Stands a x → H (Not a) → P (denied x)
  pub conjunction : (as_ : List Form) → H (And as_) → Each H as_
  pub disjunction : (as_ : List Form) → H (Or as_) → Each H as_
  pub quantified : (s : ℕ) (a : Form) → H (All s a) → H a
  pub lifted : (by n : ℕ) (l : Lit) → P l → P (in_lit (lifted_term by n) l)

module _ (H : Form → Type 0) (P : Lit → Type 0) (inherits : IsInherited H P) where
  abbrev Has : Clause → Type 0
  Has c = Each P c.lits

  abbrev AllHave : Form → Type 0
  AllHave a = H a → Each Has (clauses_in a)

  of_lone : (o : Option Lit) → ((l : Lit) → o ≡ Some l → P l) → Each Has (lone_clauses o)
  of_lone None h = tt
  of_lone (Some l) h = ((h l refl, tt), tt)

  of_denied : (a : Form) (o : Option AtomOf) → ((x : AtomOf) → o ≡ Some x → Stands a x) → H (Not a) → Each Has (lone_clauses (option_map denied o))
  of_denied a None is h = tt
  of_denied a (Some x) is h = ((inherits.denial a x (is x refl) h, tt), tt)

  abbrev lists_of : List Form → List (List Clause)
  lists_of as_ = map (λ (x : Clausal). x.clauses) (map clausal as_)

  all_joined : (as_ : List Form) → Each AllHave as_ → Each H as_ → Each Has (joined_lists (lists_of as_))
  all_joined [] all h = tt
  all_joined (a ∷ as_) all h = each_append Has (clauses_in a) (joined_lists (lists_of as_)) (all.0 h.0) (all_joined as_ all.1 h.1)

  each_in_front : (c : Clause) (css : List (List Clause)) → Has c → Each (Each Has) css → Each (Each Has) (map (λ rest. c ∷ rest) css)
  each_in_front c [] h g = tt
  each_in_front c (cs ∷ css) h g = ((h, g.0), each_in_front c css h g.1)

  all_in_front : (xs : List Clause) (css : List (List Clause)) → Each Has xs → Each (Each Has) css → Each (Each Has) (flat_map (λ x. map (λ rest. x ∷ rest) css) xs)
  all_in_front [] css h g = tt
  all_in_front (x ∷ xs) css h g = each_append (Each Has) (map (λ rest. x ∷ rest) css) (flat_map (λ y. map (λ rest. y ∷ rest) css) xs) (each_in_front x css h.0 g) (all_in_front xs css h.1 g)

  all_chosen : (as_ : List Form) → Each AllHave as_ → Each H as_ → Each (Each Has) (choices (lists_of as_))
  all_chosen [] all h = (tt, tt)
  all_chosen (a ∷ as_) all h = all_in_front (clauses_in a) (choices (lists_of as_)) (all.0 h.0) (all_chosen as_ all.1 h.1)

  lits_lifted : (by n : ℕ) (lits : List Lit) → Each P lits → Each P (map (in_lit (lifted_term by n)) lits)
  lits_lifted by n [] h = tt
  lits_lifted by n (l ∷ lits) h = (inherits.lifted by n l h.0, lits_lifted by n lits h.1)

  beside_has : (cs : List Clause) → Each Has cs → Has (all_beside cs)
  beside_has [] h = tt
  beside_has (c ∷ cs) h = each_append P _ _ (lits_lifted _ _ c.lits h.0) (lits_lifted _ _ (all_beside cs).lits (beside_has cs h.1))

  all_beside_have : (css : List (List Clause)) → Each (Each Has) css → Each Has (map all_beside css)
  all_beside_have [] h = tt
  all_beside_have (cs ∷ css) h = (beside_has cs h.0, all_beside_have css h.1)

  all_within : (s : ℕ) (cs : List Clause) → Each Has cs → Each Has (map (within s) cs)
  all_within s [] h = tt
  all_within s (c ∷ cs) h = (h.0, all_within s cs h.1)

  made_of : (a : Form) (c : Clausal) → clausal a ≡ c → Each Has c.clauses → Each Has (clauses_in a)
  made_of a c e h = subst (Each Has) (ap (λ (x : Clausal). x.clauses) (sym e)) h

  pub all_have : (a : Form) → AllHave a
  all_have = form_induction AllHave (record {
    atom = λ p ts h. made_of (Atom p ts) _ (clausal-Atom p ts) ((inherits.atom p ts h, tt), tt);
    eq = λ l r h. made_of (Eq l r) _ (clausal-Eq l r) ((inherits.eq l r h, tt), tt);
    not = λ a ih h. made_of (Not a) _ (clausal-Not a) (of_denied a (clausal a).atom (atom_is a) h);
    and = λ as_ all h. made_of (And as_) _ (clausal-And as_) (all_joined as_ all (inherits.conjunction as_ h));
    or = λ as_ all h. made_of (Or as_) _ (clausal-Or as_) (all_beside_have (choices (lists_of as_)) (all_chosen as_ all (inherits.disjunction as_ h)));
    imp = λ a b ih jh h. made_of (Imp a b) _ (clausal-Imp a b) tt;
    iff = λ a b ih jh h. made_of (Iff a b) _ (clausal-Iff a b) tt;
    all = λ s a ih h. made_of (All s a) _ (clausal-All s a) (all_within s (clauses_in a) (ih (inherits.quantified s a h)));
    ex = λ s a ih h. made_of (Ex s a) _ (clausal-Ex s a) tt;
  })

-- The atoms of the literals are neither truth nor falsehood.
abbrev pub IsPlain : Lit → Type 0
IsPlain l = is_plain l.atom ≡ true

plain_lifted : (f : Term → Term) (l : Lit) → IsPlain l → IsPlain (in_lit f l)
plain_lifted f l h = stays l.atom h where
  stays : (x : AtomOf) → is_plain x ≡ true → is_plain (at_terms f x) ≡ true
  stays (Pred p ts) e = refl
  stays (Equation l r) e = refl
  stays True e = cc
  stays False e = cc

pub all_plain : (a : Form) → Each (λ (c : Clause). Each IsPlain c.lits) (clauses_in a)
all_plain a = all_have (λ b. Unit {0}) IsPlain (record {
  atom = λ p ts h. refl;
  eq = λ l r h. refl;
  denial = λ b x is h. is.plain;
  conjunction = λ as_ h. units as_;
  disjunction = λ as_ h. units as_;
  quantified = λ s b h. tt;
  lifted = λ by n l h. plain_lifted (lifted_term by n) l h;
}) a tt where
  units : (as_ : List Form) → Each (λ (b : Form). Unit {0}) as_
  units [] = tt
  units (b ∷ as_) = (tt, units as_)
