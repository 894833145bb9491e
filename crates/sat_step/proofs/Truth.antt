-- A propositional normal form is true exactly where its clauses are.
use Rattle.std.specs.Prelude.{◌&&◌, ◌||◌, flat_map}
use Rattle.std.proofs.Common.{◌≡◌, ℕ, Bool, true, false, not, List, [], ◌∷◌, ◌++◌, length, map, Option, Some, refl, sym, ap, ◌∙◌, subst}
use Rattle.std.specs.List.{AllByRecursion, list_all, list_any}
use Rattle.std.specs.Option.{option_map}
use Rattle.std.proofs.lemmas.Bool.{false≢true}
use Rattle.std.proofs.lemmas.List.{map-append}
use Rattle.std.proofs.lemmas.List.Folds.{list_all-append, list_any-append}
use Rattle.fof_terms.specs.Lift.{lifted_term}
use Rattle.fof_terms.specs.declared.term.Term.{Term}
use Rattle.fof_terms.specs.declared.form.Form.{Form, Atom, Eq, Not, And, Or, Imp, Iff, All, Ex}
use Rattle.fof_terms.proofs.Trees.{fold-Atom, fold-Eq, fold-Not, fold-And, fold-Or, fold-All, fold-Ex}
use Rattle.fof_terms.proofs.Induction.{form_induction}
use Rattle.fof_terms.proofs.LiftingLaws.{both}
use Rattle.clause_form.specs.declared.clause.AtomOf.{AtomOf}
use Rattle.clause_form.specs.declared.clause.AtomOf.TheVariants.{Pred}
use Rattle.clause_form.specs.declared.clause.Lit.{Lit}
use Rattle.clause_form.specs.declared.clause.Clause.{Clause}
use Rattle.clause_form.specs.ClauseView.{stated, denied, open_clause}
use Rattle.clause_form.specs.Covers.{in_lit}
use Rattle.clause_form.specs.Paths.{beside, all_beside}
use Rattle.clause_form.specs.Clauses.{Clausal, clausal, clauses_in, choices, joined_lists, lone_clauses}
use Rattle.clause_form.specs.Norm.{norm_of}
use Rattle.clause_form.proofs.BesideFacts.{lift_nothing}
use Rattle.clause_form.proofs.ClauseLaws.{lits_themselves}
use Rattle.clause_form.proofs.ClausesFacts.{clausal-Atom, clausal-Not, clausal-And, clausal-Or}
use Rattle.clause_form.proofs.NormShape.{Shape, shape, shape-Not, shape-And, shape-Or, shape-Imp, shape-Iff, IsNormal, all_normal, and_normal, or_normal, norm_is_normal}
use Rattle.sat_step.specs.Propositional.{Valuation, propositional_step, is_propositional, truth_step, is_true, lit_is_true, clause_is_true}

-- ---- the equations of these words

propositional-Eq : (l r : Term) → is_propositional (Eq l r) ≡ false
unfolding is_propositional
propositional-Eq l r = fold-Eq Bool propositional_step l r

propositional-Not : (a : Form) → is_propositional (Not a) ≡ is_propositional a
unfolding is_propositional
propositional-Not a = fold-Not Bool propositional_step a

propositional-And : (as_ : List Form) → is_propositional (And as_) ≡ list_all (λ b. b) (map is_propositional as_)
unfolding is_propositional
propositional-And as_ = fold-And Bool propositional_step as_

propositional-Or : (as_ : List Form) → is_propositional (Or as_) ≡ list_all (λ b. b) (map is_propositional as_)
unfolding is_propositional
propositional-Or as_ = fold-Or Bool propositional_step as_

propositional-All : (s : ℕ) (a : Form) → is_propositional (All s a) ≡ false
unfolding is_propositional
propositional-All s a = fold-All Bool propositional_step s a

propositional-Ex : (s : ℕ) (a : Form) → is_propositional (Ex s a) ≡ false
unfolding is_propositional
propositional-Ex s a = fold-Ex Bool propositional_step s a

true-Atom : (v : Valuation) (p : ℕ) (ts : List Term) → is_true v (Atom p ts) ≡ v (Pred p ts)
unfolding is_true
true-Atom v p ts = fold-Atom Bool (truth_step v) p ts

true-Not : (v : Valuation) (a : Form) → is_true v (Not a) ≡ not (is_true v a)
unfolding is_true
true-Not v a = fold-Not Bool (truth_step v) a

true-And : (v : Valuation) (as_ : List Form) → is_true v (And as_) ≡ list_all (λ b. b) (map (is_true v) as_)
unfolding is_true
true-And v as_ = fold-And Bool (truth_step v) as_

true-Or : (v : Valuation) (as_ : List Form) → is_true v (Or as_) ≡ list_any (λ b. b) (map (is_true v) as_)
unfolding is_true
true-Or v as_ = fold-Or Bool (truth_step v) as_

-- ---- clauses without variables

abbrev IsOpen : Clause → Type 0
IsOpen c = c.sorts ≡ []

abbrev AreOpen : List Clause → Type 0
AreOpen clauses = AllByRecursion IsOpen clauses

all_append : {X : Type 0} (P : X → Type 0) (xs ys : List X) → AllByRecursion P xs → AllByRecursion P ys → AllByRecursion P (xs ++ ys)
all_append P [] ys h k = k
all_append P (x ∷ xs) ys h k = (h.0, all_append P xs ys h.1 k)

each_with : (x : Clause) (rests : List (List Clause)) → IsOpen x → AllByRecursion AreOpen rests → AllByRecursion AreOpen (map (λ rest. x ∷ rest) rests)
each_with x [] h all = tt
each_with x (rest ∷ rests) h all = ((h, all.0), each_with x rests h all.1)

open_with : (xs : List Clause) (rests : List (List Clause)) → AreOpen xs → AllByRecursion AreOpen rests → AllByRecursion AreOpen (flat_map (λ x. map (λ rest. x ∷ rest) rests) xs)
open_with [] rests h all = tt
open_with (x ∷ xs) rests h all =
    all_append AreOpen (map (λ rest. x ∷ rest) rests) (flat_map (λ z. map (λ rest. z ∷ rest) rests) xs) (each_with x rests h.0 all) (open_with xs rests h.1 all)

open_choices : (lists : List (List Clause)) → AllByRecursion AreOpen lists → AllByRecursion AreOpen (choices lists)
open_choices [] h = (tt, tt)
open_choices (xs ∷ lists) h = open_with xs (choices lists) h.0 (open_choices lists h.1)

open_beside : (clauses : List Clause) → AreOpen clauses → IsOpen (all_beside clauses)
open_beside [] h = refl
open_beside (c ∷ clauses) h = ap (λ (ss : List ℕ). ss ++ (all_beside clauses).sorts) h.0 ∙ open_beside clauses h.1

open_all_beside : (rests : List (List Clause)) → AllByRecursion AreOpen rests → AreOpen (map all_beside rests)
open_all_beside [] h = tt
open_all_beside (r ∷ rests) h = (open_beside r h.0, open_all_beside rests h.1)

open_joined : (lists : List (List Clause)) → AllByRecursion AreOpen lists → AreOpen (joined_lists lists)
open_joined [] h = tt
open_joined (xs ∷ lists) h = all_append IsOpen xs (joined_lists lists) h.0 (open_joined lists h.1)

-- ---- truth of clauses

or_true : (b : Bool) → true ≡ (b || true)
or_true true = refl
or_true false = refl

one_lit : (b : Bool) → b ≡ ((b || false) && true)
one_lit true = refl
one_lit false = refl

-- one of two, with all of two lists
spread : (x r rest : Bool) → ((x || r) && (x || rest)) ≡ (x || (r && rest))
spread true r rest = refl
spread false r rest = refl

gather : (x xs r : Bool) → ((x || r) && (xs || r)) ≡ ((x && xs) || r)
gather true xs r = refl
gather false true true = refl
gather false true false = refl
gather false false true = refl
gather false false false = refl

-- ---- truth of formulas

-- what holds of a formula that has the shape of a normal form
pub record IsRead (v : Valuation) (a : Form) : Type 0 where
  pub atomic : (shape a).atomic ≡ true → is_propositional a ≡ true → (x : AtomOf) × ((clausal a).atom ≡ Some x) × (is_true v a ≡ v x)
  pub unbound : IsNormal a → is_propositional a ≡ true → AreOpen (clauses_in a)
  pub truth : IsNormal a → is_propositional a ≡ true → is_true v a ≡ list_all (clause_is_true v) (clauses_in a)

abbrev clauses_each : List Form → List (List Clause)
clauses_each as_ = map (λ (a : Clausal). a.clauses) (map clausal as_)

module _ (v : Valuation) where
  beside_true : (c d : Clause) → IsOpen c → IsOpen d → clause_is_true v (beside c d) ≡ (clause_is_true v c || clause_is_true v d)
  beside_true c d hc hd =
      let moved : ℕ → ℕ → List Lit = λ m n. map (in_lit (lifted_term n 0)) c.lits ++ map (in_lit (lifted_term m n)) d.lits in
      let lits : (beside c d).lits ≡ c.lits ++ d.lits
      = ap (λ (ss : List ℕ). moved (length c.sorts) (length ss)) hd ∙ ap (λ (ss : List ℕ). moved (length ss) 0) hc
      ∙ ap (λ (ls : List Lit). ls ++ map (in_lit (lifted_term 0 0)) d.lits) (lits_themselves (lifted_term 0 0) (lift_nothing 0) c.lits)
      ∙ ap (λ (ls : List Lit). c.lits ++ ls) (lits_themselves (lifted_term 0 0) (lift_nothing 0) d.lits) in
      ap (list_any (lit_is_true v)) lits ∙ list_any-append (lit_is_true v) c.lits d.lits

  with_true : (x : Clause) (rests : List (List Clause)) → IsOpen x → AllByRecursion AreOpen rests
      → list_all (clause_is_true v) (map all_beside (map (λ rest. x ∷ rest) rests)) ≡ (clause_is_true v x || list_all (clause_is_true v) (map all_beside rests))
  with_true x [] h all = or_true (clause_is_true v x)
  with_true x (r ∷ rests) h all =
      ap (λ (b : Bool). b && list_all (clause_is_true v) (map all_beside (map (λ rest. x ∷ rest) rests))) (beside_true x (all_beside r) h (open_beside r all.0))
      ∙ ap (λ (b : Bool). (clause_is_true v x || clause_is_true v (all_beside r)) && b) (with_true x rests h all.1)
      ∙ spread (clause_is_true v x) (clause_is_true v (all_beside r)) (list_all (clause_is_true v) (map all_beside rests))

  all_with_true : (xs : List Clause) (rests : List (List Clause)) → AreOpen xs → AllByRecursion AreOpen rests
      → list_all (clause_is_true v) (map all_beside (flat_map (λ x. map (λ rest. x ∷ rest) rests) xs)) ≡ (list_all (clause_is_true v) xs || list_all (clause_is_true v) (map all_beside rests))
  all_with_true [] rests h all = refl
  all_with_true (x ∷ xs) rests h all =
      let here : List (List Clause) = map (λ rest. x ∷ rest) rests in
      let later : List (List Clause) = flat_map (λ z. map (λ rest. z ∷ rest) rests) xs in
      ap (list_all (clause_is_true v)) (map-append all_beside here later) ∙ list_all-append (clause_is_true v) (map all_beside here) (map all_beside later)
      ∙ ap (λ (b : Bool). b && list_all (clause_is_true v) (map all_beside later)) (with_true x rests h.0 all)
      ∙ ap (λ (b : Bool). (clause_is_true v x || list_all (clause_is_true v) (map all_beside rests)) && b) (all_with_true xs rests h.1 all)
      ∙ gather (clause_is_true v x) (list_all (clause_is_true v) xs) (list_all (clause_is_true v) (map all_beside rests))

  choices_true : (lists : List (List Clause)) → AllByRecursion AreOpen lists → list_all (clause_is_true v) (map all_beside (choices lists)) ≡ list_any (list_all (clause_is_true v)) lists
  choices_true [] h = refl
  choices_true (xs ∷ lists) h =
      all_with_true xs (choices lists) h.0 (open_choices lists h.1) ∙ ap (λ (b : Bool). list_all (clause_is_true v) xs || b) (choices_true lists h.1)

  joined_true : (lists : List (List Clause)) → list_all (clause_is_true v) (joined_lists lists) ≡ list_all (list_all (clause_is_true v)) lists
  joined_true [] = refl
  joined_true (xs ∷ lists) = list_all-append (clause_is_true v) xs (joined_lists lists) ∙ ap (λ (b : Bool). list_all (clause_is_true v) xs && b) (joined_true lists)

  all_propositional : (as_ : List Form) → list_all (λ b. b) (map is_propositional as_) ≡ true → AllByRecursion (λ a. is_propositional a ≡ true) as_
  all_propositional [] e = tt
  all_propositional (a ∷ as_) e =
      let parts = both (is_propositional a) (list_all (λ b. b) (map is_propositional as_)) e in
      (parts.0, all_propositional as_ parts.1)

  each_open : (as_ : List Form) → AllByRecursion (IsRead v) as_ → AllByRecursion IsNormal as_ → AllByRecursion (λ a. is_propositional a ≡ true) as_ → AllByRecursion AreOpen (clauses_each as_)
  each_open [] h n p = tt
  each_open (a ∷ as_) h n p = (h.0.unbound n.0 p.0, each_open as_ h.1 n.1 p.1)

  each_all : (as_ : List Form) → AllByRecursion (IsRead v) as_ → AllByRecursion IsNormal as_ → AllByRecursion (λ a. is_propositional a ≡ true) as_
      → list_all (λ b. b) (map (is_true v) as_) ≡ list_all (list_all (clause_is_true v)) (clauses_each as_)
  each_all [] h n p = refl
  each_all (a ∷ as_) h n p =
      ap (λ (b : Bool). b && list_all (λ c. c) (map (is_true v) as_)) (h.0.truth n.0 p.0) ∙ ap (λ (b : Bool). list_all (clause_is_true v) (clauses_in a) && b) (each_all as_ h.1 n.1 p.1)

  each_any : (as_ : List Form) → AllByRecursion (IsRead v) as_ → AllByRecursion IsNormal as_ → AllByRecursion (λ a. is_propositional a ≡ true) as_
      → list_any (λ b. b) (map (is_true v) as_) ≡ list_any (list_all (clause_is_true v)) (clauses_each as_)
  each_any [] h n p = refl
  each_any (a ∷ as_) h n p =
      ap (λ (b : Bool). b || list_any (λ c. c) (map (is_true v) as_)) (h.0.truth n.0 p.0) ∙ ap (λ (b : Bool). list_all (clause_is_true v) (clauses_in a) || b) (each_any as_ h.1 n.1 p.1)

  -- what is falsely said
  never : {A : Type 0} (b : Bool) → b ≡ false → b ≡ true → A
  never b e h = absurd (false≢true (sym e ∙ h))

  atom_read : (p : ℕ) (ts : List Term) → IsRead v (Atom p ts)
  atom_read p ts =
      let e : (clausal (Atom p ts)).clauses ≡ open_clause (stated (Pred p ts) ∷ []) ∷ [] = ap (λ (c : Clausal). c.clauses) (clausal-Atom p ts) in
      record {
        atomic = λ s h. (Pred p ts, ap (λ (c : Clausal). c.atom) (clausal-Atom p ts), true-Atom v p ts);
        unbound = λ n h. subst AreOpen (sym e) (refl, tt);
        truth = λ n h. true-Atom v p ts ∙ one_lit (v (Pred p ts)) ∙ ap (list_all (clause_is_true v)) (sym e);
      }

  eq_read : (l r : Term) → IsRead v (Eq l r)
  eq_read l r = record {
    atomic = λ s h. never (is_propositional (Eq l r)) (propositional-Eq l r) h;
    unbound = λ n h. never (is_propositional (Eq l r)) (propositional-Eq l r) h;
    truth = λ n h. never (is_propositional (Eq l r)) (propositional-Eq l r) h;
  }

  not_read : (a : Form) → IsRead v a → IsRead v (Not a)
  not_read a ih = record {
    atomic = λ s h. never (shape (Not a)).atomic (ap (λ (x : Shape). x.atomic) (shape-Not a)) s;
    unbound = λ n h. let one = found n h in subst AreOpen (sym (clauses one.0 one.1)) (refl, tt);
    truth = λ n h.
        let one = found n h in
        true-Not v a ∙ ap not one.2 ∙ one_lit (not (v one.0)) ∙ ap (list_all (clause_is_true v)) (sym (clauses one.0 one.1));
  }
    where
      found : IsNormal (Not a) → is_propositional (Not a) ≡ true → (x : AtomOf) × ((clausal a).atom ≡ Some x) × (is_true v a ≡ v x)
      found n h = ih.atomic (sym (ap (λ (x : Shape). x.normal) (shape-Not a)) ∙ n) (sym (propositional-Not a) ∙ h)

      clauses : (x : AtomOf) → (clausal a).atom ≡ Some x → (clausal (Not a)).clauses ≡ open_clause (denied x ∷ []) ∷ []
      clauses x e = ap (λ (c : Clausal). c.clauses) (clausal-Not a) ∙ ap (λ (o : Option AtomOf). lone_clauses (option_map denied o)) e

  and_read : (as_ : List Form) → AllByRecursion (IsRead v) as_ → IsRead v (And as_)
  and_read as_ all = record {
    atomic = λ s h. never (shape (And as_)).atomic (ap (λ (x : Shape). x.atomic) (shape-And as_)) s;
    unbound = λ n h. subst AreOpen (sym e) (open_joined (clauses_each as_) (each_open as_ all (normal n) (plain h)));
    truth = λ n h.
        true-And v as_ ∙ each_all as_ all (normal n) (plain h) ∙ sym (joined_true (clauses_each as_)) ∙ ap (list_all (clause_is_true v)) (sym e);
  }
    where
      e : (clausal (And as_)).clauses ≡ joined_lists (clauses_each as_)
      e = ap (λ (c : Clausal). c.clauses) (clausal-And as_)

      normal : IsNormal (And as_) → AllByRecursion IsNormal as_
      normal n = all_normal as_ (sym (and_normal as_) ∙ n)

      plain : is_propositional (And as_) ≡ true → AllByRecursion (λ a. is_propositional a ≡ true) as_
      plain h = all_propositional as_ (sym (propositional-And as_) ∙ h)

  or_read : (as_ : List Form) → AllByRecursion (IsRead v) as_ → IsRead v (Or as_)
  or_read as_ all = record {
    atomic = λ s h. never (shape (Or as_)).atomic (ap (λ (x : Shape). x.atomic) (shape-Or as_)) s;
    unbound = λ n h. subst AreOpen (sym e) (open_all_beside (choices (clauses_each as_)) (open_choices (clauses_each as_) (each_open as_ all (normal n) (plain h))));
    truth = λ n h.
        true-Or v as_ ∙ each_any as_ all (normal n) (plain h) ∙ sym (choices_true (clauses_each as_) (each_open as_ all (normal n) (plain h))) ∙ ap (list_all (clause_is_true v)) (sym e);
  }
    where
      e : (clausal (Or as_)).clauses ≡ map all_beside (choices (clauses_each as_))
      e = ap (λ (c : Clausal). c.clauses) (clausal-Or as_)

      normal : IsNormal (Or as_) → AllByRecursion IsNormal as_
      normal n = all_normal as_ (sym (or_normal as_) ∙ n)

      plain : is_propositional (Or as_) ≡ true → AllByRecursion (λ a. is_propositional a ≡ true) as_
      plain h = all_propositional as_ (sym (propositional-Or as_) ∙ h)

  -- neither normal nor an atom
  other_read : (a : Form) → (shape a).atomic ≡ false → (shape a).normal ≡ false → IsRead v a
  other_read a s n = record {
    atomic = λ t h. never (shape a).atomic s t;
    unbound = λ t h. never (shape a).normal n t;
    truth = λ t h. never (shape a).normal n t;
  }

  -- not propositional
  bound_read : (a : Form) → is_propositional a ≡ false → IsRead v a
  bound_read a p = record {
    atomic = λ t h. never (is_propositional a) p h;
    unbound = λ t h. never (is_propositional a) p h;
    truth = λ t h. never (is_propositional a) p h;
  }

  pub each_read : (a : Form) → IsRead v a
  each_read = form_induction (IsRead v) (record {
    atom = atom_read;
    eq = eq_read;
    not = not_read;
    and = and_read;
    or = or_read;
    imp = λ a b ih jh. other_read (Imp a b) (ap (λ (x : Shape). x.atomic) (shape-Imp a b)) (ap (λ (x : Shape). x.normal) (shape-Imp a b));
    iff = λ a b ih jh. other_read (Iff a b) (ap (λ (x : Shape). x.atomic) (shape-Iff a b)) (ap (λ (x : Shape). x.normal) (shape-Iff a b));
    all = λ s a ih. bound_read (All s a) (propositional-All s a);
    ex = λ s a ih. bound_read (Ex s a) (propositional-Ex s a);
  })

pub norm_true : (v : Valuation) (a : Form) (g : Bool) → is_propositional (norm_of g a) ≡ true → is_true v (norm_of g a) ≡ list_all (clause_is_true v) (clauses_in (norm_of g a))
norm_true v a g h = (each_read v (norm_of g a)).truth (norm_is_normal a g) h

-- clauses of a propositional formula have no variables
pub norm_open : (v : Valuation) (a : Form) (g : Bool) → is_propositional (norm_of g a) ≡ true → AllByRecursion (λ c. c.sorts ≡ []) (clauses_in (norm_of g a))
norm_open v a g h = (each_read v (norm_of g a)).unbound (norm_is_normal a g) h
