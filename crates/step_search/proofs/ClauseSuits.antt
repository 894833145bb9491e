-- Each clause of a formula has of it what a clause has that a path reaches.
use Rattle.std.specs.Prelude.{◌≡◌, true, List, [], ◌∷◌, ◌++◌, length, map, flat_map, Option, Some, None, slice_get, refl}
use Rattle.std.specs.List.{AllByRecursion}
use Rattle.std.specs.Option.{option_map}
use Rattle.std.proofs.Common.{ap, sym, subst, ◌∙◌, arith}
use Rattle.std.proofs.lemmas.List.Concat.{flat_map-cons}
use Rattle.fof_terms.proofs.Induction.{form_induction}
use Rattle.fof_terms.specs.Sorts.{is_sorted}
use Rattle.fof_terms.specs.declared.form.Form.{Form, Atom, Eq, Not, And, Or, Imp, Iff, All, Ex}
use Rattle.clause_form.specs.declared.clause.AtomOf.{AtomOf}
use Rattle.clause_form.specs.declared.clause.AtomOf.TheVariants.{Pred, Eq as Equation}
use Rattle.clause_form.specs.declared.clause.Lit.{Lit}
use Rattle.clause_form.specs.declared.clause.Clause.{Clause}
use Rattle.clause_form.specs.ClauseView.{stated, denied, open_clause, within, form_of_atom, form_of_lit}
use Rattle.clause_form.specs.Clauses.{Clausal, clausal, clauses_in, choices, joined_lists, lone_clauses}
use Rattle.clause_form.specs.Paths.{all_beside}
use Rattle.clause_form.specs.Reached.{Suits, EachSuits}
use Rattle.clause_form.specs.Sizes.{norm_size_of}
use Rattle.clause_form.proofs.ClausesFacts.{clausal-Atom, clausal-Eq, clausal-Not, clausal-And, clausal-Or, clausal-Imp, clausal-Iff, clausal-All, clausal-Ex}
use Rattle.clause_form.proofs.ReachedFacts.{suits_and, suits_or, suits_all}
use Rattle.clause_form.proofs.SizesFacts.{norm_size_of-Atom, norm_size_of-Eq, norm_size_of-Not}
use Rattle.step_clauses.proofs.WaysFacts.{at_seam, one_further}

-- Lists.
pub each_of_both : {X : Type 0} (P : X → Type 0) (xs ys : List X) → AllByRecursion P xs → AllByRecursion P ys → AllByRecursion P (xs ++ ys)
each_of_both P [] ys all more = more
each_of_both P (x ∷ xs) ys all more = (all.0, each_of_both P xs ys all.1 more)

pub each_weaker : {X : Type 0} (P Q : X → Type 0) (xs : List X) → ((x : X) → P x → Q x) → AllByRecursion P xs → AllByRecursion Q xs
each_weaker P Q [] f all = tt
each_weaker P Q (x ∷ xs) f all = (f x all.0, each_weaker P Q xs f all.1)

pub each_mapped : {X Y : Type 0} (P : Y → Type 0) (f : X → Y) (xs : List X) → AllByRecursion (λ x. P (f x)) xs → AllByRecursion P (map f xs)
each_mapped P f [] all = tt
each_mapped P f (x ∷ xs) all = (all.0, each_mapped P f xs all.1)

-- Literals.
lit_suits : (a : Form) (l : Lit) → form_of_lit l ≡ a → norm_size_of a ≡ 1 → Suits a (open_clause (l ∷ []))
lit_suits a l is one = record { small = omega (arith, one); sorts = λ w v fits. tt; fits = λ w v fits. subst (λ (b : Form). is_sorted w v b ≡ true) (sym is) fits }

abbrev AtomIs : Form → Type 0
AtomIs a = (b : AtomOf) → (clausal a).atom ≡ Some b → (form_of_atom b ≡ a) × (norm_size_of a ≡ 1)

none_is : {R : Type 0} (b : AtomOf) → None ≡ Some b → R
none_is b e = cc

some_is : (b c : AtomOf) → Some b ≡ Some c → c ≡ b
some_is b c e = cc

atom_is : (a : Form) → AtomIs a
atom_is = form_induction AtomIs (record {
  atom = λ p ts b e. (ap form_of_atom (some_is (Pred p ts) b (rw clausal-Atom at e)), norm_size_of-Atom p ts);
  eq = λ l r b e. (ap form_of_atom (some_is (Equation l r) b (rw clausal-Eq at e)), norm_size_of-Eq l r);
  not = λ a ih b e. none_is b (rw clausal-Not at e);
  and = λ as_ all b e. none_is b (rw clausal-And at e);
  or = λ as_ all b e. none_is b (rw clausal-Or at e);
  imp = λ a c ih jh b e. none_is b (rw clausal-Imp at e);
  iff = λ a c ih jh b e. none_is b (rw clausal-Iff at e);
  all = λ s a ih b e. none_is b (rw clausal-All at e);
  ex = λ s a ih b e. none_is b (rw clausal-Ex at e);
})

denied_suits : (a : Form) (o : Option AtomOf) → (clausal a).atom ≡ o → AllByRecursion (Suits (Not a)) (lone_clauses (option_map denied o))
denied_suits a None e = tt
denied_suits a (Some b) e = let is = atom_is a b e in (lit_suits (Not a) (denied b) (ap Not is.0) (norm_size_of-Not a ∙ is.1), tt)

-- Conjunctions and disjunctions.
abbrev EachSuited : Form → Type 0
EachSuited a = AllByRecursion (Suits a) (clauses_in a)

abbrev lists_of : List Form → List (List Clause)
lists_of as_ = map (λ (a : Clausal). a.clauses) (map clausal as_)

joined_suits : (whole front rest : List Form) → whole ≡ front ++ rest → AllByRecursion EachSuited rest → AllByRecursion (Suits (And whole)) (joined_lists (lists_of rest))
joined_suits whole front [] e all = tt
joined_suits whole front (a ∷ rest) e all =
    let at : slice_get whole (length front) ≡ Some a = ap (λ (l : List Form). slice_get l (length front)) e ∙ at_seam front (length front) a rest refl in
    each_of_both (Suits (And whole)) (clauses_in a) (joined_lists (lists_of rest))
    (each_weaker (Suits a) (Suits (And whole)) (clauses_in a) (λ c s. suits_and whole (length front) a c at s) all.0)
    (joined_suits whole (front ++ a ∷ []) rest (e ∙ sym (one_further front a rest)) all.1)

behind_suits : (a : Form) (as_ : List Form) (c : Clause) (chosen : List (List Clause)) → Suits a c → AllByRecursion (EachSuits as_) chosen → AllByRecursion (EachSuits (a ∷ as_)) (map (λ (cs : List Clause). c ∷ cs) chosen)
behind_suits a as_ c [] s all = tt
behind_suits a as_ c (cs ∷ chosen) s all = ((s, all.0), behind_suits a as_ c chosen s all.1)

each_behind : (a : Form) (as_ : List Form) (clauses : List Clause) (chosen : List (List Clause)) → AllByRecursion (Suits a) clauses → AllByRecursion (EachSuits as_) chosen
    → AllByRecursion (EachSuits (a ∷ as_)) (flat_map (λ (c : Clause). map (λ (cs : List Clause). c ∷ cs) chosen) clauses)
each_behind a as_ [] chosen all others = tt
each_behind a as_ (c ∷ clauses) chosen all others =
    subst (AllByRecursion (EachSuits (a ∷ as_))) (sym (flat_map-cons (λ (d : Clause). map (λ (cs : List Clause). d ∷ cs) chosen) c clauses))
    (each_of_both (EachSuits (a ∷ as_)) (map (λ (cs : List Clause). c ∷ cs) chosen) (flat_map (λ (d : Clause). map (λ (cs : List Clause). d ∷ cs) chosen) clauses)
    (behind_suits a as_ c chosen all.0 others) (each_behind a as_ clauses chosen all.1 others))

choices_suit : (as_ : List Form) → AllByRecursion EachSuited as_ → AllByRecursion (EachSuits as_) (choices (lists_of as_))
choices_suit [] all = (tt, tt)
choices_suit (a ∷ as_) all = each_behind a as_ (clauses_in a) (choices (lists_of as_)) all.0 (choices_suit as_ all.1)

abbrev its : Clausal → List Clause
its c = c.clauses

each_is : (a : Form) (clauses : List Clause) → clauses_in a ≡ clauses → AllByRecursion (Suits a) clauses → EachSuited a
each_is a clauses e all = subst (AllByRecursion (Suits a)) (sym e) all

pub each_suited : (a : Form) → EachSuited a
each_suited = form_induction EachSuited (record {
  atom = λ p ts. each_is (Atom p ts) (open_clause (stated (Pred p ts) ∷ []) ∷ []) (ap its (clausal-Atom p ts)) (lit_suits (Atom p ts) (stated (Pred p ts)) refl (norm_size_of-Atom p ts), tt);
  eq = λ l r. each_is (Eq l r) (open_clause (stated (Equation l r) ∷ []) ∷ []) (ap its (clausal-Eq l r)) (lit_suits (Eq l r) (stated (Equation l r)) refl (norm_size_of-Eq l r), tt);
  not = λ a ih. each_is (Not a) (lone_clauses (option_map denied (clausal a).atom)) (ap its (clausal-Not a)) (denied_suits a (clausal a).atom refl);
  and = λ as_ all. each_is (And as_) (joined_lists (lists_of as_)) (ap its (clausal-And as_)) (joined_suits as_ [] as_ refl all);
  or = λ as_ all.
      each_is (Or as_) (map all_beside (choices (lists_of as_))) (ap its (clausal-Or as_))
      (each_mapped (Suits (Or as_)) all_beside (choices (lists_of as_))
      (each_weaker (EachSuits as_) (λ (cs : List Clause). Suits (Or as_) (all_beside cs)) (choices (lists_of as_)) (λ cs s. suits_or as_ cs s) (choices_suit as_ all)));
  imp = λ a b ih jh. each_is (Imp a b) [] (ap its (clausal-Imp a b)) tt;
  iff = λ a b ih jh. each_is (Iff a b) [] (ap its (clausal-Iff a b)) tt;
  all = λ s a ih.
      each_is (All s a) (map (within s) (clauses_in a)) (ap its (clausal-All s a))
      (each_mapped (Suits (All s a)) (within s) (clauses_in a) (each_weaker (Suits a) (λ (c : Clause). Suits (All s a) (within s c)) (clauses_in a) (λ c k. suits_all s a c k) ih));
  ex = λ s a ih. each_is (Ex s a) [] (ap its (clausal-Ex s a)) tt;
})
