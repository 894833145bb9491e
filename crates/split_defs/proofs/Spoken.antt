-- The variables that a formula speaks of are those that stand in it.
use Rattle.std.proofs.Common.{ℕ, ◌≡◌, ◌≤◌, ◌+◌, ◌-◌, ◌||◌, ◌&&◌, Bool, true, false, List, [], ◌∷◌, nat_eq, nat_lt, arith, refl, sym, subst, inl, inr}
use Rattle.std.specs.List.{list_any, list_all, AllByRecursion}
use Rattle.std.proofs.lemmas.Bool.{lt-ltb, le-ltb}
use Rattle.fof_terms.proofs.LiftingLaws.{both, below_or_above}
use Rattle.fof_terms.proofs.Induction.{term_induction, form_induction}
use Rattle.fof_terms.specs.Variables.{has_in_term, has_variable}
use Rattle.fof_terms.proofs.VariablesFacts.{has_in_term-Var, has_in_term-App, has_variable-Atom, has_variable-Eq, has_variable-Not, has_variable-And, has_variable-Or, has_variable-Imp, has_variable-Iff, has_variable-All, has_variable-Ex}
use Rattle.fof_terms.specs.declared.term.Term.{Term, Var}
use Rattle.fof_terms.specs.declared.form.Form.{Form}
use Rattle.split_defs.specs.DefinitionRule.{IsAmong}
use Rattle.split_defs.specs.code.Renaming.{speaks, speaks_in_term}
use Rattle.split_defs.proofs.RenamingFacts.{speaks_in_term-Var, speaks_in_term-App, speaks-Atom, speaks-Eq, speaks-Not, speaks-And, speaks-Or, speaks-Imp, speaks-Iff, speaks-All, speaks-Ex}
use Rattle.split_defs.proofs.Distinct.{is_equal, equals_itself, either}

pub either_left : (a b : Bool) → a ≡ true → (a || b) ≡ true
either_left a b e = rw e refl

pub either_right : (a b : Bool) → b ≡ true → (a || b) ≡ true
either_right true b e = refl
either_right false b e = e

pub and_true : (a b : Bool) → a ≡ true → b ≡ true → (a && b) ≡ true
and_true a b e f = rw (e, f) refl

-- Lists: a member in which the variable stands, and all members.
any_speaks : {X : Type 0} (f g : X → Bool) (G : Type 0) (xs : List X) → AllByRecursion (λ x. f x ≡ true → g x ≡ true → G) xs → list_all f xs ≡ true → list_any g xs ≡ true → G
any_speaks f g G [] all e h = absurd (let no : false ≡ true = h in cc)
any_speaks f g G (x ∷ xs) all e h =
    let parts = both (f x) (list_all f xs) e in
    elim (either (g x) (list_any g xs) h) [
      | inl here ↦ all.0 parts.0 here
      | inr there ↦ any_speaks f g G xs all.1 parts.1 there
    ]

all_speak : {X : Type 0} (f : X → Bool) (g : ℕ → X → Bool) (d : ℕ) (G : ℕ → Type 0) (xs : List X) → AllByRecursion (λ x. ((m : ℕ) → d ≤ m → g m x ≡ true → G m) → f x ≡ true) xs
    → ((m : ℕ) → d ≤ m → list_any (g m) xs ≡ true → G m) → list_all f xs ≡ true
all_speak f g d G [] all h = refl
all_speak f g d G (x ∷ xs) all h =
    and_true (f x) (list_all f xs)
    (all.0 (λ m le e. h m le (either_left (g m x) (list_any (g m) xs) e)))
    (all_speak f g d G xs all.1 (λ m le e. h m le (either_right (g m x) (list_any (g m) xs) e)))

module _ (xs : List ℕ) where
  -- what stands in a term that speaks of no others is one of them
  abbrev TermHas : Term → Type 0
  TermHas t = (d m : ℕ) → d ≤ m → speaks_in_term xs d t ≡ true → has_in_term m t ≡ true → IsAmong (m - d) xs

  each_at : {X : Type 0} (P : ℕ → ℕ → X → Type 0) (ts : List X) (d m : ℕ) → AllByRecursion (λ t. (d m : ℕ) → P d m t) ts → AllByRecursion (P d m) ts
  each_at P [] d m all = tt
  each_at P (t ∷ ts) d m all = (all.0 d m, each_at P ts d m all.1)

  within : {X : Type 0} (f g : X → Bool) (C G : Type 0) (ts : List X) → C → AllByRecursion (λ t. C → f t ≡ true → g t ≡ true → G) ts → AllByRecursion (λ t. f t ≡ true → g t ≡ true → G) ts
  within f g C G [] c all = tt
  within f g C G (t ∷ ts) c all = (all.0 c, within f g C G ts c all.1)

  var_has : (k d m : ℕ) → d ≤ m → speaks_in_term xs d (Var k) ≡ true → has_in_term m (Var k) ≡ true → IsAmong (m - d) xs
  var_has k d m le e h =
      let is : k ≡ m = is_equal k m (rw has_in_term-Var at h) in
      let e' : (nat_lt k d || list_any (nat_eq (k - d)) xs) ≡ true = rw speaks_in_term-Var at e in
      let above : nat_lt k d ≡ false = le-ltb k d (omega arith) in
      let e'' : list_any (nat_eq (k - d)) xs ≡ true = rw above at e' in
      subst (λ (j : ℕ). IsAmong (j - d) xs) is e''

  pub term_has : (t : Term) → TermHas t
  term_has = term_induction TermHas (record {
    var = λ k d m le e h. var_has k d m le e h;
    app = λ f ts all d m le e h.
        any_speaks (speaks_in_term xs d) (has_in_term m) (IsAmong (m - d) xs) ts
        (within (speaks_in_term xs d) (has_in_term m) (d ≤ m) (IsAmong (m - d) xs) ts le (each_at (λ d m t. d ≤ m → speaks_in_term xs d t ≡ true → has_in_term m t ≡ true → IsAmong (m - d) xs) ts d m all))
        (rw speaks_in_term-App at e) (rw has_in_term-App at h);
  })

  each_term_has : (ts : List Term) (d m : ℕ) → d ≤ m → AllByRecursion (λ t. speaks_in_term xs d t ≡ true → has_in_term m t ≡ true → IsAmong (m - d) xs) ts
  each_term_has [] d m le = tt
  each_term_has (t ∷ ts) d m le = (term_has t d m le, each_term_has ts d m le)

  abbrev FormHas : Form → Type 0
  FormHas a = (d m : ℕ) → d ≤ m → speaks xs d a ≡ true → has_variable m a ≡ true → IsAmong (m - d) xs

  pair_has : (a b : Form) → FormHas a → FormHas b → (d m : ℕ) → d ≤ m → (speaks xs d a && speaks xs d b) ≡ true → (has_variable m a || has_variable m b) ≡ true → IsAmong (m - d) xs
  pair_has a b ih jh d m le e h =
      let parts = both (speaks xs d a) (speaks xs d b) e in
      elim (either (has_variable m a) (has_variable m b) h) [ inl here ↦ ih d m le parts.0 here | inr there ↦ jh d m le parts.1 there ]

  members_have : (as_ : List Form) → AllByRecursion FormHas as_ → (d m : ℕ) → d ≤ m → list_all (speaks xs d) as_ ≡ true → list_any (has_variable m) as_ ≡ true → IsAmong (m - d) xs
  members_have as_ all d m le e h =
      any_speaks (speaks xs d) (has_variable m) (IsAmong (m - d) xs) as_
      (within (speaks xs d) (has_variable m) (d ≤ m) (IsAmong (m - d) xs) as_ le (each_at (λ d m a. d ≤ m → speaks xs d a ≡ true → has_variable m a ≡ true → IsAmong (m - d) xs) as_ d m all)) e h

  body_has : (a : Form) → FormHas a → (d m : ℕ) → d ≤ m → speaks xs (d + 1) a ≡ true → has_variable (m + 1) a ≡ true → IsAmong (m - d) xs
  body_has a ih d m le e h =
      let same : m + 1 - (d + 1) ≡ m - d = omega arith in
      subst (λ (j : ℕ). IsAmong j xs) same (ih (d + 1) (m + 1) (omega arith) e h)

  pub form_has : (a : Form) → FormHas a
  form_has = form_induction FormHas (record {
    atom = λ p ts d m le e h. any_speaks (speaks_in_term xs d) (has_in_term m) (IsAmong (m - d) xs) ts (each_term_has ts d m le) (rw speaks-Atom at e) (rw has_variable-Atom at h);
    eq = λ l r d m le e h.
        let parts = both (speaks_in_term xs d l) (speaks_in_term xs d r) (rw speaks-Eq at e) in
        elim (either (has_in_term m l) (has_in_term m r) (rw has_variable-Eq at h)) [ inl here ↦ term_has l d m le parts.0 here | inr there ↦ term_has r d m le parts.1 there ];
    not = λ a ih d m le e h. ih d m le (rw speaks-Not at e) (rw has_variable-Not at h);
    and = λ as_ all d m le e h. members_have as_ all d m le (rw speaks-And at e) (rw has_variable-And at h);
    or = λ as_ all d m le e h. members_have as_ all d m le (rw speaks-Or at e) (rw has_variable-Or at h);
    imp = λ a b ih jh d m le e h. pair_has a b ih jh d m le (rw speaks-Imp at e) (rw has_variable-Imp at h);
    iff = λ a b ih jh d m le e h. pair_has a b ih jh d m le (rw speaks-Iff at e) (rw has_variable-Iff at h);
    all = λ s a ih d m le e h. body_has a ih d m le (rw speaks-All at e) (rw has_variable-All at h);
    ex = λ s a ih d m le e h. body_has a ih d m le (rw speaks-Ex at e) (rw has_variable-Ex at h);
  })

  -- where all that stand in it are among them, it speaks of no others
  abbrev TermAll : Term → Type 0
  TermAll t = (d : ℕ) → ((m : ℕ) → d ≤ m → has_in_term m t ≡ true → IsAmong (m - d) xs) → speaks_in_term xs d t ≡ true

  all_at : {X : Type 0} (P : ℕ → X → Type 0) (ts : List X) (d : ℕ) → AllByRecursion (λ t. (d : ℕ) → P d t) ts → AllByRecursion (P d) ts
  all_at P [] d all = tt
  all_at P (t ∷ ts) d all = (all.0 d, all_at P ts d all.1)

  var_all : (k d : ℕ) → ((m : ℕ) → d ≤ m → has_in_term m (Var k) ≡ true → IsAmong (m - d) xs) → speaks_in_term xs d (Var k) ≡ true
  var_all k d h =
      elim (below_or_above k d) [
        | inl lt ↦ rw (speaks_in_term-Var, lt-ltb k d lt) refl
        | inr le ↦ rw speaks_in_term-Var (either_right (nat_lt k d) (list_any (nat_eq (k - d)) xs) (h k le (rw has_in_term-Var (equals_itself k))))
      ]

  pub term_all : (t : Term) → TermAll t
  term_all = term_induction TermAll (record {
    var = λ k d h. var_all k d h;
    app = λ f ts all d h.
        rw speaks_in_term-App
        (all_speak (speaks_in_term xs d) has_in_term d (λ m. IsAmong (m - d) xs) ts (all_at (λ d t. ((m : ℕ) → d ≤ m → has_in_term m t ≡ true → IsAmong (m - d) xs) → speaks_in_term xs d t ≡ true) ts d all) (λ m le e. h m le (rw has_in_term-App e)));
  })

  each_term_all : (ts : List Term) (d : ℕ) → AllByRecursion (λ t. ((m : ℕ) → d ≤ m → has_in_term m t ≡ true → IsAmong (m - d) xs) → speaks_in_term xs d t ≡ true) ts
  each_term_all [] d = tt
  each_term_all (t ∷ ts) d = (term_all t d, each_term_all ts d)

  abbrev FormAll : Form → Type 0
  FormAll a = (d : ℕ) → ((m : ℕ) → d ≤ m → has_variable m a ≡ true → IsAmong (m - d) xs) → speaks xs d a ≡ true

  pair_all : (a b : Form) → FormAll a → FormAll b → (d : ℕ) → ((m : ℕ) → d ≤ m → (has_variable m a || has_variable m b) ≡ true → IsAmong (m - d) xs) → (speaks xs d a && speaks xs d b) ≡ true
  pair_all a b ih jh d h =
      and_true (speaks xs d a) (speaks xs d b)
      (ih d (λ m le e. h m le (either_left (has_variable m a) (has_variable m b) e)))
      (jh d (λ m le e. h m le (either_right (has_variable m a) (has_variable m b) e)))

  members_all : (as_ : List Form) → AllByRecursion FormAll as_ → (d : ℕ) → ((m : ℕ) → d ≤ m → list_any (has_variable m) as_ ≡ true → IsAmong (m - d) xs) → list_all (speaks xs d) as_ ≡ true
  members_all as_ all d h =
      all_speak (speaks xs d) has_variable d (λ m. IsAmong (m - d) xs) as_ (all_at (λ d a. ((m : ℕ) → d ≤ m → has_variable m a ≡ true → IsAmong (m - d) xs) → speaks xs d a ≡ true) as_ d all) h

  body_all : (a : Form) → FormAll a → (d : ℕ) → ((m : ℕ) → d ≤ m → has_variable (m + 1) a ≡ true → IsAmong (m - d) xs) → speaks xs (d + 1) a ≡ true
  body_all a ih d h = ih (d + 1) next where
    next : (m : ℕ) → d + 1 ≤ m → has_variable m a ≡ true → IsAmong (m - (d + 1)) xs
    next m le e =
        let back : m - 1 + 1 ≡ m = omega arith in
        let same : m - 1 - d ≡ m - (d + 1) = omega arith in
        subst (λ (j : ℕ). IsAmong j xs) same (h (m - 1) (omega arith) (subst (λ (j : ℕ). has_variable j a ≡ true) (sym back) e))

  pub form_all : (a : Form) → FormAll a
  form_all = form_induction FormAll (record {
    atom = λ p ts d h.
        rw speaks-Atom (all_speak (speaks_in_term xs d) has_in_term d (λ m. IsAmong (m - d) xs) ts (each_term_all ts d) (λ m le e. h m le (rw has_variable-Atom e)));
    eq = λ l r d h.
        rw speaks-Eq
        (and_true (speaks_in_term xs d l) (speaks_in_term xs d r)
        (term_all l d (λ m le e. h m le (rw has_variable-Eq (either_left (has_in_term m l) (has_in_term m r) e))))
        (term_all r d (λ m le e. h m le (rw has_variable-Eq (either_right (has_in_term m l) (has_in_term m r) e)))));
    not = λ a ih d h. rw speaks-Not (ih d (λ m le e. h m le (rw has_variable-Not e)));
    and = λ as_ all d h. rw speaks-And (members_all as_ all d (λ m le e. h m le (rw has_variable-And e)));
    or = λ as_ all d h. rw speaks-Or (members_all as_ all d (λ m le e. h m le (rw has_variable-Or e)));
    imp = λ a b ih jh d h. rw speaks-Imp (pair_all a b ih jh d (λ m le e. h m le (rw has_variable-Imp e)));
    iff = λ a b ih jh d h. rw speaks-Iff (pair_all a b ih jh d (λ m le e. h m le (rw has_variable-Iff e)));
    all = λ s a ih d h. rw speaks-All (body_all a ih d (λ m le e. h m le (rw has_variable-All e)));
    ex = λ s a ih d h. rw speaks-Ex (body_all a ih d (λ m le e. h m le (rw has_variable-Ex e)));
  })

  -- over no binders
  nothing_off : (m : ℕ) → m - 0 ≡ m
  nothing_off m = omega arith

  pub among_of_form : (a : Form) → speaks xs 0 a ≡ true → (n : ℕ) → has_variable n a ≡ true → IsAmong n xs
  among_of_form a e n h = subst (λ (j : ℕ). IsAmong j xs) (nothing_off n) (form_has a 0 n (omega arith) e h)

  pub speaks_of_among : (a : Form) → ((n : ℕ) → has_variable n a ≡ true → IsAmong n xs) → speaks xs 0 a ≡ true
  speaks_of_among a h = form_all a 0 (λ m le e. subst (λ (j : ℕ). IsAmong j xs) (sym (nothing_off m)) (h m e))

  pub among_of_term : (t : Term) → speaks_in_term xs 0 t ≡ true → (n : ℕ) → has_in_term n t ≡ true → IsAmong n xs
  among_of_term t e n h = subst (λ (j : ℕ). IsAmong j xs) (nothing_off n) (term_has t 0 n (omega arith) e h)

  pub speaks_of_term : (t : Term) → ((n : ℕ) → has_in_term n t ≡ true → IsAmong n xs) → speaks_in_term xs 0 t ≡ true
  speaks_of_term t h = term_all t 0 (λ m le e. subst (λ (j : ℕ). IsAmong j xs) (sym (nothing_off m)) (h m e))
