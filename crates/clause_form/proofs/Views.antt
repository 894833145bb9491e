-- How views follow from one another.
use Rattle.std.specs.Prelude.{ℕ, Bool, false, IsTrue, ◌↔◌, ◌≡◌, ◌+◌, ◌<◌, List, [], ◌∷◌, ◌++◌, map, take, length, get_or, slice_get, Option, Some, None, refl}
use Rattle.std.specs.Option.{option_map}
use Rattle.std.proofs.Common.{ap, append_assoc, sym, ◌∙◌, arith, zero, suc, add-one}
use Rattle.std.proofs.lemmas.Simd.{map-map}
use Rattle.std.proofs.lemmas.Option.{slice_get-map, slice_get-get_or}
use Rattle.fof_terms.specs.declared.form.Form.{Form, And, Or}
use Rattle.clause_form.specs.declared.clause.Lit.{Lit}
use Rattle.clause_form.specs.declared.clause.Clause.{Clause}
use Rattle.clause_form.specs.ClauseView.{View, view_of, view_of_or, view_of_and, all_there, within, open_clause}
use Rattle.clause_form.specs.code.ClauseView.{under}
use Rattle.clause_form.proofs.ClauseViewFacts.{view_of-And, view_of-Or}

pub under_within : (sorts : List ℕ) (s : ℕ) (c : Option Clause) → option_map (under (sorts ++ s ∷ [])) c ≡ option_map (under sorts) (option_map (within s) c)
under_within sorts s None = refl
under_within sorts s (Some c) = ap (λ (ss : List ℕ). Some (record { sorts = ss; lits = c.lits })) (append_assoc sorts (s ∷ []) c.sorts)

pub under_nothing : (c : Option Clause) → option_map (under []) c ≡ c
under_nothing None = refl
under_nothing (Some c) = refl

pub or_clause : (views : List View) → (view_of_or views).clause ≡ option_map open_clause (all_there (map (λ (v : View). v.lit) views))
or_clause [] = refl
or_clause (v ∷ views) = refl

pub or_lits : (as_ : List Form) → map (λ (v : View). v.lit) (map view_of as_) ≡ map (λ a. (view_of a).lit) as_
or_lits as_ = map-map (λ (v : View). v.lit) view_of as_

pub ruleset view_rules = (under_within, under_nothing, or_clause)

-- a list and one more
one_more_there : {X : Type 0} (x : Option X) (xs : Option (List X)) (y : X) (ys : List X) → xs ≡ Some ys → x ≡ Some y → option_map (λ zs. y ∷ zs) xs ≡ Some (y ∷ ys)
one_more_there x xs y ys e f = rw e refl

some_of : {X : Type 0} (y : X) (xs : Option (List X)) (ys : List X) → option_map (λ zs. y ∷ zs) xs ≡ Some ys → (zs : List X) × (xs ≡ Some zs) × (ys ≡ y ∷ zs)
some_of y None ys e = cc
some_of y (Some zs) ys e = (zs, refl, cc)

all_there_snoc : {X : Type 0} (xs : List (Option X)) (ys : List X) (y : X) → all_there xs ≡ Some ys → all_there (xs ++ Some y ∷ []) ≡ Some (ys ++ y ∷ [])
all_there_snoc [] ys y e = let same : ys ≡ [] = cc in rw same refl
all_there_snoc (None ∷ xs) ys y e = cc
all_there_snoc (Some x ∷ xs) ys y e =
    let inner = some_of x (all_there xs) ys e in
    rw (inner.2, all_there_snoc xs inner.0 y inner.1) refl

take_snoc : {X Y : Type 0} (f : X → Y) (xs : List X) (i : ℕ) (d : X) → i < length xs → map f (take (i + 1) xs) ≡ map f (take i xs) ++ f (get_or xs i d) ∷ []
take_snoc f [] i d h = absurd (omega arith)
take_snoc f (x ∷ xs) zero d h = refl
take_snoc f (x ∷ xs) (suc i) d h =
    let rest : map f (take (i + 1) xs) ≡ map f (take i xs) ++ f (get_or xs i d) ∷ [] = take_snoc f xs i d (omega arith) in
    let rest' : map f (take (suc i) xs) ≡ map f (take i xs) ++ f (get_or xs i d) ∷ [] = rw add-one at rest in
    rw add-one (ap (λ ys. f x ∷ ys) rest')

-- as far as a loop has come
pub more_there : {X Y : Type 0} (f : X → Option Y) (xs : List X) (i : ℕ) (x : X) (y : Y) (ys : List Y) → i < length xs → x ≡ get_or xs i x → f x ≡ Some y → all_there (map f (take i xs)) ≡ Some ys
    → all_there (map f (take (i + 1) xs)) ≡ Some (ys ++ y ∷ [])
more_there f xs i x y ys h is e before =
    let last : f (get_or xs i x) ≡ Some y = ap f (sym is) ∙ e in
    rw (take_snoc f xs i x h, last) (all_there_snoc (map f (take i xs)) ys y before)

none_there : {X : Type 0} (xs : List (Option X)) (i : ℕ) → slice_get xs i ≡ Some None → all_there xs ≡ None
none_there [] i e = cc
none_there (None ∷ xs) i e = refl
none_there (Some x ∷ xs) zero e = cc
none_there (Some x ∷ xs) (suc i) e = rw (none_there xs i e) refl

-- where one is not there
pub not_all_there : {X Y : Type 0} (f : X → Option Y) (xs : List X) (i : ℕ) (x : X) → i < length xs → x ≡ get_or xs i x → f x ≡ None → all_there (map f xs) ≡ None
not_all_there f xs i x h is e =
    let last : f (get_or xs i x) ≡ None = ap f (sym is) ∙ e in
    none_there (map f xs) i (slice_get-map f xs i ∙ ap (option_map f) (slice_get-get_or xs i x h) ∙ ap Some last)

untrue : {X : Type 0} (b : Bool) → b ≡ false → (IsTrue b ↔ X) → X → ⊥
untrue b e h x = let t : IsTrue b = h.1 x in cc

and_atom : (as_ : List Form) → (as_ ≡ [] → ⊥) → (view_of_and (map view_of as_)).atom ≡ None
and_atom [] some = absurd (some refl)
and_atom (a ∷ as_) some = refl

or_atom : (as_ : List Form) → (as_ ≡ [] → ⊥) → (view_of_or (map view_of as_)).atom ≡ None
or_atom [] some = absurd (some refl)
or_atom (a ∷ as_) some = refl

-- a conjunction or a disjunction with members is no atom
pub and_is_none : (form : Form) (as_ : List Form) (b : Bool) → form ≡ And as_ → b ≡ false → (IsTrue b ↔ (as_ ≡ [])) → None ≡ (view_of form).atom
and_is_none form as_ b is e h = rw is (rw (view_of-And as_) (sym (and_atom as_ (untrue b e h))))

pub or_is_none : (form : Form) (as_ : List Form) (b : Bool) → form ≡ Or as_ → b ≡ false → (IsTrue b ↔ (as_ ≡ [])) → None ≡ (view_of form).atom
or_is_none form as_ b is e h = rw is (rw (view_of-Or as_) (sym (or_atom as_ (untrue b e h))))

-- a disjunction of literals, as code meets it
pub or_done : (form : Form) (as_ lent : List Form) (sorts : List ℕ) (lits : Option (List Lit)) (made : Option Clause) → form ≡ Or as_ → lent ≡ as_ → lits ≡ all_there (map (λ a. (view_of a).lit) lent)
    → made ≡ option_map (under sorts) (option_map open_clause lits) → made ≡ option_map (under sorts) (view_of form).clause
or_done form as_ lent sorts lits made is same e m =
    let here : lits ≡ all_there (map (λ a. (view_of a).lit) as_) = e ∙ ap (λ xs. all_there (map (λ a. (view_of a).lit) xs)) same in
    let there : (view_of form).clause ≡ option_map open_clause (all_there (map (λ a. (view_of a).lit) as_)) =
    rw is (rw (view_of-Or as_) (or_clause (map view_of as_) ∙ ap (λ xs. option_map open_clause (all_there xs)) (or_lits as_))) in
    m ∙ (rw (here, there) refl)
