-- Rows by symbol and elements, and the entries of an index.
use Rattle.std.proofs.Common.{◌≡◌, ℕ, ◌&&◌, ◌||◌, nat_eq, Bool, true, false, List, [], ◌∷◌, ◌++◌, map, Some, None, if◌then◌else◌, refl, sym, ◌∙◌, ap, append_assoc, arith, ⊎_elim}
use Rattle.std.specs.Prelude.{filter}
use Rattle.std.specs.List.{list_any}
use Rattle.std.specs.Cmp.Lexicographic.{pointwise, bytes_decides, nat_list_eq_equiv}
use Rattle.std.proofs.lemmas.Bool.{cases_Bool}
use Rattle.std.proofs.lemmas.Bool.Decides.{nat_tests}
use Rattle.std.proofs.lemmas.List.{append-nil}
use Rattle.fi_model.specs.declared.rows.Row.{Row}
use Rattle.fi_model.specs.Models.{is_at}
use Rattle.fi_model.specs.Faults.{first_double}
use Rattle.fi_model.specs.code.Adding.{key_of, entry_of, under, told}

-- a row is at a symbol and elements where its entry is under their key
pub at_key : (symbol : ℕ) (args : List ℕ) (r : Row) → under (symbol ∷ args) (entry_of r) ≡ is_at symbol args r
at_key symbol args r = refl

pub any_at_key : (symbol : ℕ) (args : List ℕ) (rs : List Row) → list_any (under (symbol ∷ args)) (map entry_of rs) ≡ list_any (is_at symbol args) rs
any_at_key symbol args [] = refl
any_at_key symbol args (r ∷ rs) = ap (λ b. is_at symbol args r || b) (any_at_key symbol args rs)

-- ---- no two of one key

double_step : (before : List Row) (r : Row) (rs : List Row) → first_double before (r ∷ rs) ≡ None → (list_any (is_at r.symbol r.args) before ≡ false) × (first_double (before ++ r ∷ []) rs ≡ None)
double_step before r rs e = by (list_any (is_at r.symbol r.args) before) e
  where
    by : (b : Bool) → (if b then Some r.at else first_double (before ++ r ∷ []) rs) ≡ None → (b ≡ false) × (first_double (before ++ r ∷ []) rs ≡ None)
    by true h = cc
    by false h = (refl, h)

pub double_behind : (before rs more : List Row) → first_double before rs ≡ None → first_double before (rs ++ more) ≡ first_double (before ++ rs) more
double_behind before [] more e = ap (λ (b : List Row). first_double b more) (sym (append-nil before))
double_behind before (r ∷ rs) more e =
    let parts = double_step before r rs e in
    rw parts.0
    (double_behind (before ++ r ∷ []) rs more parts.1 ∙ ap (λ (b : List Row). first_double b more) (append_assoc before (r ∷ []) rs))

-- the two are equal where the row is at them
at_same : (symbol : ℕ) (args : List ℕ) (r : Row) → is_at symbol args r ≡ true → (r.symbol ≡ symbol) × (r.args ≡ args)
at_same symbol args r e = by (nat_eq symbol r.symbol) refl e
  where
    by : (b : Bool) → nat_eq symbol r.symbol ≡ b → (b && pointwise nat_eq args r.args) ≡ true → (r.symbol ≡ symbol) × (r.args ≡ args)
    by true is h = (grind (arith, nat_tests, is), sym ((bytes_decides args r.args).0 h))
    by false is h = cc

any_front : {X : Type 0} (p : X → Bool) (xs ys : List X) → list_any p xs ≡ true → list_any p (xs ++ ys) ≡ true
any_front p [] ys h = cc
any_front p (x ∷ xs) ys h = ⊎_elim (λ y. rw y refl) (λ n. let rest : list_any p xs ≡ true = rw n at h in rw n (any_front p xs ys rest)) (cases_Bool (p x))

any_last : {X : Type 0} (p : X → Bool) (xs : List X) (x : X) → p x ≡ true → list_any p (xs ++ x ∷ []) ≡ true
any_last p [] x h = rw h refl
any_last p (y ∷ xs) x h = ⊎_elim (λ y'. rw y' refl) (λ n. rw n (any_last p xs x h)) (cases_Bool (p y))

none_later : (symbol : ℕ) (args : List ℕ) (before rs : List Row) → first_double before rs ≡ None → list_any (is_at symbol args) before ≡ true → filter (is_at symbol args) rs ≡ []
none_later symbol args before [] e t = refl
none_later symbol args before (r ∷ rs) e t =
    let parts = double_step before r rs e in
    let rest = none_later symbol args (before ++ r ∷ []) rs parts.1 (any_front (is_at symbol args) before (r ∷ []) t) in
    ⊎_elim
    (λ y.
    let same = at_same symbol args r y in
    let t' : list_any (is_at r.symbol r.args) before ≡ true = rw (same.0, same.1) t in
    cc)
    (λ n. rw n rest)
    (cases_Bool (is_at symbol args r))

-- a row is at its own symbol and elements
pub at_own : (r : Row) → is_at r.symbol r.args r ≡ true
at_own r = let same : nat_eq r.symbol r.symbol ≡ true = grind (arith, nat_tests) in rw (same, nat_list_eq_equiv.refl r.args) refl

kept_one : (b : Bool) (r : Row) (rest : List Row) → b ≡ true → rest ≡ [] → (if b then r ∷ rest else rest) ≡ r ∷ []
kept_one b r rest e f = rw (e, f) refl

-- what is told is the value of the only row there
pub told_one : (symbol : ℕ) (args : List ℕ) (before rs : List Row) (value : ℕ) → first_double before rs ≡ None → told (map entry_of rs) (symbol ∷ args) ≡ Some value → (r : Row) × (filter (is_at symbol args) rs ≡ r ∷ []) × (value ≡ r.value)
told_one symbol args before [] value e t = cc
told_one symbol args before (r ∷ rs) value e t =
    let parts = double_step before r rs e in
    ⊎_elim
    (λ y.
    let here : Some r.value ≡ Some value = rw y at t in
    (r, kept_one (is_at symbol args r) r (filter (is_at symbol args) rs) y (none_later symbol args (before ++ r ∷ []) rs parts.1 (any_last (is_at symbol args) before r y)), cc))
    (λ n.
    let later : told (map entry_of rs) (symbol ∷ args) ≡ Some value = rw n at t in
    let rest = told_one symbol args (before ++ r ∷ []) rs value parts.1 later in
    (rest.0, rw n rest.1, rest.2))
    (cases_Bool (is_at symbol args r))

pub told_none : (symbol : ℕ) (args : List ℕ) (rs : List Row) → told (map entry_of rs) (symbol ∷ args) ≡ None → list_any (is_at symbol args) rs ≡ false
told_none symbol args [] t = refl
told_none symbol args (r ∷ rs) t =
    ⊎_elim
    (λ y. let here : Some r.value ≡ None = rw y at t in cc)
    (λ n. let later : told (map entry_of rs) (symbol ∷ args) ≡ None = rw n at t in rw n (told_none symbol args rs later))
    (cases_Bool (is_at symbol args r))

-- where something is told there is a row
pub told_some : (symbol : ℕ) (args : List ℕ) (rs : List Row) (value : ℕ) → told (map entry_of rs) (symbol ∷ args) ≡ Some value → list_any (is_at symbol args) rs ≡ true
told_some symbol args [] value t = cc
told_some symbol args (r ∷ rs) value t =
    ⊎_elim
    (λ y. rw y refl)
    (λ n. let later : told (map entry_of rs) (symbol ∷ args) ≡ Some value = rw n at t in rw n (told_some symbol args rs value later))
    (cases_Bool (is_at symbol args r))

-- the first double, as a loop over rows comes to it
pub double_at : (before : List Row) (r : Row) (rest : List Row) → first_double [] before ≡ None → list_any (under (key_of r)) (map entry_of before) ≡ true → first_double [] (before ++ r ∷ rest) ≡ Some r.at
double_at before r rest e t =
    let here : list_any (is_at r.symbol r.args) before ≡ true = sym (any_at_key r.symbol r.args before) ∙ t in
    double_behind [] before (r ∷ rest) e ∙ rw here refl

pub single_more : (before : List Row) (r : Row) → first_double [] before ≡ None → list_any (under (key_of r)) (map entry_of before) ≡ false → first_double [] (before ++ r ∷ []) ≡ None
single_more before r e t =
    let here : list_any (is_at r.symbol r.args) before ≡ false = sym (any_at_key r.symbol r.args before) ∙ t in
    double_behind [] before (r ∷ []) e ∙ rw here refl
