-- Lists of symbols that gain those of one part after another.
use Rattle.std.proofs.Common.{zero, suc, ◌≡◌, ℕ, ◌+◌, ◌<◌, ◌==◌, ◌||◌, Bool, true, false, List, [], ◌∷◌, ◌++◌, length, take, get_or, Result, Ok, Err, OnOk, refl, sym, ◌∙◌, ap}
use Rattle.std.specs.List.{All, list_any}
use Rattle.std.proofs.lemmas.List.{append-nil, append_assoc}
use Rattle.std.proofs.lemmas.List.Elements.{All-append, All-cons, All-nil}
use Rattle.std.proofs.lemmas.List.Folds.{list_any-append, list_any_more}
use Rattle.fof_terms.specs.Standing.{is_listed, AppendsOnly, GainsOnly}

or_false : (a : Bool) → a || false ≡ a
or_false true = refl
or_false false = refl

or_true : (a : Bool) → a || true ≡ true
or_true true = refl
or_true false = refl

or_assoc : (a b c : Bool) → (a || b) || c ≡ a || (b || c)
or_assoc true b c = refl
or_assoc false b c = refl

-- nothing is gained where nothing stands
pub gains_none : (stands : ℕ → Bool) (xs : List ℕ) → ((symbol : ℕ) → stands symbol ≡ false) → GainsOnly xs stands xs
gains_none stands xs none = record { gained = λ symbol. sym (ap (λ b. is_listed xs symbol || b) (none symbol) ∙ or_false (is_listed xs symbol)) }

-- one symbol is gained
pub gains_one : (xs : List ℕ) (s : ℕ) → GainsOnly xs (λ symbol. s == symbol) (xs ++ s ∷ [])
gains_one xs s = record { gained = λ symbol. list_any-append (λ x. x == symbol) xs (s ∷ []) ∙ ap (λ b. is_listed xs symbol || b) (or_false (s == symbol)) }

-- the same test by another name
pub gains_as : (f h : ℕ → Bool) (xs ys : List ℕ) → ((symbol : ℕ) → h symbol ≡ f symbol) → GainsOnly xs f ys → GainsOnly xs h ys
gains_as f h xs ys same g = record { gained = λ symbol. g.gained symbol ∙ ap (λ b. is_listed xs symbol || b) (sym (same symbol)) }

-- what one part gains, and then what another gains
pub gains_both : (f g h : ℕ → Bool) (xs ys zs : List ℕ) → ((symbol : ℕ) → h symbol ≡ (f symbol || g symbol)) → GainsOnly xs f ys → GainsOnly ys g zs → GainsOnly xs h zs
gains_both f g h xs ys zs both a b = record {
  gained = λ symbol.
      b.gained symbol
      ∙ (ap (λ c. c || g symbol) (a.gained symbol) ∙ (or_assoc (is_listed xs symbol) (f symbol) (g symbol) ∙ ap (λ c. is_listed xs symbol || c) (sym (both symbol))));
}

-- the first members of a list, and one more
pub gains_more : {X : Type 0} (stands : ℕ → X → Bool) (members : List X) (i : ℕ) (x : X) (xs ys zs : List ℕ) → i < length members → x ≡ get_or members i x
    → GainsOnly xs (λ symbol. list_any (stands symbol) (take i members)) ys → GainsOnly ys (λ symbol. stands symbol x) zs
    → GainsOnly xs (λ symbol. list_any (stands symbol) (take (i + 1) members)) zs
gains_more stands members i x xs ys zs lt is a b =
    gains_both (λ symbol. list_any (stands symbol) (take i members)) (λ symbol. stands symbol x) (λ symbol. list_any (stands symbol) (take (i + 1) members)) xs ys zs
    (λ symbol. list_any_more (stands symbol) members i x lt ∙ ap (λ y. list_any (stands symbol) (take i members) || stands symbol y) (sym is)) a b

-- what follows from what holds after an answer
pub on_ok : {X E : Type 0} {P Q : Type 0} (r : Result X E) → (P → Q) → OnOk r P → OnOk r Q
on_ok (Ok x) f p = f p
on_ok (Err e) f p = p

-- ---- what is appended

-- nothing
pub appends_none : (stands : ℕ → Bool) (xs : List ℕ) → AppendsOnly xs stands xs
appends_none stands xs = record { added = []; appended = sym (append-nil xs); standing = All-nil (λ symbol. stands symbol ≡ true) }

-- what stands in a part stands in the whole
all_wider : (f h : ℕ → Bool) (xs : List ℕ) → ((symbol : ℕ) → f symbol ≡ true → h symbol ≡ true) → All (λ symbol. f symbol ≡ true) xs → All (λ symbol. h symbol ≡ true) xs
all_wider f h xs wider all = λ k d lt. wider (get_or xs k d) (all k d lt)

pub appends_as : (f h : ℕ → Bool) (xs ys : List ℕ) → ((symbol : ℕ) → f symbol ≡ true → h symbol ≡ true) → AppendsOnly xs f ys → AppendsOnly xs h ys
appends_as f h xs ys wider a = record { added = a.added; appended = a.appended; standing = all_wider f h a.added wider a.standing }

-- one part after another
pub appends_both : (f g h : ℕ → Bool) (xs ys zs : List ℕ) → ((symbol : ℕ) → f symbol ≡ true → h symbol ≡ true) → ((symbol : ℕ) → g symbol ≡ true → h symbol ≡ true) → AppendsOnly xs f ys → AppendsOnly ys g zs → AppendsOnly xs h zs
appends_both f g h xs ys zs left right a b = record {
  added = a.added ++ b.added;
  appended = b.appended ∙ (ap (λ l. l ++ b.added) a.appended ∙ append_assoc xs a.added b.added);
  standing = All-append (λ symbol. h symbol ≡ true) a.added b.added (all_wider f h a.added left a.standing) (all_wider g h b.added right b.standing);
}

-- the head of a node, and then what stands below it
pub appends_head : (f h : ℕ → Bool) (xs ys zs : List ℕ) (s : ℕ) → h s ≡ true → ((symbol : ℕ) → f symbol ≡ true → h symbol ≡ true) → ys ≡ xs ++ s ∷ [] → AppendsOnly ys f zs → AppendsOnly xs h zs
appends_head f h xs ys zs s stood wider head below = record {
  added = s ∷ below.added;
  appended = below.appended ∙ (ap (λ l. l ++ below.added) head ∙ append_assoc xs (s ∷ []) below.added);
  standing = All-cons (λ symbol. h symbol ≡ true) s below.added stood (all_wider f h below.added wider below.standing);
}

-- the first members of a list, and one more
pub appends_more : {X : Type 0} (stands : ℕ → X → Bool) (members : List X) (i : ℕ) (x : X) (xs ys zs : List ℕ) → i < length members → x ≡ get_or members i x
    → AppendsOnly xs (λ symbol. list_any (stands symbol) (take i members)) ys → AppendsOnly ys (λ symbol. stands symbol x) zs
    → AppendsOnly xs (λ symbol. list_any (stands symbol) (take (i + 1) members)) zs
appends_more stands members i x xs ys zs lt is a b =
    appends_both (λ symbol. list_any (stands symbol) (take i members)) (λ symbol. stands symbol x) (λ symbol. list_any (stands symbol) (take (i + 1) members)) xs ys zs
    (λ symbol e. list_any_more (stands symbol) members i x lt ∙ ap (λ b. b || stands symbol (get_or members i x)) e)
    (λ symbol e. list_any_more (stands symbol) members i x lt ∙ (ap (λ b. list_any (stands symbol) (take i members) || b) (sym (ap (stands symbol) is) ∙ e) ∙ or_true (list_any (stands symbol) (take i members))))
    a b

or_wider : (a b c : Bool) → (b ≡ true → c ≡ true) → a || b ≡ true → a || c ≡ true
or_wider true b c wider e = refl
or_wider false b c wider e = wider e

-- what stands in one of the first members stands in one of all
any_taken : {X : Type 0} (p : X → Bool) (k : ℕ) (members : List X) → list_any p (take k members) ≡ true → list_any p members ≡ true
any_taken p zero [] e = e
any_taken p zero (x ∷ members) e = cc
any_taken p (suc k) [] e = e
any_taken p (suc k) (x ∷ members) e = or_wider (p x) (list_any p (take k members)) (list_any p members) (any_taken p k members) e

pub appends_within : {X : Type 0} (stands : ℕ → X → Bool) (members : List X) (i : ℕ) (x : X) (xs ys zs : List ℕ) → i < length members → x ≡ get_or members i x
    → AppendsOnly xs (λ symbol. list_any (stands symbol) (take i members)) ys → AppendsOnly ys (λ symbol. stands symbol x) zs
    → AppendsOnly xs (λ symbol. list_any (stands symbol) members) zs
appends_within stands members i x xs ys zs lt is a b =
    appends_as (λ symbol. list_any (stands symbol) (take (i + 1) members)) (λ symbol. list_any (stands symbol) members) xs zs (λ symbol. any_taken (stands symbol) (i + 1) members) (appends_more stands members i x xs ys zs lt is a b)
