-- What marked elements give, which part a clause is of, where a symbol stands in a clause, and the functions of a search.
use Rattle.std.specs.Prelude.{ℕ, zero, suc, ◌≡◌, ◌+◌, ◌-◌, ◌<◌, ◌≤◌, ◌⊎◌, ◌||◌, ◌==◌, Bool, true, false, if◌then◌else◌, List, [], ◌∷◌, ◌++◌, length, map, get_or, replicate, Some, slice_get, refl}
use Rattle.std.specs.List.{AllByRecursion, list_any, range_with_len}
use Rattle.std.proofs.Common.{ap, sym, ◌∙◌, arith, inl, inr}
use Rattle.std.proofs.lemmas.List.{append_assoc, length-append, length-replicate, map-append, get_or_append_left, get_or-append-add}
use Rattle.std.proofs.lemmas.List.Elements.{All-from_recursion, recursion_from_All}
use Rattle.fof_terms.specs.declared.signature.Kind.TheVariants.{Function}
use Rattle.fof_terms.specs.declared.signature.Symbol.{Symbol}
use Rattle.fof_terms.specs.declared.form.Form.{Form}
use Rattle.fof_terms.specs.Occurs.{occurs_in_term}
use Rattle.fof_terms.proofs.LiftingLaws.{below_or_above}
use Rattle.clause_form.specs.declared.clause.AtomOf.{AtomOf}
use Rattle.clause_form.specs.declared.clause.AtomOf.TheVariants.{Pred, Eq, True, False}
use Rattle.clause_form.specs.declared.clause.Lit.{Lit}
use Rattle.clause_form.specs.declared.clause.Clause.{Clause}
use Rattle.clause_form.specs.Norm.{norm_of}
use Rattle.clause_form.specs.Sizes.{clause_count_of}
use Rattle.clause_rules.specs.Places.{args_of_atom}
use Rattle.sort_check.specs.declared.line.GivenEntry.{GivenEntry}
use Rattle.superpose.specs.Absent.{stands_in_atom, AreWithout}
use Rattle.step_clauses.specs.Existentials.{existentials}
use Rattle.step_clauses.specs.Inputs.{new_symbols_from, next_behind}
use Rattle.step_clauses.specs.Skolems.{skolems_from, skolems_of}
use Rattle.step_clauses.specs.declared.existentials.Existential.{Existential}
use Rattle.step_clauses.specs.declared.skolems.Skolem.{Skolem}
use Rattle.step_search.proofs.Inputs.{neither}
use Rattle.printed_steps.specs.Carried.{has_function, is_headed_by}
use Rattle.printed_steps.proofs.Terms.{either}
use Rattle.given_parts.specs.Chosen.{chosen_from}
use Rattle.given_parts.specs.Owners.{owners_from}
use Rattle.given_parts.specs.Parts.{parts_of}
use Rattle.derivation_sentences.proofs.Linked.{symbols_in}
use Rattle.derivation_sentences.proofs.Owned.{in_either}

-- ---- what is chosen

with_true : (b : Bool) → (b || true) ≡ true
with_true true = refl
with_true false = refl

pub any_before : {X : Type 0} (p : X → Bool) (xs ys : List X) → list_any p xs ≡ true → list_any p (xs ++ ys) ≡ true
any_before p [] ys e = absurd (cc)
any_before p (x ∷ xs) ys e = elim (either (p x) (list_any p xs) e) [
  | inl h ↦ ap (λ (b : Bool). b || list_any p (xs ++ ys)) h
  | inr h ↦ ap (λ (b : Bool). p x || b) (any_before p xs ys h) ∙ with_true (p x)
]

any_behind : {X : Type 0} (p : X → Bool) (xs ys : List X) → list_any p ys ≡ true → list_any p (xs ++ ys) ≡ true
any_behind p [] ys e = e
any_behind p (x ∷ xs) ys e = ap (λ (b : Bool). p x || b) (any_behind p xs ys e) ∙ with_true (p x)

-- an element that a marked one gives is chosen
pub any_chosen : {X Y : Type 0} (p : Y → Bool) (give : ℕ → X → List Y) (k : ℕ) (marks : List Bool) (xs : List X) (i : ℕ) (x : X) → slice_get marks i ≡ Some true → slice_get xs i ≡ Some x → list_any p (give (k + i) x) ≡ true → list_any p (chosen_from k give marks xs) ≡ true
any_chosen p give k [] xs i x marked at e = absurd (cc)
any_chosen p give k (b ∷ marks) [] i x marked at e = absurd (cc)
any_chosen {X} p give k (b ∷ marks) (y ∷ xs) zero x marked at e =
    let is : b ≡ true = cc in
    let same : y ≡ x = cc in
    let number : k ≡ k + 0 = omega arith in
    let here : list_any p (give k y) ≡ true = ap (λ (z : X). list_any p (give k z)) same ∙ ap (λ (n : ℕ). list_any p (give n x)) number ∙ e in
    any_before p (if b then give k y else []) (chosen_from (k + 1) give marks xs) (ap (λ (c : Bool). list_any p (if c then give k y else [])) is ∙ here)
any_chosen p give k (b ∷ marks) (y ∷ xs) (suc i) x marked at e =
    let number : k + 1 + i ≡ k + suc i = omega arith in
    any_behind p (if b then give k y else []) (chosen_from (k + 1) give marks xs) (any_chosen p give (k + 1) marks xs i x marked at (ap (λ (n : ℕ). list_any p (give n x)) number ∙ e))

-- the mark of a number
mark_at : (passes : ℕ → Bool) (k n i : ℕ) → i < n → slice_get (map passes (range_with_len k n)) i ≡ Some (passes (k + i))
mark_at passes k zero i lt = absurd (omega arith)
mark_at passes k (suc n) zero lt = let same : k ≡ k + 0 = omega arith in ap (λ (m : ℕ). Some (passes m)) same
mark_at passes k (suc n) (suc i) lt = let same : k + 1 + i ≡ k + suc i = omega arith in mark_at passes (k + 1) n i (omega arith) ∙ ap (λ (m : ℕ). Some (passes m)) same

pub mark_of : (passes : ℕ → Bool) (n i : ℕ) → i < n → slice_get (map passes (range_with_len 0 n)) i ≡ Some (passes i)
mark_of passes n i lt = let same : 0 + i ≡ i = omega arith in mark_at passes 0 n i lt ∙ ap (λ (m : ℕ). Some (passes m)) same

-- ---- where a symbol stands

stands_or : (f : ℕ) (a : AtomOf) → stands_in_atom f a ≡ true → (list_any (occurs_in_term f) (args_of_atom a) ≡ true) ⊎ (is_headed_by f a ≡ true)
stands_or f (Pred p ts) e = elim (either (p == f) (list_any (occurs_in_term f) ts) e) [
  | inl h ↦ inr h
  | inr h ↦ inl h
]
stands_or f (Eq l r) e = elim (either (occurs_in_term f l) (occurs_in_term f r) e) [
  | inl h ↦ inl (ap (λ (b : Bool). b || (occurs_in_term f r || false)) h)
  | inr h ↦ inl (ap (λ (b : Bool). occurs_in_term f l || (b || false)) h ∙ with_true (occurs_in_term f l))
]
stands_or f True e = absurd (cc)
stands_or f False e = absurd (cc)

abbrev pub stands : ℕ → List Lit → Bool
stands f lits = list_any (λ (l : Lit). stands_in_atom f l.atom) lits

abbrev headed : ℕ → List Lit → Bool
headed f lits = list_any (λ (l : Lit). is_headed_by f l.atom) lits

pub stands_as : (f : ℕ) (lits : List Lit) → stands f lits ≡ true → (has_function lits f ≡ true) ⊎ (headed f lits ≡ true)
stands_as f [] e = absurd (cc)
stands_as f (l ∷ lits) e = elim (either (stands_in_atom f l.atom) (stands f lits) e) [
  | inl h ↦ elim (stands_or f l.atom h) [
    | inl k ↦ inl (ap (λ (b : Bool). b || has_function lits f) k)
    | inr k ↦ inr (ap (λ (b : Bool). b || headed f lits) k)
  ]
  | inr h ↦ elim (stands_as f lits h) [
    | inl k ↦ inl (ap (λ (b : Bool). list_any (occurs_in_term f) (args_of_atom l.atom) || b) k ∙ with_true (list_any (occurs_in_term f) (args_of_atom l.atom)))
    | inr k ↦ inr (ap (λ (b : Bool). is_headed_by f l.atom || b) k ∙ with_true (is_headed_by f l.atom))
  ]
]

not_there : (f : ℕ) (lits : List Lit) → stands f lits ≡ false → AllByRecursion (λ (l : Lit). stands_in_atom f l.atom ≡ false) lits
not_there f [] e = tt
not_there f (l ∷ lits) e = let parts = neither (stands_in_atom f l.atom) (stands f lits) e in (parts.0, not_there f lits parts.1)

pub without : (f : ℕ) (lits : List Lit) → stands f lits ≡ false → AreWithout f lits
without f lits e = All-from_recursion (λ (l : Lit). stands_in_atom f l.atom ≡ false) lits (not_there f lits e)

-- a function of a clause without it
no_function : (f : ℕ) (a : AtomOf) → stands_in_atom f a ≡ false → list_any (occurs_in_term f) (args_of_atom a) ≡ false
no_function f (Pred p ts) e = (neither (p == f) (list_any (occurs_in_term f) ts) e).1
no_function f (Eq l r) e =
    let parts = neither (occurs_in_term f l) (occurs_in_term f r) e in
    ap (λ (b : Bool). b || (occurs_in_term f r || false)) parts.0 ∙ ap (λ (b : Bool). b || false) parts.1
no_function f True e = refl
no_function f False e = refl

none_of : (f : ℕ) (lits : List Lit) → AllByRecursion (λ (l : Lit). stands_in_atom f l.atom ≡ false) lits → has_function lits f ≡ false
none_of f [] all = refl
none_of f (l ∷ lits) all = ap (λ (b : Bool). b || has_function lits f) (no_function f l.atom all.0) ∙ none_of f lits all.1

pub no_without : (f : ℕ) (c : Clause) → has_function c.lits f ≡ true → AreWithout f c.lits → ⊥
no_without f c e lacks =
    let wrong : true ≡ false = sym e ∙ none_of f c.lits (recursion_from_All (λ (l : Lit). stands_in_atom f l.atom ≡ false) c.lits lacks) in
    absurd (cc)

-- ---- functions of the search

pub symbols_front : (next : ℕ) (forms more : List Form) → (rest : List Symbol) × (symbols_in (new_symbols_from next (forms ++ more)) ≡ symbols_in (new_symbols_from next forms) ++ rest)
symbols_front next [] more = (symbols_in (new_symbols_from next more), refl)
symbols_front next (a ∷ forms) more =
    let later = symbols_front (next_behind next a) forms more in
    let mine = symbols_in (skolems_of (norm_of true a) next) in
    let behind = symbols_in (new_symbols_from (next_behind next a) forms) in
    let split : symbols_in (new_symbols_from next (a ∷ forms)) ≡ mine ++ behind = map-append (λ (s : Skolem). s.symbol) (skolems_of (norm_of true a) next) (new_symbols_from (next_behind next a) forms) in (
      later.0,
      map-append (λ (s : Skolem). s.symbol) (skolems_of (norm_of true a) next) (new_symbols_from (next_behind next a) (forms ++ more)) ∙ ap (λ (l : List Symbol). mine ++ l) later.1 ∙ sym (append_assoc mine behind later.0)
          ∙ ap (λ (l : List Symbol). l ++ later.0) (sym split),
    )

skolems_are : (k : ℕ) (es : List Existential) → AllByRecursion (λ (s : Skolem). s.symbol.kind ≡ Function) (skolems_from k es)
skolems_are k [] = tt
skolems_are k (e ∷ es) = (refl, skolems_are (k + 1) es)

pub all_skolems : (next : ℕ) (forms : List Form) (j : ℕ) (s : Symbol) → slice_get (symbols_in (new_symbols_from next forms)) j ≡ Some s → s.kind ≡ Function
all_skolems next [] j s at = absurd (cc)
all_skolems next (a ∷ forms) j s at =
    let mine = skolems_of (norm_of true a) next in
    let split = map-append (λ (k : Skolem). k.symbol) (skolems_of (norm_of true a) next) (new_symbols_from (next_behind next a) forms) in
    elim (in_either (symbols_in mine) (symbols_in (new_symbols_from (next_behind next a) forms)) j s (ap (λ (l : List Symbol). slice_get l j) (sym split) ∙ at)) [
      | inl h ↦ of_mapped mine j s (skolems_are next (existentials (norm_of true a))) h
      | inr h ↦ all_skolems (next_behind next a) forms h.0 s h.2
    ]
  where
    of_mapped : (ks : List Skolem) (i : ℕ) (t : Symbol) → AllByRecursion (λ (k : Skolem). k.symbol.kind ≡ Function) ks → slice_get (symbols_in ks) i ≡ Some t → t.kind ≡ Function
    of_mapped [] i t all at_i = absurd (cc)
    of_mapped (k ∷ ks) zero t all at_i = let same : k.symbol ≡ t = cc in ap (λ (x : Symbol). x.kind) (sym same) ∙ all.0
    of_mapped (k ∷ ks) (suc i) t all at_i = of_mapped ks i t all.1 at_i

one_owner : (n k i : ℕ) → i < n → get_or (replicate n k) i 0 ≡ k
one_owner zero k i lt = absurd (omega arith)
one_owner (suc n) k zero lt = refl
one_owner (suc n) k (suc i) lt = one_owner n k i (omega arith)

-- the number of a clause's part: the first part's, or one of those behind it
owner_split : (k : ℕ) (g : GivenEntry) (given : List GivenEntry) (i : ℕ) → i < length (owners_from k (parts_of (g ∷ given)))
    → (get_or (owners_from k (parts_of (g ∷ given))) i 0 ≡ k) ⊎ ((j : ℕ) × (j < length (owners_from (k + 1) (parts_of given))) × (get_or (owners_from k (parts_of (g ∷ given))) i 0 ≡ get_or (owners_from (k + 1) (parts_of given)) j 0))
owner_split k g given i inside =
    let n = clause_count_of (norm_of true g.form) in
    let others = owners_from (k + 1) (parts_of given) in
    let many = length-replicate (clause_count_of (norm_of true g.form)) k in
    let both = length-append (replicate (clause_count_of (norm_of true g.form)) k) (owners_from (k + 1) (parts_of given)) in
    elim (below_or_above i (clause_count_of (norm_of true g.form))) [
      | inl near ↦ inl (get_or_append_left (replicate n k) others 0 i (omega (arith, many, near)) ∙ one_owner (clause_count_of (norm_of true g.form)) k i near)
      | inr far ↦
          let place : i ≡ length (replicate n k) + (i - n) = omega (arith, many, far) in
          let behind : get_or (replicate n k ++ others) i 0 ≡ get_or others (i - n) 0 = ap (λ (m : ℕ). get_or (replicate n k ++ others) m 0) place ∙ get_or-append-add (replicate n k) others (i - n) 0 in
          inr (i - n, omega (arith, inside, many, both, far), behind)
    ]

-- an owner is the number of a part
owner_above : (k : ℕ) (given : List GivenEntry) (i o : ℕ) → i < length (owners_from k (parts_of given)) → get_or (owners_from k (parts_of given)) i 0 ≡ o → k ≤ o
owner_above k [] i o inside is = absurd (omega arith)
owner_above k (g ∷ given) i o inside is =
    elim (owner_split k g given i inside) [
      | inl own ↦ omega (arith, own, is)
      | inr later ↦ let above = owner_above (k + 1) given later.0 o later.1 (sym later.2 ∙ is) in omega (arith, above)
    ]

pub owner_below : (k : ℕ) (given : List GivenEntry) (i q : ℕ) → i < length (owners_from k (parts_of given)) → get_or (owners_from k (parts_of given)) i 0 ≡ k + q → q < length given
owner_below k [] i q inside is = absurd (omega arith)
owner_below k (g ∷ given) i q inside is =
    elim (owner_split k g given i inside) [
      | inl own ↦ omega (arith, own, is)
      | inr later ↦
          let least : k + 1 ≤ k + q = owner_above (k + 1) given later.0 (k + q) later.1 (sym later.2 ∙ is) in
          let first : 0 < q = omega (arith, least) in
          let below = owner_below (k + 1) given later.0 (q - 1) later.1 (sym later.2 ∙ is ∙ (omega arith)) in
          omega (arith, below, first)
    ]
