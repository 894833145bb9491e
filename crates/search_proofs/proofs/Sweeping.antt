-- Marks that go back from member to member.
use Rattle.std.specs.Prelude.{ℕ, Bool, true, false, ◌≡◌, ◌+◌, ◌-◌, ◌<◌, ◌≤◌, ◌⊎◌, List, [], ◌∷◌, ◌++◌, length, Some, slice_get, slice_set, refl}
use Rattle.std.proofs.Common.{sym, ap, subst, ◌∙◌, arith, zero, suc, inl, inr, take, get_or}
use Rattle.std.proofs.lemmas.Bool.{cases_eq}
use Rattle.std.proofs.lemmas.Option.{slice_get_within, slice_get-get_or}
use Rattle.fof_terms.specs.Vocabulary.{Vocabulary}
use Rattle.fof_terms.specs.declared.term.Term.{Term}
use Rattle.clause_form.specs.declared.clause.Clause.{Clause}
use Rattle.saturation.specs.Members.{clauses_of}
use Rattle.saturation.specs.Origins.{Makes, IsMade, AreMade}
use Rattle.saturation.specs.declared.member.Member.{Member}
use Rattle.saturation.specs.declared.member.Origin.{Origin}
use Rattle.saturation.specs.declared.member.Origin.TheVariants.{Input, Inferred}
use Rattle.search_proofs.specs.code.Derived.{AreDerived, Derives, IsDerived}
use Rattle.search_proofs.specs.Needed.{Names, IsMarked, IsNamed, AreNeeded}
use Rattle.search_proofs.specs.code.Naming.{NameEarlier, NamesBelow}
use Rattle.search_proofs.specs.code.Marks.{IsSweptFrom, IsUnmarked, Marks, Passes}

pub set_count : (xs : List Bool) (i : ℕ) → length (slice_set xs i true) ≡ length xs
set_count [] i = refl
set_count (x ∷ xs) zero = refl
set_count (x ∷ xs) (suc i) = ap suc (set_count xs i)

pub set_here : (xs : List Bool) (i : ℕ) → i < length xs → IsMarked (slice_set xs i true) i
set_here [] i lt = absurd (omega arith)
set_here (x ∷ xs) zero lt = refl
set_here (x ∷ xs) (suc i) lt = set_here xs i (omega arith)

set_other : (xs : List Bool) (i k : ℕ) → (k ≡ i → ⊥) → slice_get (slice_set xs i true) k ≡ slice_get xs k
set_other [] i k e = refl
set_other (x ∷ xs) zero zero e = absurd (e refl)
set_other (x ∷ xs) zero (suc k) e = refl
set_other (x ∷ xs) (suc i) zero e = refl
set_other (x ∷ xs) (suc i) (suc k) e = set_other xs i k (λ same. e (ap suc same))

pub set_keeps : (xs : List Bool) (i k : ℕ) → IsMarked xs k → IsMarked (slice_set xs i true) k
set_keeps xs i k at =
    elim (cases_eq k i) [
      | inl e ↦ subst (λ n. IsMarked (slice_set xs i true) n) (sym e) (set_here xs i (subst (λ n. n < length xs) e (slice_get_within xs k true at)))
      | inr e ↦ set_other xs i k e ∙ at
    ]

set_only : (xs : List Bool) (i k : ℕ) → IsMarked (slice_set xs i true) k → IsMarked xs k ⊎ (k ≡ i)
set_only xs i k at = elim (cases_eq k i) [ inl e ↦ inr e | inr e ↦ inl (sym (set_other xs i k e) ∙ at) ]

pub marks_none : (n : ℕ) (old : List Bool) → Marks (Input n) old old
marks_none n old = record { count = refl; named = λ i e. absurd e; kept = λ i m. m; only = λ i m. inl m }

pub marks_both : (a b : ℕ) (images : List Term) (old : List Bool) → a < length old → b < length old → Marks (Inferred a b images) old (slice_set (slice_set old a true) b true)
marks_both a b images old la lb =
    let mid = slice_set old a true in
    let count : length mid ≡ length old = set_count old a in
    record {
      count = set_count mid b ∙ count;
      named = λ i e.
          elim e [
            | inl x ↦ subst (λ n. IsMarked (slice_set mid b true) n) (sym x) (set_keeps mid b a (set_here old a la))
            | inr y ↦ subst (λ n. IsMarked (slice_set mid b true) n) (sym y) (set_here mid b (omega (arith, count)))
          ];
      kept = λ i m. set_keeps mid b i (set_keeps old a i m);
      only = λ i m.
          elim (set_only mid b i m) [
            | inl x ↦ elim (set_only old a i x) [ inl y ↦ inl y | inr y ↦ inr (inl y) ]
            | inr y ↦ inr (inr y)
          ];
    }

-- what is marked after so many members, the last first, where these were marked at first
pub record IsSwept (members : List Member) (first : List Bool) (k : ℕ) (marks : List Bool) : Type 0 where
  pub count : length marks ≡ length first
  pub kept : (i : ℕ) → IsMarked first i → IsMarked marks i
  pub of_each : (j : ℕ) (m : Member) (i : ℕ) → length members ≤ j + k → slice_get members j ≡ Some m → IsMarked marks j → Names m.origin i → IsMarked marks i
  pub only : (i : ℕ) → IsMarked marks i → IsMarked first i ⊎ IsNamed members marks i

pub unmarked_none : (marks : List Bool) → marks ≡ [] → IsUnmarked 0 marks
unmarked_none marks e = record {
  count = ap (λ (bs : List Bool). length bs) e;
  none = λ i m. let none : slice_get [] i ≡ Some true = ap (λ (bs : List Bool). slice_get bs i) (sym e) ∙ m in cc;
}

one_longer : (xs : List Bool) (b : Bool) → length (xs ++ b ∷ []) ≡ length xs + 1
one_longer [] b = refl
one_longer (x ∷ xs) b = let rest = one_longer xs b in omega arith

not_more : (xs : List Bool) → ((i : ℕ) → IsMarked xs i → ⊥) → (i : ℕ) → IsMarked (xs ++ false ∷ []) i → ⊥
not_more [] none zero m = cc
not_more [] none (suc i) m = cc
not_more (x ∷ xs) none zero m = none zero m
not_more (x ∷ xs) none (suc i) m = not_more xs (λ j at. none (suc j) at) i m

pub unmarked_more : (n : ℕ) (marks more : List Bool) → IsUnmarked n marks → more ≡ marks ++ false ∷ [] → IsUnmarked (n + 1) more
unmarked_more n marks more u e = record {
  count = ap (λ (bs : List Bool). length bs) e ∙ one_longer marks false ∙ ap (λ k. k + 1) u.count;
  none = λ i m. not_more marks u.none i (subst (λ (bs : List Bool). IsMarked bs i) e m);
}

pub swept_none : (members : List Member) (first : List Bool) → length first ≡ length members → IsSwept members first 0 first
swept_none members first many = record {
  count = refl;
  kept = λ i marked. marked;
  of_each = λ j x i le at marked names. let lt = slice_get_within members j x at in absurd (omega arith);
  only = λ i marked. inl marked;
}

still_named : (members : List Member) (old new : List Bool) (i : ℕ) → ((k : ℕ) → IsMarked old k → IsMarked new k) → IsNamed members old i → IsNamed members new i
still_named members old new i kept n = record { by = n.by; member = n.member; there = n.there; marked = kept n.by n.marked; names = n.names }

same_member : (members : List Member) (j at : ℕ) (x m : Member) → j ≡ at → slice_get members j ≡ Some x → slice_get members at ≡ Some m → x ≡ m
same_member members j at x m e there here = let both : Some x ≡ Some m = sym there ∙ ap (slice_get members) e ∙ here in cc

module _ (members : List Member) (first : List Bool) (k at : ℕ) (m : Member) (old new : List Bool) (place : at + (k + 1) ≡ length members) (here : slice_get members at ≡ Some m) (below : NamesBelow at m.origin) (s : IsSwept members first k old) where
  swept_marked : IsMarked old at → Marks m.origin old new → IsSwept members first (k + 1) new
  swept_marked marked marks = record {
    count = marks.count ∙ s.count;
    kept = λ i was. marks.kept i (s.kept i was);
    of_each = λ j x i le there is names.
        elim (cases_eq j at) [
          | inl e ↦ marks.named i (subst (λ (y : Member). Names y.origin i) (same_member members j at x m e there here) names)
          | inr e ↦ elim (marks.only j is) [
            | inl was ↦ marks.kept i (s.of_each j x i (omega arith) there was names)
            | inr named ↦ let lt = below j named in absurd (omega arith)
          ]
        ];
    only = λ i is.
        elim (marks.only i is) [
          | inl was ↦ elim (s.only i was) [ inl y ↦ inl y | inr y ↦ inr (still_named members old new i marks.kept y) ]
          | inr named ↦ inr (record { by = at; member = m; there = here; marked = marks.kept at marked; names = named })
        ];
  }

  swept_unmarked : (IsMarked old at → ⊥) → new ≡ old → IsSwept members first (k + 1) new
  swept_unmarked none same =
      subst (λ (marks : List Bool). IsSwept members first (k + 1) marks) (sym same)
      (record {
        count = s.count;
        kept = s.kept;
        of_each = λ j x i le there is names.
            elim (cases_eq j at) [
              | inl e ↦ absurd (none (subst (λ n. IsMarked old n) e is))
              | inr e ↦ s.of_each j x i (omega arith) there is names
            ];
        only = s.only;
      })

  pub swept_more : Passes at m.origin old new → ((b : Bool) → slice_get old at ≡ Some b → IsSwept members first (k + 1) new)
  swept_more p true is = swept_marked is (p.marks is)
  swept_more p false is = swept_unmarked (λ marked. let both : Some false ≡ Some true = sym is ∙ marked in cc) (p.same (λ marked. let both : Some false ≡ Some true = sym is ∙ marked in cc))

pub swept_all : (members : List Member) (first : List Bool) (k : ℕ) (marks : List Bool) → length members ≤ k → IsSwept members first k marks → IsSweptFrom members first marks
swept_all members first k marks le s = record {
  count = s.count;
  kept = s.kept;
  of_each = λ i n. s.of_each n.by n.member i (omega arith) n.there n.marked n.names;
  only = s.only;
}

-- from what the last member's origin names
pub needed_swept : (members : List Member) (last : Member) (none first marks : List Bool) → IsUnmarked (length members) none → Marks last.origin none first → IsSweptFrom members first marks → AreNeeded members last marks
needed_swept members last none first marks u m s = record {
  count = s.count ∙ (m.count ∙ u.count);
  of_last = λ i names. s.kept i (m.named i names);
  of_each = s.of_each;
  only = λ i marked.
      elim (s.only i marked) [
        | inl was ↦ elim (m.only i was) [ inl y ↦ absurd (u.none i y) | inr y ↦ inl y ]
        | inr y ↦ inr y
      ];
}

-- what a made member's origin names
pub origin_names : (v : Vocabulary) (inputs list : List Clause) (e : Clause) (o : Origin) → Makes v inputs list e o → NamesBelow (length list) o
origin_names v inputs list e (Input n) w i names = absurd names
origin_names v inputs list e (Inferred a b images) (inl two) i (inl x) = subst (λ n. n < length list) (sym x) (slice_get_within list a two.first two.first_at)
origin_names v inputs list e (Inferred a b images) (inl two) i (inr y) = subst (λ n. n < length list) (sym y) (slice_get_within list b two.second two.second_at)
origin_names v inputs list e (Inferred a b images) (inr one) i (inl x) = subst (λ n. n < length list) (sym x) (slice_get_within list a one.premise one.premise_at)
origin_names v inputs list e (Inferred a b images) (inr one) i (inr y) =
    subst (λ n. n < length list) (one.twice ∙ sym y) (slice_get_within list a one.premise one.premise_at)

-- what the origin of a member names that follows by a rule
pub derived_names : (v : Vocabulary) (inputs list : List Clause) (e : Clause) (o : Origin) → Derives v inputs list e o → NamesBelow (length list) o
derived_names v inputs list e (Input n) d i names = absurd names
derived_names v inputs list e (Inferred a b images) d i (inl x) = subst (λ n. n < length list) (sym x) (slice_get_within list a d.first d.first_at)
derived_names v inputs list e (Inferred a b images) d i (inr y) = subst (λ n. n < length list) (sym y) (slice_get_within list b d.second d.second_at)

pub count_of : (list : List Member) → length (clauses_of list) ≡ length list
count_of [] = refl
count_of (m ∷ list) = ap suc (count_of list)

front_count : (list : List Member) (j : ℕ) → length (take j list) ≤ j
front_count list zero = omega arith
front_count [] (suc j) = omega arith
front_count (m ∷ list) (suc j) = omega (arith, front_count list j)

last_of : (list : List Member) (o : Origin) → NamesBelow (length (clauses_of list)) o → NamesBelow (length list) o
last_of list o below i names = let lt = below i names in omega (arith, count_of list)

each_of : (list : List Member) → ((j : ℕ) (m : Member) → slice_get list j ≡ Some m → NamesBelow (length (clauses_of (take j list))) m.origin) → NameEarlier list
each_of list below j m at i names =
    let lt = below j m at i names in
    omega (arith, count_of (take j list), front_count list j)

pub last_names : (v : Vocabulary) (inputs : List Clause) (list : List Member) (m : Member) → IsMade v inputs (clauses_of list) m → NamesBelow (length list) m.origin
last_names v inputs list m made = last_of list m.origin (origin_names v inputs (clauses_of list) m.clause m.origin made)

pub each_names : (v : Vocabulary) (inputs : List Clause) (list : List Member) → AreMade v inputs list → NameEarlier list
each_names v inputs list made = each_of list (λ j m at. origin_names v inputs (clauses_of (take j list)) m.clause m.origin (made j m at))

pub last_derived_names : (v : Vocabulary) (inputs : List Clause) (list : List Member) (m : Member) → IsDerived v inputs (clauses_of list) m → NamesBelow (length list) m.origin
last_derived_names v inputs list m derived = last_of list m.origin (derived_names v inputs (clauses_of list) m.clause m.origin derived)

pub each_derived_names : (v : Vocabulary) (inputs : List Clause) (list : List Member) → AreDerived v inputs list → NameEarlier list
each_derived_names v inputs list derived = each_of list (λ j m at. derived_names v inputs (clauses_of (take j list)) m.clause m.origin (derived j m at))

-- at the places of the loop
member_there : (members : List Member) (at : ℕ) (m : Member) → at < length members → m ≡ get_or members at m → slice_get members at ≡ Some m
member_there members at m lt is = slice_get-get_or members at m lt ∙ ap Some (sym is)

pub last_below : (members : List Member) (last : Member) (old : List Bool) → IsUnmarked (length members) old → NamesBelow (length members) last.origin → NamesBelow (length old) last.origin
last_below members last old none below i names = let lt = below i names in omega (arith, none.count)

pub place_below : (members : List Member) (first : List Bool) → length first ≡ length members → (k at : ℕ) (m : Member) (marks : List Bool) → NameEarlier members → k < length members → at ≡ length members - 1 - k → m ≡ get_or members at m
    → IsSwept members first k marks → NamesBelow (length marks) (get_or members at m).origin
place_below members first many k at m marks earlier lt place is s =
    subst (λ (y : Member). NamesBelow (length marks) y.origin) is
    (λ i names. let below = earlier at m (member_there members at m (omega arith) is) i names in omega (arith, s.count, many))

pub swept_step : (members : List Member) (first : List Bool) → length first ≡ length members → (k at : ℕ) (m : Member) (old new : List Bool) → NameEarlier members → k < length members → at ≡ length members - 1 - k → m ≡ get_or members at m
    → IsSwept members first k old → Passes at (get_or members at m).origin old new → IsSwept members first (k + 1) new
swept_step members first many k at m old new earlier lt place is s p =
    let there = member_there members at m (omega arith) is in
    let own : Passes at m.origin old new = subst (λ (y : Member). Passes at y.origin old new) (sym is) p in
    swept_more members first k at m old new (omega arith) there (earlier at m there) s own (get_or old at false) (slice_get-get_or old at false (omega (arith, s.count, many)))

-- what an inference's origin names
pub first_within : (o : Origin) (a b : ℕ) (images : List Term) (n : ℕ) → o ≡ Inferred a b images → NamesBelow n o → a < n
first_within o a b images n e below = below a (subst (λ (x : Origin). Names x a) (sym e) (inl refl))

pub second_within : (o : Origin) (a b : ℕ) (images : List Term) (old mid : List Bool) → o ≡ Inferred a b images → NamesBelow (length old) o → mid ≡ slice_set old a true → b < length mid
second_within o a b images old mid e below is =
    let lt = below b (subst (λ (x : Origin). Names x b) (sym e) (inr refl)) in
    omega (arith, ap (λ (bs : List Bool). length bs) is, set_count old a)

pub marks_named : (o : Origin) (a b : ℕ) (images : List Term) (old mid new : List Bool) → o ≡ Inferred a b images → NamesBelow (length old) o → mid ≡ slice_set old a true → new ≡ slice_set mid b true → Marks o old new
marks_named o a b images old mid new e below is is' =
    let lt = below b (subst (λ (x : Origin). Names x b) (sym e) (inr refl)) in
    let whole : new ≡ slice_set (slice_set old a true) b true = is' ∙ ap (λ (bs : List Bool). slice_set bs b true) is in
    subst (λ (x : Origin). Marks x old new) (sym e) (subst (λ (bs : List Bool). Marks (Inferred a b images) old bs) (sym whole) (marks_both a b images old (first_within o a b images (length old) e below) lt))

pub marks_nothing : (o : Origin) (n : ℕ) (old new : List Bool) → o ≡ Input n → new ≡ old → Marks o old new
marks_nothing o n old new e same = subst (λ (x : Origin). Marks x old new) (sym e) (subst (λ (bs : List Bool). Marks (Input n) old bs) (sym same) (marks_none n old))
