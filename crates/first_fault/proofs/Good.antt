-- Readers that are exact everywhere and find all that is derived.
--
-- A derivation is found where the next token behind it ends it: `E` says which tokens do.
use Rattle.std.proofs.Common.{◌≡◌, Bool, true, false, if◌then◌else◌, ℕ, ◌≤◌, ◌<◌, List, [], ◌∷◌, Option, Some, Ok, Err, inl, inr, refl, sym, ◌∙◌, ap, subst}
use Rattle.first_fault.specs.Nesting.{Nested, plain, here}
use Rattle.first_fault.proofs.NestingFacts.{done, before}
use Rattle.first_fault.specs.code.Reading.{Unexpected, TooDeep, Outcome, Reader, and_then, mapped, next, expect, closed, opened}
use Rattle.first_fault.specs.Rules.{Rule}
use Rattle.first_fault.proofs.Exact.{Exact, Inhabited, Can, exact_then, exact_map, exact_after, exact_stop, exact_deep, exact_token, exact_peek, mapped_same, by_next, by_end}
use Rattle.first_fault.proofs.Found.{Found, found_as, found_map, found_after, found_then}

pub record Good {T A : Type 0} (limit : ℕ) (p : Reader T A) (P : Rule T A) (E : Option T → Bool) : Type 0 where
  pub exact : (ts : List T) → Exact p P limit ts (p ts)
  pub found : (x : A) (ts rest : List (Nested T)) → P x ts rest → E (next (plain rest)) ≡ true → Found limit p x ts rest
  pub some : Inhabited P

-- the same, of lists that begin with one token
pub record GoodAt {T A : Type 0} (limit : ℕ) (t : T) (p : Reader T A) (P : Rule T A) (E : Option T → Bool) : Type 0 where
  pub exact : (ts : List T) → Exact p P limit (t ∷ ts) (p (t ∷ ts))
  pub found : (x : A) (ts rest : List (Nested T)) → P x ts rest → E (next (plain rest)) ≡ true → Found limit p x ts rest

-- what the second rule says of the value and the tokens behind the token
pub data After {T A B : Type 0} (t : T) (level : ℕ) (f : A → B) (Q : Rule T A) : B → List (Nested T) → List (Nested T) → Type 0 where
  after : {x : A} {ts rest : List (Nested T)} → Q x ts rest → After t level f Q (f x) ((t, level) ∷ ts) rest

-- one token alone
pub data Only {T A : Type 0} (t : T) (level : ℕ) (x : A) : A → List (Nested T) → List (Nested T) → Type 0 where
  only : {rest : List (Nested T)} → Only t level x x ((t, level) ∷ rest) rest

-- the same reader for a wider rule
pub widen : {T A : Type 0} (p : Reader T A) (P R : Rule T A) (limit : ℕ) → ((x : A) (ts rest : List (Nested T)) → P x ts rest → R x ts rest) → (ts : List T) (o : Outcome T A) → Exact p P limit ts o → Exact p R limit ts o
widen p P R limit join ts o h = subst (Exact p R limit ts) (mapped_same o) (exact_map p p P R limit (λ x. x) join (λ us. sym (mapped_same (p us))) ts o h)

-- a reader that answers as another does
pub alike : {T A : Type 0} (p q : Reader T A) (P R : Rule T A) (limit : ℕ) → ((us : List T) → p us ≡ q us) → ((x : A) (ts rest : List (Nested T)) → P x ts rest → R x ts rest) → (ts : List T) → Exact q P limit ts (q ts) → Exact p R limit ts (p ts)
alike p q P R limit same join ts h =
    subst (Exact p R limit ts) (mapped_same (q ts) ∙ sym (same ts)) (exact_map q p P R limit (λ x. x) join (λ us. same us ∙ sym (mapped_same (q us))) ts (q ts) h)

module _ {T A B : Type 0} (limit : ℕ) (t : T) (level : ℕ) (p : Reader T B) (f : A → B) (Q : Rule T A) (E : Option T → Bool) where
  found_behind : (q : Reader T A) → level ≤ limit → Good limit q Q E → ((us : List T) → p (t ∷ us) ≡ mapped f (q us))
      → (x : B) (ts rest : List (Nested T)) → After t level f Q x ts rest → E (next (plain rest)) ≡ true → Found limit p x ts rest
  found_behind q fits good same x ts rest (after {x = y} {ts = us} h) ends = found_after limit q p f y t level us rest fits (same (plain us)) (good.found y us rest h ends)

  -- a token within the limit, and then what another reader reads
  pub behind_token : (q : Reader T A) → level ≤ limit → Good limit q Q E → ((us : List T) → p (t ∷ us) ≡ mapped f (q us)) → GoodAt limit t p (After t level f Q) E
  behind_token q fits good same = record {
    exact = λ ts. subst (Exact p (After t level f Q) limit (t ∷ ts)) (sym (same ts)) (exact_after t p q Q (After t level f Q) limit level f fits (λ x us rest h. after h) same ts (q ts) (good.exact ts));
    found = found_behind q fits good same;
  }

  found_over : limit < level → ((us : List T) → p (t ∷ us) ≡ Err (TooDeep, t ∷ us)) → (x : B) (ts rest : List (Nested T)) → After t level f Q x ts rest → Found limit p x ts rest
  found_over deep same x ts rest (after {ts = us} h) = inr ((t, level) ∷ us, here deep, same (plain us))

  -- a token over the limit
  pub over_token : limit < level → Inhabited Q → ((us : List T) → p (t ∷ us) ≡ Err (TooDeep, t ∷ us)) → GoodAt limit t p (After t level f Q) E
  over_token deep some same = record {
    exact = λ ts. subst (Exact p (After t level f Q) limit (t ∷ ts)) (sym (same ts)) (exact_deep p (After t level f Q) limit t level ts (f some.value) some.text deep (λ rest. after (some.spells rest)) same);
    found = λ x ts rest h ends. found_over deep same x ts rest h;
  }

module _ {T B : Type 0} (limit : ℕ) (t : T) (level : ℕ) (p : Reader T B) (x : B) (E : Option T → Bool) (fits : level ≤ limit) (same : (us : List T) → p (t ∷ us) ≡ Ok (x, us)) where
  found_only : (y : B) (ts rest : List (Nested T)) → Only t level x y ts rest → Found limit p y ts rest
  found_only y ts rest only = inl (before fits done, same (plain rest))

  pub one_token : GoodAt limit t p (Only t level x) E
  one_token = record {
    exact = λ ts. subst (Exact p (Only t level x) limit (t ∷ ts)) (sym (same ts)) (exact_token p (Only t level x) limit t level x fits (λ rest. only) same ts);
    found = λ y ts rest h ends. found_only y ts rest h;
  }

-- where the mapping keeps the value
pub unmapped : {T A : Type 0} (o r : Outcome T A) → o ≡ r → o ≡ mapped (λ x. x) r
unmapped o r e = e ∙ sym (mapped_same r)

-- ---- one reader after another

-- the parts of a text of two rules
pub record Parts {T A B : Type 0} (P : Rule T A) (Q : A → Rule T B) (E : Option T → Bool) (v : B) (ts rest : List (Nested T)) : Type 0 where
  pub value : A
  pub mid : List (Nested T)
  pub first : P value ts mid
  pub second : Q value v mid rest
  pub ends : E (next (plain mid)) ≡ true

module _ {T A B : Type 0} (limit : ℕ) (p : Reader T A) (q : A → Reader T B) (P : Rule T A) (Q : A → Rule T B) (R : Rule T B) (E F : Option T → Bool) where
  pub good_then : Good limit p P E → ((x : A) → Can P x → Good limit (q x) (Q x) F)
      → ((x : A) (v : B) (ts mid rest : List (Nested T)) → P x ts mid → Q x v mid rest → R v ts rest)
      → ((v : B) (ts rest : List (Nested T)) → R v ts rest → F (next (plain rest)) ≡ true → Parts P Q E v ts rest)
      → Good limit (λ ts. and_then (p ts) q) R F
  good_then first second join split = record {
    exact = λ ts. exact_then p q P Q R limit join ts (p ts) (first.exact ts) (λ x can. (second x can).some) (λ x mid can. (second x can).exact mid);
    found = λ v ts rest h ends.
        let parts = split v ts rest h ends in
        let can : Can P parts.value = record { text = ts; after = parts.mid; spells = parts.first } in
        found_then limit p q parts.value v ts parts.mid rest (first.found parts.value ts parts.mid parts.first parts.ends) ((second parts.value can).found v parts.mid rest parts.second ends);
    some =
        let one = first.some in
        let two = (second one.value (record { text = one.text []; after = []; spells = one.spells [] })).some in
        record { value = two.value; text = λ after. one.text (two.text after); spells = λ after. join one.value two.value _ _ _ (one.spells (two.text after)) (two.spells after) };
  }

-- two rules in turn
pub data Both {T A B : Type 0} (P : Rule T A) (Q : A → Rule T B) : B → List (Nested T) → List (Nested T) → Type 0 where
  both : {x : A} {v : B} {ts mid rest : List (Nested T)} → P x ts mid → Q x v mid rest → Both P Q v ts rest

module _ {T A B : Type 0} (limit : ℕ) (p : Reader T A) (q : A → Reader T B) (P : Rule T A) (Q : A → Rule T B) (E F : Option T → Bool)
    (link : (x : A) (v : B) (mid rest : List (Nested T)) → Q x v mid rest → F (next (plain rest)) ≡ true → E (next (plain mid)) ≡ true) where
  both_split : (v : B) (ts rest : List (Nested T)) → Both P Q v ts rest → F (next (plain rest)) ≡ true → Parts P Q E v ts rest
  both_split v ts rest (both {x = x} {mid = mid} h k) e = record { value = x; mid = mid; first = h; second = k; ends = link x v mid rest k e }

  pub good_both : Good limit p P E → ((x : A) → Can P x → Good limit (q x) (Q x) F) → Good limit (λ ts. and_then (p ts) q) (Both P Q) F
  good_both first second = good_then limit p q P Q (Both P Q) E F first second (λ x v ts mid rest h k. both h k) both_split

-- ---- the same reader for another rule, and another reader

module _ {T A : Type 0} (limit : ℕ) (p : Reader T A) (P R : Rule T A) (E F : Option T → Bool) where
  pub good_as : Good limit p P E → ((x : A) (ts rest : List (Nested T)) → P x ts rest → R x ts rest) → ((x : A) (ts rest : List (Nested T)) → R x ts rest → P x ts rest)
      → ((h : Option T) → F h ≡ true → E h ≡ true) → Good limit p R F
  good_as good join split ends = record {
    exact = λ ts. widen p P R limit join ts (p ts) (good.exact ts);
    found = λ x ts rest h e. good.found x ts rest (split x ts rest h) (ends (next (plain rest)) e);
    some = record { value = good.some.value; text = good.some.text; spells = λ after. join good.some.value _ _ (good.some.spells after) };
  }

module _ {T A : Type 0} (limit : ℕ) (p q : Reader T A) (P : Rule T A) (E : Option T → Bool) (same : (ts : List T) → q ts ≡ p ts) where
  pub good_same : Good limit p P E → Good limit q P E
  good_same good = record {
    exact = λ ts. subst (Exact q P limit ts) (mapped_same (p ts) ∙ sym (same ts)) (exact_map p q P P limit (λ x. x) (λ x us rest h. h) (λ us. same us ∙ sym (mapped_same (p us))) ts (p ts) (good.exact ts));
    found = λ x ts rest h ends. found_as limit q p x ts rest (same (plain ts)) (good.found x ts rest h ends);
    some = good.some;
  }

module _ {T A B : Type 0} (limit : ℕ) (p : Reader T A) (w : Reader T B) (P : Rule T A) (R : Rule T B) (E : Option T → Bool) (f : A → B) (same : (ts : List T) → w ts ≡ mapped f (p ts)) where
  -- a value made of what is read
  pub good_map : Good limit p P E → ((x : A) (ts rest : List (Nested T)) → P x ts rest → R (f x) ts rest) → ((v : B) (ts rest : List (Nested T)) → R v ts rest → (x : A) × P x ts rest × (f x ≡ v)) → Good limit w R E
  good_map good join split = record {
    exact = λ ts. subst (Exact w R limit ts) (sym (same ts)) (exact_map p w P R limit f join same ts (p ts) (good.exact ts));
    found = λ v ts rest h ends. let s = split v ts rest h in subst (λ x. Found limit w x ts rest) s.2 (found_map limit p w f s.0 ts rest (same (plain ts)) (good.found s.0 ts rest s.1 ends));
    some = record { value = f good.some.value; text = good.some.text; spells = λ after. join good.some.value _ _ (good.some.spells after) };
  }

-- ---- a choice by the next token

module _ {T A : Type 0} (limit : ℕ) (p : Reader T A) (by : Option T → Reader T A) (P : Rule T A) (E : Option T → Bool) (same : (us : List T) → p us ≡ by (next us) us) where
  pub good_choice : ((ts : List T) → Exact (by (next ts)) P limit ts (by (next ts) ts)) → ((x : A) (ts rest : List (Nested T)) → P x ts rest → E (next (plain rest)) ≡ true → Found limit (by (next (plain ts))) x ts rest) → Inhabited P → Good limit p P E
  good_choice exact found some = record {
    exact = λ ts. subst (Exact p P limit ts) (sym (same ts)) (exact_peek p by P limit same ts (by (next ts) ts) (exact ts));
    found = λ x ts rest h ends. found_as limit p (by (next (plain ts))) x ts rest (same (plain ts)) (found x ts rest h ends);
    some = some;
  }

-- ---- a token that is wanted

-- a kind that one token has
pub record IsKind {T : Type 0} (is : T → Bool) (mark : T) : Type 0 where
  pub itself : is mark ≡ true
  pub only : (t : T) → is t ≡ true → t ≡ mark

abbrev pub always : {T : Type 0} → Option T → Bool
always h = true

module _ {T : Type 0} (is : T → Bool) (mark : T) (kind : IsKind is mark) (limit level : ℕ) (fits : level ≤ limit) where
  -- the token alone, which has no value
  abbrev pub Mark : Rule T (Unit {0})
  Mark = Only mark level (tt {0})

  abbrev chosen : T → List T → Bool → Outcome T (Unit {0})
  chosen t us b = if b then Ok (tt, us) else Err (Unexpected, t ∷ us)

  some_mark : Inhabited (Mark)
  some_mark = record { value = tt; text = λ after. (mark, level) ∷ after; spells = λ after. only }

  expect_at : (t : T) (us : List T) → is t ≡ true → expect is (t ∷ us) ≡ Ok (tt, us)
  expect_at t us e = ap (chosen t us) e

  expect_not : (t : T) (us : List T) → is t ≡ false → expect is (t ∷ us) ≡ Err (Unexpected, t ∷ us)
  expect_not t us e = ap (chosen t us) e

  case : (t : T) (ts : List T) (b : Bool) → is t ≡ b → Exact (expect is) Mark limit (t ∷ ts) (chosen t ts b)
  case t ts true e = exact_token (expect is) Mark limit t level tt fits (λ after. subst (λ u. Mark (tt {0}) ((u, level) ∷ after) after) (sym (kind.only t e)) only) (λ us. expect_at t us e) ts
  case t ts false e = exact_stop (expect is) Mark limit (t ∷ ts) some_mark (λ other n. by_next t (λ o. expect is o ≡ Err (Unexpected, o)) (λ us. expect_not t us e) other n)

  exact_expect : (ts : List T) → Exact (expect is) Mark limit ts (expect is ts)
  exact_expect [] = exact_stop (expect is) Mark limit [] some_mark (λ other n. by_end (λ o. expect is o ≡ Err (Unexpected, o)) refl other n)
  exact_expect (t ∷ ts) = case t ts (is t) refl

  found_expect : (y : Unit {0}) (ts rest : List (Nested T)) → Mark y ts rest → Found limit (expect is) y ts rest
  found_expect y ts rest only = inl (before fits done, expect_at mark (plain rest) kind.itself)

  pub good_expect : (E : Option T → Bool) → Good limit (expect is) Mark E
  good_expect E = record { exact = exact_expect; found = λ y ts rest h ends. found_expect y ts rest h; some = some_mark }

  -- the value that was read, and then the token
  abbrev pub Ends : {A : Type 0} → A → Rule T A
  Ends x v ts rest = (v ≡ x) × (ts ≡ (mark, level) ∷ rest)

  -- what the rule spells, and then the token
  abbrev pub Closed : {A : Type 0} → Rule T A → Rule T A
  Closed P v ts rest = P v ts ((mark, level) ∷ rest)

  end_of : {A : Type 0} (x : A) (u : Unit {0}) (ts rest : List (Nested T)) → Mark u ts rest → Ends x x ts rest
  end_of x u ts rest only = (refl, refl)

  is_end : (ts rest : List (Nested T)) → ts ≡ (mark, level) ∷ rest → Mark (tt {0}) ts rest
  is_end ts rest e = subst (λ us. Mark (tt {0}) us rest) (sym e) only

  good_end : {A : Type 0} (x : A) (E : Option T → Bool) → Good limit (λ ts. mapped (λ (u : Unit {0}). x) (expect is ts)) (Ends x) E
  good_end x E = good_map limit (expect is) (λ ts. mapped (λ (u : Unit {0}). x) (expect is ts)) Mark (Ends x) E (λ (u : Unit {0}). x) (λ ts. refl) (good_expect E) (λ u ts rest h. end_of x u ts rest h) (λ v ts rest h. (tt, is_end ts rest h.1, sym h.0))

  -- what is read, and then the token, which ends it
  pub good_closed : {A : Type 0} (p : Reader T A) (P : Rule T A) (E F : Option T → Bool) → E (Some mark) ≡ true → Good limit p P E → Good limit (closed is p) (Closed P) F
  good_closed p P E F ends good = good_then limit p (λ x rest. mapped (λ (u : Unit {0}). x) (expect is rest)) P Ends (Closed P) E F good (λ x can. good_end x F)
      (λ x v ts mid rest h e. subst (λ y. P y ts ((mark, level) ∷ rest)) (sym e.0) (subst (λ m. P x ts m) e.1 h))
      (λ v ts rest h e. record { value = v; mid = (mark, level) ∷ rest; first = h; second = (refl, refl); ends = ends })

  opened_split : {A : Type 0} (P : Rule T A) (v : A) (ts rest : List (Nested T)) → After mark level (λ x. x) P v ts rest → Parts Mark (λ u. P) always v ts rest
  opened_split P v ts rest (after {ts = us} h) = record { value = tt; mid = us; first = only; second = h; ends = refl }

  opened_join : {A : Type 0} (P : Rule T A) (u : Unit {0}) (v : A) (ts mid rest : List (Nested T)) → Mark u ts mid → P v mid rest → After mark level (λ x. x) P v ts rest
  opened_join P u v ts mid rest only k = after k

  -- the token, and then what is read
  pub good_opened : {A : Type 0} (p : Reader T A) (P : Rule T A) (E : Option T → Bool) → Good limit p P E → Good limit (opened is p) (After mark level (λ x. x) P) E
  good_opened p P E good = good_then limit (expect is) (λ u rest. p rest) Mark (λ u. P) (After mark level (λ x. x) P) always E (good_expect always) (λ u can. good)
      (opened_join P) (λ v ts rest h e. opened_split P v ts rest h)
