-- What it means that a reader is exact for a rule at a list of tokens.
--
-- What it answers comes with a derivation that holds whatever follows, and a fault with a way to go on from what was
-- read before it. On each list that begins with the tokens looked at it answers the same.
use Rattle.std.proofs.Common.{◌≡◌, ℕ, ◌≤◌, ◌<◌, List, [], ◌∷◌, ◌++◌, Option, Some, None, Ok, Err, refl, sym, ◌∙◌, ap, subst, append_assoc}
use Rattle.first_fault.specs.Nesting.{Nested, plain, Within}
use Rattle.first_fault.specs.code.Reading.{Cause, Unexpected, TooDeep, Outcome, Reader, and_then, mapped, next}
use Rattle.first_fault.specs.Rules.{Rule}

-- what a reader took, where it answers a value
pub record IsRead {T A : Type 0} (p : Reader T A) (P : Rule T A) (limit : ℕ) (value : A) (ts rest : List T) : Type 0 where
  pub front : List (Nested T)
  pub within : Within limit front
  pub text : ts ≡ plain front ++ rest
  pub spells : (after : List (Nested T)) → P value (front ++ after) after
  pub again : (other : List T) → next other ≡ next rest → p (plain front ++ other) ≡ Ok (value, other)

-- the way to go on begins with the token at the fault, which is nested too deep
pub record IsOver {T : Type 0} (limit : ℕ) (rest : List T) (on : List (Nested T) → List (Nested T)) : Type 0 where
  pub token : T
  pub level : ℕ
  pub others : List T
  pub later : List (Nested T) → List (Nested T)
  pub deep : limit < level
  pub is : rest ≡ token ∷ others
  pub begins : (after : List (Nested T)) → on after ≡ (token, level) ∷ later after

abbrev pub Over : {T : Type 0} → Cause → ℕ → List T → (List (Nested T) → List (Nested T)) → Type 0
Over Unexpected limit rest on = Unit {0}
Over TooDeep limit rest on = IsOver limit rest on

-- what a reader took before a fault, and how a text goes on from there
pub record IsFault {T A : Type 0} (p : Reader T A) (P : Rule T A) (limit : ℕ) (cause : Cause) (ts rest : List T) : Type 0 where
  pub front : List (Nested T)
  pub within : Within limit front
  pub text : ts ≡ plain front ++ rest
  pub value : A
  pub on : List (Nested T) → List (Nested T)
  pub spells : (after : List (Nested T)) → P value (front ++ on after) after
  pub over : Over cause limit rest on
  pub again : (other : List T) → next other ≡ next rest → p (plain front ++ other) ≡ Err (cause, other)

abbrev pub Exact : {T A : Type 0} → Reader T A → Rule T A → ℕ → List T → Outcome T A → Type 0
Exact p P limit ts (Ok r) = IsRead p P limit r.0 ts r.1
Exact p P limit ts (Err f) = IsFault p P limit f.0 ts f.1

-- some text is spelled by the rule, whatever follows it
pub record Inhabited {T A : Type 0} (P : Rule T A) : Type 0 where
  pub value : A
  pub text : List (Nested T) → List (Nested T)
  pub spells : (after : List (Nested T)) → P value (text after) after

-- the value is spelled by some tokens
pub record Can {T A : Type 0} (P : Rule T A) (value : A) : Type 0 where
  pub text : List (Nested T)
  pub after : List (Nested T)
  pub spells : P value text after

-- ---- lists

pub plain-append : {T : Type 0} → (xs ys : List (Nested T)) → plain (xs ++ ys) ≡ plain xs ++ plain ys
plain-append [] ys = refl
plain-append (x ∷ xs) ys = ap (λ l. x.0 ∷ l) (plain-append xs ys)

pub within-append : {T : Type 0} → (limit : ℕ) (xs ys : List (Nested T)) → Within limit xs → Within limit ys → Within limit (xs ++ ys)
within-append limit [] ys h k = k
within-append limit (x ∷ xs) ys h k = (h.0, within-append limit xs ys h.1 k)

plain_on : {T : Type 0} → (xs ys : List (Nested T)) (rest : List T) → plain (xs ++ ys) ++ rest ≡ plain xs ++ (plain ys ++ rest)
plain_on xs ys rest = ap (λ l. l ++ rest) (plain-append xs ys) ∙ append_assoc (plain xs) (plain ys) rest

next_on : {T : Type 0} → (xs other rest : List T) → next other ≡ next rest → next (xs ++ other) ≡ next (xs ++ rest)
next_on [] other rest e = e
next_on (x ∷ xs) other rest e = refl

-- what begins as a list with a first token does has that token
pub by_next : {T : Type 0} → (t : T) (F : List T → Type 0) → ((us : List T) → F (t ∷ us)) → (other : List T) → next other ≡ Some t → F other
by_next t F h [] e = cc
by_next t F h (u ∷ us) e = let same : u ≡ t = cc in subst (λ x. F (x ∷ us)) (sym same) (h us)

pub by_end : {T : Type 0} → (F : List T → Type 0) → F [] → (other : List T) → next other ≡ None → F other
by_end F h [] e = h
by_end F h (u ∷ us) e = cc

-- ---- one reader after another

-- `w` goes on with the second reader where the first has read something, and fails where the first does
module _ {T A B : Type 0} (p : Reader T A) (q : A → Reader T B) (w : Reader T B) (P : Rule T A) (Q : A → Rule T B) (R : Rule T B) (limit : ℕ)
    (join : (x : A) (v : B) (ts mid rest : List (Nested T)) → P x ts mid → Q x v mid rest → R v ts rest)
    (w_ok : (x : A) (front : List (Nested T)) (rest : List T) → P x (front ++ []) [] → p (plain front ++ rest) ≡ Ok (x, rest) → w (plain front ++ rest) ≡ q x rest)
    (w_err : (us : List T) (f : Cause × List T) → p us ≡ Err f → w us ≡ Err f) where
  joined : (x : A) (v : B) (xs ys : List (Nested T)) (on : List (Nested T) → List (Nested T)) → ((after : List (Nested T)) → P x (xs ++ after) after) → ((after : List (Nested T)) → Q x v (ys ++ on after) after)
      → (after : List (Nested T)) → R v ((xs ++ ys) ++ on after) after
  joined x v xs ys on left right after = rw append_assoc (join x v _ _ _ (left (ys ++ on after)) (right after))

  later : (x : A) (ts mid : List T) → (h : IsRead p P limit x ts mid) → (front : List (Nested T)) (other rest : List T) → next other ≡ next rest → mid ≡ plain front ++ rest
      → w (plain (h.front ++ front) ++ other) ≡ q x (plain front ++ other)
  later x ts mid h front other rest e is =
      let first = h.again (plain front ++ other) (next_on (plain front) other rest e ∙ ap next (sym is)) in
      ap w (plain_on h.front front other) ∙ w_ok x h.front (plain front ++ other) (h.spells []) first

  pub after_read : (x : A) (ts mid : List T) → IsRead p P limit x ts mid → (o : Outcome T B) → Exact (q x) (Q x) limit mid o → Exact w R limit ts o
  after_read x ts mid h (Ok r) k = record {
    front = h.front ++ k.front;
    within = within-append limit h.front k.front h.within k.within;
    text = h.text ∙ ap (λ l. plain h.front ++ l) k.text ∙ sym (plain_on h.front k.front r.1);
    spells = joined x r.0 h.front k.front (λ after. after) h.spells k.spells;
    again = λ other e. later x ts mid h k.front other r.1 e k.text ∙ k.again other e;
  }
  after_read x ts mid h (Err f) k = record {
    front = h.front ++ k.front;
    within = within-append limit h.front k.front h.within k.within;
    text = h.text ∙ ap (λ l. plain h.front ++ l) k.text ∙ sym (plain_on h.front k.front f.1);
    value = k.value;
    on = k.on;
    spells = joined x k.value h.front k.front k.on h.spells k.spells;
    over = k.over;
    again = λ other e. later x ts mid h k.front other f.1 e k.text ∙ k.again other e;
  }

  over_on : (cause : Cause) (rest : List T) (on text : List (Nested T) → List (Nested T)) → Over cause limit rest on → Over cause limit rest (λ after. on (text after))
  over_on Unexpected rest on text h = tt
  over_on TooDeep rest on text h = record {
    token = h.token;
    level = h.level;
    others = h.others;
    later = λ after. h.later (text after);
    deep = h.deep;
    is = h.is;
    begins = λ after. h.begins (text after);
  }

  -- where the first fails, the text goes on with some text of the second
  pub after_fault : (ts : List T) (f : Cause × List T) → IsFault p P limit f.0 ts f.1 → ((x : A) → Can P x → Inhabited (Q x)) → IsFault w R limit f.0 ts f.1
  after_fault ts f h some =
      let second = some h.value (record { text = h.front ++ h.on []; after = []; spells = h.spells [] }) in record {
        front = h.front;
        within = h.within;
        text = h.text;
        value = second.value;
        on = λ after. h.on (second.text after);
        spells = λ after. join h.value second.value _ _ _ (h.spells (second.text after)) (second.spells after);
        over = over_on f.0 f.1 h.on second.text h.over;
        again = λ other e. w_err (plain h.front ++ other) (f.0, other) (h.again other e);
      }

module _ {T A B : Type 0} (p : Reader T A) (q : A → Reader T B) (P : Rule T A) (Q : A → Rule T B) (R : Rule T B) (limit : ℕ)
    (join : (x : A) (v : B) (ts mid rest : List (Nested T)) → P x ts mid → Q x v mid rest → R v ts rest) where
  abbrev both : Reader T B
  both ts = and_then (p ts) q

  both_ok : (x : A) (front : List (Nested T)) (rest : List T) → P x (front ++ []) [] → p (plain front ++ rest) ≡ Ok (x, rest) → both (plain front ++ rest) ≡ q x rest
  both_ok x front rest h e = ap (λ o. and_then o q) e

  both_err : (us : List T) (f : Cause × List T) → p us ≡ Err f → both us ≡ Err f
  both_err us f e = ap (λ o. and_then o q) e

  -- exact where the first is, and the second after each value that the first reads
  pub exact_then : (ts : List T) (o : Outcome T A) → Exact p P limit ts o → ((x : A) → Can P x → Inhabited (Q x)) → ((x : A) (mid : List T) → Can P x → Exact (q x) (Q x) limit mid (q x mid))
      → Exact both R limit ts (and_then o q)
  exact_then ts (Ok r) h some k =
      after_read p q both P Q R limit join both_ok both_err r.0 ts r.1 h (q r.0 r.1) (k r.0 r.1 (record { text = h.front ++ []; after = []; spells = h.spells [] }))
  exact_then ts (Err f) h some k = after_fault p q both P Q R limit join both_ok both_err ts f h some

-- ---- the same tokens, another value, another rule or another reader

module _ {T A B : Type 0} (p : Reader T A) (q : Reader T B) (P : Rule T A) (R : Rule T B) (limit : ℕ) (f : A → B) (join : (x : A) (ts rest : List (Nested T)) → P x ts rest → R (f x) ts rest)
    (same : (us : List T) → q us ≡ mapped f (p us)) where
  pub exact_map : (ts : List T) (o : Outcome T A) → Exact p P limit ts o → Exact q R limit ts (mapped f o)
  exact_map ts (Ok r) h = record {
    front = h.front;
    within = h.within;
    text = h.text;
    spells = λ after. join r.0 _ _ (h.spells after);
    again = λ other e. same (plain h.front ++ other) ∙ ap (mapped f) (h.again other e);
  }
  exact_map ts (Err c) h = record {
    front = h.front;
    within = h.within;
    text = h.text;
    value = f h.value;
    on = h.on;
    spells = λ after. join h.value _ _ (h.spells after);
    over = h.over;
    again = λ other e. same (plain h.front ++ other) ∙ ap (mapped f) (h.again other e);
  }

-- ---- one token, and then what the rest is read by

module _ {T A B : Type 0} (token : T) (p : Reader T B) (q : Reader T A) (P : Rule T A) (R : Rule T B) (limit level : ℕ) (f : A → B) (fits : level ≤ limit)
    (join : (x : A) (ts rest : List (Nested T)) → P x ts rest → R (f x) ((token, level) ∷ ts) rest) (same : (us : List T) → p (token ∷ us) ≡ mapped f (q us)) where
  pub exact_after : (ts : List T) (o : Outcome T A) → Exact q P limit ts o → Exact p R limit (token ∷ ts) (mapped f o)
  exact_after ts (Ok r) h = record {
    front = (token, level) ∷ h.front;
    within = (fits, h.within);
    text = ap (λ l. token ∷ l) h.text;
    spells = λ after. join r.0 _ _ (h.spells after);
    again = λ other e. same (plain h.front ++ other) ∙ ap (mapped f) (h.again other e);
  }
  exact_after ts (Err c) h = record {
    front = (token, level) ∷ h.front;
    within = (fits, h.within);
    text = ap (λ l. token ∷ l) h.text;
    value = f h.value;
    on = h.on;
    spells = λ after. join h.value _ _ (h.spells after);
    over = h.over;
    again = λ other e. same (plain h.front ++ other) ∙ ap (mapped f) (h.again other e);
  }

pub mapped_same : {T A : Type 0} → (o : Outcome T A) → mapped (λ x. x) o ≡ o
mapped_same (Ok r) = refl
mapped_same (Err c) = refl

-- ---- readers that stop at once, or take nothing

module _ {T A : Type 0} (p : Reader T A) (P : Rule T A) (limit : ℕ) where
  -- no token of this kind can come
  pub exact_stop : (ts : List T) → Inhabited P → ((other : List T) → next other ≡ next ts → p other ≡ Err (Unexpected, other)) → Exact p P limit ts (Err (Unexpected, ts))
  exact_stop ts some h = record {
    front = [];
    within = tt;
    text = refl;
    value = some.value;
    on = some.text;
    spells = some.spells;
    over = tt;
    again = h;
  }

  -- the token may come, and is over the limit
  pub exact_deep : (token : T) (level : ℕ) (ts : List T) (x : A) (text : List (Nested T) → List (Nested T)) → limit < level → ((after : List (Nested T)) → P x ((token, level) ∷ text after) after)
      → ((us : List T) → p (token ∷ us) ≡ Err (TooDeep, token ∷ us)) → Exact p P limit (token ∷ ts) (Err (TooDeep, token ∷ ts))
  exact_deep token level ts x text deep h same = record {
    front = [];
    within = tt;
    text = refl;
    value = x;
    on = λ after. (token, level) ∷ text after;
    spells = h;
    over = record { token = token; level = level; others = ts; later = text; deep = deep; is = refl; begins = λ after. refl };
    again = λ other e. by_next token (λ o. p o ≡ Err (TooDeep, o)) same other e;
  }

  pub exact_done : (ts : List T) (x : A) → ((after : List (Nested T)) → P x after after) → ((other : List T) → next other ≡ next ts → p other ≡ Ok (x, other)) → Exact p P limit ts (Ok (x, ts))
  exact_done ts x h k = record { front = []; within = tt; text = refl; spells = h; again = k }

  -- one token is all that is read
  pub exact_token : (token : T) (level : ℕ) (x : A) → level ≤ limit → ((after : List (Nested T)) → P x ((token, level) ∷ after) after)
      → ((us : List T) → p (token ∷ us) ≡ Ok (x, us)) → (ts : List T) → Exact p P limit (token ∷ ts) (Ok (x, ts))
  exact_token token level x fits h same ts = record {
    front = (token, level) ∷ [];
    within = (fits, tt);
    text = refl;
    spells = h;
    again = λ other e. same other;
  }

-- ---- a reader that chooses by the next token

module _ {T A : Type 0} (p : Reader T A) (by : Option T → Reader T A) (P : Rule T A) (limit : ℕ) (same : (us : List T) → p us ≡ by (next us) us) where
  peeked : (front : List (Nested T)) (ts rest other : List T) → ts ≡ plain front ++ rest → next other ≡ next rest → p (plain front ++ other) ≡ by (next ts) (plain front ++ other)
  peeked front ts rest other is e = same (plain front ++ other) ∙ ap (λ h. by h (plain front ++ other)) (next_on (plain front) other rest e ∙ ap next (sym is))

  pub exact_peek : (ts : List T) (o : Outcome T A) → Exact (by (next ts)) P limit ts o → Exact p P limit ts o
  exact_peek ts (Ok r) h = record {
    front = h.front;
    within = h.within;
    text = h.text;
    spells = h.spells;
    again = λ other e. peeked h.front ts r.1 other h.text e ∙ h.again other e;
  }
  exact_peek ts (Err c) h = record {
    front = h.front;
    within = h.within;
    text = h.text;
    value = h.value;
    on = h.on;
    spells = h.spells;
    over = h.over;
    again = λ other e. peeked h.front ts c.1 other h.text e ∙ h.again other e;
  }
