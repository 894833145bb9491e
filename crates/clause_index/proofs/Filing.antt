-- Where entries are filed, and what a look-up gathers of them.
use Rattle.std.specs.Prelude.{ℕ, ◌≡◌, ◌++◌, ◌⊎◌, ◌↔◌, List, [], ◌∷◌, length, slice_get, Some, Bool, true, false, not}
use Rattle.std.specs.Prelude.{◌&&◌, ◌||◌, ◌==◌, nat_eq, Contains, refl}
use Rattle.std.specs.List.Sorted.{IsStrictlyIncreasing}
use Rattle.std.proofs.Common.{⊎_elim, ap, sym, subst, ◌∙◌, inl, inr, arith, zero, suc}
use Rattle.std.proofs.lemmas.Bool.{cases_Bool}
use Rattle.std.proofs.lemmas.Bool.Decides.{nat_tests}
use Rattle.std.proofs.lemmas.List.Elements.{Contains-append_left, Contains-append_right, Contains-append_cases}
use Rattle.clause_index.specs.declared.keys.Key.{Key}
use Rattle.clause_index.specs.declared.keys.Key.TheVariants.{Head, Open}
use Rattle.clause_index.specs.declared.keys.Keys.{Keys}
use Rattle.clause_index.specs.declared.entry.Entry.{Entry}
use Rattle.clause_index.specs.declared.heads.Heads.{Heads}
use Rattle.clause_index.specs.Heads.{numbers_at, IsFiled}
use Rattle.clause_index.specs.Keys.{clash, do_clash}
use Rattle.clause_index.specs.Entries.{IsPartner, ArePlaces}
use Rattle.clause_index.specs.code.Filing.{Puts, is_sign, is_partner, partner_places, numbered}
use Rattle.clause_index.proofs.Gathering.{here, place_in, gathered_sound, gathered_complete, numbered_sound}
use Rattle.clause_index.proofs.Gathering.{numbered_complete, places-append}

one_number : (f g : ℕ) → nat_eq f g ≡ true → f ≡ g
one_number f g e = grind (arith, nat_tests)

two_numbers : (f g : ℕ) → nat_eq f g ≡ false → Head f ≡ Head g → ⊥
two_numbers f g e is = let same : f ≡ g = cc in grind (arith, nat_tests)

same_or_not : (k l : Key) → (k ≡ l) ⊎ (k ≡ l → ⊥)
same_or_not Open Open = inl refl
same_or_not Open (Head g) = inr (λ e. cc)
same_or_not (Head f) Open = inr (λ e. cc)
same_or_not (Head f) (Head g) = ⊎_elim (λ e. inl (ap Head (one_number f g e))) (λ e. inr (two_numbers f g e))
    (cases_Bool (nat_eq f g))

-- what is found in a list with one element more
pushed : {X : Type 0} (xs : List X) (y x : X) (i : ℕ) → slice_get (xs ++ y ∷ []) i ≡ Some x → (slice_get xs i ≡ Some x)
    ⊎ ((i ≡ length xs) × (y ≡ x))
pushed [] y x zero e = inr (refl, cc)
pushed [] y x (suc i) e = inl e
pushed (z ∷ xs) y x zero e = inl e
pushed (z ∷ xs) y x (suc i) e = ⊎_elim inl (λ r. inr (ap suc r.0, r.1)) (pushed xs y x i e)

module _ (old new : Heads) (key : Key) (number : ℕ) (puts : Puts old key number new) where
  still_there : (other : Key) (n : ℕ) → Contains (numbers_at old other) n → Contains (numbers_at new other) n
  still_there other n h = ⊎_elim
      (λ same. subst (λ (k : Key). Contains (numbers_at new k) n) (sym same)
      (subst (λ (ns : List ℕ). Contains ns n) (sym puts.here)
      (Contains-append_left (numbers_at old key) (number ∷ []) n
      (subst (λ (k : Key). Contains (numbers_at old k) n) same h))))
      (λ differs. subst (λ (ns : List ℕ). Contains ns n) (sym (puts.elsewhere other differs)) h)
      (same_or_not other key)

  now_there : Contains (numbers_at new key) number
  now_there = subst (λ (ns : List ℕ). Contains ns number) (sym puts.here)
      (Contains-append_right (numbers_at old key) (number ∷ []) number (here number []))

pub filed_behind : (entries : List Entry) (e : Entry) (old new : Heads) → IsFiled e.positive entries old
    → Puts old e.keys.whole (length entries) new → IsFiled e.positive (entries ++ e ∷ []) new
filed_behind entries e old new filed puts = record {
  filed = λ i x found same. ⊎_elim
      (λ before. still_there old new e.keys.whole (length entries) puts x.keys.whole i (filed.filed i x before same))
      (λ last. subst (λ (y : Entry). Contains (numbers_at new y.keys.whole) i) last.1
      (subst (λ j. Contains (numbers_at new e.keys.whole) j) (sym last.0)
      (now_there old new e.keys.whole (length entries) puts)))
      (pushed entries e x i found);
}

both : (a b : Bool) → (a && b) ≡ true → (a ≡ true) × (b ≡ true)
both true true e = (refl, refl)
both true false e = cc
both false b e = cc

of_both : (a b : Bool) → a ≡ true → b ≡ true → (a && b) ≡ true
of_both a b d e = rw (d, e) refl

sign_is : (p s : Bool) → is_sign p s ≡ true → s ≡ p
sign_is true true e = refl
sign_is true false e = cc
sign_is false true e = cc
sign_is false false e = refl

own_sign : (p s : Bool) → s ≡ p → is_sign p s ≡ true
own_sign true s e = e
own_sign false s e = rw e refl

denied : (b : Bool) → not b ≡ true → b ≡ false
denied true e = cc
denied false e = refl

module _ (positive : Bool) (keys : Keys) (e : Entry) where
  pub partner_found : is_partner positive keys e ≡ true → IsPartner positive keys e
  partner_found is = let h = both (is_sign positive e.positive) (not (do_clash e.keys keys)) is in
      (sign_is positive e.positive h.0, denied (do_clash e.keys keys) h.1)

  pub partner_told : IsPartner positive keys e → is_partner positive keys e ≡ true
  partner_told is = of_both (is_sign positive e.positive) (not (do_clash e.keys keys))
      (own_sign positive e.positive is.0) (ap not is.1)

module _ (entries es : List Entry) (positive : Bool) (keys : Keys) (gathered places : List ℕ) where
  -- the places of the partners of these entries, where these are some of the others and all partners among them
  pub are_places : gathered ≡ partner_places positive keys es → ((e : Entry) → Contains es e → Contains entries e) →
      ((e : Entry) → Contains entries e → IsPartner positive keys e → Contains es e)
      → IsStrictlyIncreasing places → ((place : ℕ) → Contains places place ↔ Contains gathered place)
      → ArePlaces entries positive keys places
  are_places is some all ascending same = record {
    ascending = ascending;
    sound = λ place h.
        let g = gathered_sound positive keys es place
        (subst (λ (ps : List ℕ). Contains ps place) is ((same place).0 h)) in
        (g.0, some g.0 g.1, partner_found positive keys g.0 g.2, g.3);
    complete = λ e h partner.
        (same e.place).1 (subst (λ (ps : List ℕ). Contains ps e.place) (sym is)
        (gathered_complete positive keys es e (all e h partner) (partner_told positive keys e partner)));
  }

first_of : (a b : Bool) → (a || b) ≡ false → a ≡ false
first_of true b e = cc
first_of false b e = refl

head_fits : (k : Key) (f : ℕ) → clash k (Head f) ≡ false → (k ≡ Head f) ⊎ (k ≡ Open)
head_fits Open f e = inr refl
head_fits (Head g) f e = inl (ap Head (one g f e)) where
  one : (g f : ℕ) → not (g == f) ≡ false → g ≡ f
  one g f e = grind (arith, nat_tests)

module _ (positive : Bool) (keys : Keys) (entries : List Entry) (h : Heads) (filed : IsFiled positive entries h)
    (f : ℕ) (head : keys.whole ≡ Head f) where
  -- the entries under a symbol and those under none
  abbrev pub looked_at : List Entry
  looked_at = numbered entries (numbers_at h (Head f)) ++ numbered entries (numbers_at h Open)

  pub looked_some : (e : Entry) → Contains looked_at e → Contains entries e
  looked_some e c = ⊎_elim (numbered_sound entries (numbers_at h (Head f)) e)
      (numbered_sound entries (numbers_at h Open) e)
      (Contains-append_cases (numbered entries (numbers_at h (Head f))) (numbered entries (numbers_at h Open)) e c)

  pub looked_all : (e : Entry) → Contains entries e → IsPartner positive keys e → Contains looked_at e
  looked_all e c partner =
      let p = place_in entries e c in
      let number : Contains (numbers_at h e.keys.whole) p.0 = filed.filed p.0 e p.1 partner.0 in
      let fits : clash e.keys.whole (Head f) ≡ false = subst (λ (k : Key). clash e.keys.whole k ≡ false) head
      (first_of (clash e.keys.whole keys.whole) _ partner.1) in
      ⊎_elim
      (λ same. Contains-append_left (numbered entries (numbers_at h (Head f))) (numbered entries (numbers_at h Open)) e
      (numbered_complete entries (numbers_at h (Head f)) p.0 e
      (subst (λ (k : Key). Contains (numbers_at h k) p.0) same number) p.1))
      (λ same. Contains-append_right (numbered entries (numbers_at h (Head f)))
      (numbered entries (numbers_at h Open)) e
      (numbered_complete entries (numbers_at h Open) p.0 e
      (subst (λ (k : Key). Contains (numbers_at h k) p.0) same number) p.1))
      (head_fits e.keys.whole f fits)

module _ (positive : Bool) (keys : Keys) where
  -- all were gathered into an empty list
  pub gathered_once : (entries es : List Entry) (none old new : List ℕ) → none ≡ [] → es ≡ entries
      → old ≡ none ++ partner_places positive keys es → new ≡ old → new ≡ partner_places positive keys entries
  gathered_once entries es none old new empty all is same = same ∙ is ∙ ap
      (λ ps. ps ++ partner_places positive keys es) empty ∙ ap (partner_places positive keys) all

  -- those under a symbol first, then those under none
  pub gathered_twice : (entries : List Entry) (h : Heads) (f : ℕ) (us os : List ℕ) (none one two new : List ℕ)
      → none ≡ [] → us ≡ numbers_at h (Head f) → os ≡ numbers_at h Open
      → one ≡ none ++ partner_places positive keys (numbered entries us) → two ≡ one ++ partner_places positive keys
      (numbered entries os) → new ≡ two
      → new ≡ partner_places positive keys
      (numbered entries (numbers_at h (Head f)) ++ numbered entries (numbers_at h Open))
  gathered_twice entries h f us os none one two new empty by_head without first second same =
      same ∙ second
      ∙ ap (λ ps. ps ++ partner_places positive keys (numbered entries os))
      (first ∙ ap (λ ps. ps ++ partner_places positive keys (numbered entries us)) empty)
      ∙ ap (λ ns. partner_places positive keys (numbered entries us) ++ partner_places positive keys
      (numbered entries ns)) without
      ∙ ap (λ ns. partner_places positive keys (numbered entries ns) ++ partner_places positive keys
      (numbered entries (numbers_at h Open))) by_head
      ∙ sym (places-append positive keys (numbered entries (numbers_at h (Head f)))
      (numbered entries (numbers_at h Open)))
