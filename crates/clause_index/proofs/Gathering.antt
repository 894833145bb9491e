-- The places that are gathered, and where entries are filed.
use Rattle.std.specs.Prelude.{ℕ, ◌≡◌, ◌<◌, ◌+◌, ◌++◌, ◌⊎◌, List, [], ◌∷◌, length, map, filter, take, slice_get, Option}
use Rattle.std.specs.Prelude.{Some, None, Bool, true, false, cond, Contains, refl}
use Rattle.std.specs.Option.{option_to_list}
use Rattle.std.specs.List.{cons_option}
use Rattle.std.proofs.Common.{⊎_elim, ap, sym, subst, ◌∙◌, inl, inr, arith, zero, suc, get_or, append_assoc}
use Rattle.std.proofs.lemmas.List.{take_more, map-append}
use Rattle.std.proofs.lemmas.List.Elements.{filter-append, filter_map-append}
use Rattle.std.proofs.lemmas.Option.{slice_get_read}
use Rattle.clause_index.specs.declared.keys.Keys.{Keys}
use Rattle.clause_index.specs.declared.entry.Entry.{Entry}
use Rattle.clause_index.specs.code.Filing.{is_partner, partner_places, numbered}

one_kept : {X : Type 0} (o : Option X) → cons_option o [] ≡ option_to_list o
one_kept None = refl
one_kept (Some x) = refl

module _ (positive : Bool) (keys : Keys) where
  pub places-append : (xs ys : List Entry) → partner_places positive keys
      (xs ++ ys) ≡ partner_places positive keys xs ++ partner_places positive keys ys
  places-append xs ys = ap (map (λ e. e.place)) (filter-append (is_partner positive keys) xs ys) ∙ map-append _
      (filter (is_partner positive keys) xs) (filter (is_partner positive keys) ys)

  numbered_more : (entries : List Entry) (numbers : List ℕ) (i d : ℕ) → i < length numbers
      → numbered entries (take (i + 1) numbers) ≡ numbered entries (take i numbers) ++ numbered entries
      (get_or numbers i d ∷ [])
  numbered_more entries numbers i d l = ap (numbered entries) (take_more numbers i d l) ∙ filter_map-append
      (slice_get entries) (take i numbers) (get_or numbers i d ∷ [])

  one_numbered : (entries : List Entry) (n : ℕ) (o : Option Entry) → o ≡ slice_get entries n → numbered entries
      (n ∷ []) ≡ option_to_list o
  one_numbered entries n o e = ap (λ p. cons_option p []) (sym e) ∙ one_kept o

  -- one number further
  pub gathered_more : (entries : List Entry) (numbers : List ℕ) (i d : ℕ) (o : Option Entry) (front old new : List ℕ)
      → i < length numbers → o ≡ slice_get entries (get_or numbers i d)
      → old ≡ front ++ partner_places positive keys (numbered entries (take i numbers))
      → new ≡ old ++ partner_places positive keys (option_to_list o)
      → new ≡ front ++ partner_places positive keys (numbered entries (take (i + 1) numbers))
  gathered_more entries numbers i d o front old new l found was is =
      is ∙ ap (λ ps. ps ++ partner_places positive keys (option_to_list o)) was
      ∙ append_assoc front (partner_places positive keys (numbered entries (take i numbers)))
      (partner_places positive keys (option_to_list o))
      ∙ ap (λ ps. front ++ ps) (sym (ap (partner_places positive keys)
      (numbered_more entries numbers i d l ∙ ap (λ es. numbered entries (take i numbers) ++ es)
      (one_numbered entries (get_or numbers i d) o found))
      ∙ places-append (numbered entries (take i numbers)) (option_to_list o)))

two_answers : false ≡ true → ⊥
two_answers e = cc

-- elements of lists
pub here : {X : Type 0} (x : X) (xs : List X) → Contains (x ∷ xs) x
here x xs = (0, omega arith, refl)

pub there : {X : Type 0} (y x : X) (xs : List X) → Contains xs x → Contains (y ∷ xs) x
there y x xs h = (suc h.0, omega (arith, h.1), h.2)

either : {X : Type 0} (y x : X) (xs : List X) → Contains (y ∷ xs) x → (y ≡ x) ⊎ Contains xs x
either y x xs h = go h.0 h.1 h.2 where
  go : (k : ℕ) → k < length (y ∷ xs) → get_or (y ∷ xs) k x ≡ x → (y ≡ x) ⊎ Contains xs x
  go zero l e = inl e
  go (suc k) l e = inr (k, omega (arith, l), e)

none_in_nothing : {X P : Type 0} (x : X) → Contains [] x → P
none_in_nothing x h = absurd (omega (arith, h.1))

found_in : {X : Type 0} (xs : List X) (i : ℕ) (x : X) → slice_get xs i ≡ Some x → Contains xs x
found_in [] i x e = cc
found_in (y ∷ xs) zero x e = let same : y ≡ x = cc in subst (Contains (y ∷ xs)) same (here y xs)
found_in (y ∷ xs) (suc i) x e = there y x xs (found_in xs i x e)

pub place_in : {X : Type 0} (xs : List X) (x : X) → Contains xs x → (i : ℕ) × (slice_get xs i ≡ Some x)
place_in xs x h = (h.0, slice_get_read xs (length xs) h.0 x refl h.1 (sym h.2))

module _ (positive : Bool) (keys : Keys) where
  -- a place that was gathered is that of a partner
  pub gathered_sound : (es : List Entry) (place : ℕ) → Contains (partner_places positive keys es) place
      → (e : Entry) × Contains es e × (is_partner positive keys e ≡ true) × (e.place ≡ place)
  gathered_sound [] place h = none_in_nothing place h
  gathered_sound (x ∷ es) place h = go (is_partner positive keys x) refl h (gathered_sound es place) where
    go : (b : Bool) → is_partner positive keys x ≡ b → Contains
        (map (λ e. e.place) (cond b (x ∷ filter (is_partner positive keys) es) (filter (is_partner positive keys) es)))
        place
        → (Contains (partner_places positive keys es) place → (e : Entry) × Contains es e ×
        (is_partner positive keys e ≡ true) × (e.place ≡ place))
        → (e : Entry) × Contains (x ∷ es) e × (is_partner positive keys e ≡ true) × (e.place ≡ place)
    go true is h more = ⊎_elim (λ same. (x, here x es, is, same))
        (λ r. let m = more r in (m.0, there x m.0 es m.1, m.2, m.3))
        (either x.place place (partner_places positive keys es) h)
    go false is h more = let m = more h in (m.0, there x m.0 es m.1, m.2, m.3)

  -- the place of each partner was gathered
  pub gathered_complete : (es : List Entry) (e : Entry) → Contains es e → is_partner positive keys e ≡ true → Contains
      (partner_places positive keys es) e.place
  gathered_complete [] e h is = none_in_nothing e h
  gathered_complete (x ∷ es) e h is = go (is_partner positive keys x) refl (either x e es h)
      (λ r. gathered_complete es e r is) where
        go : (b : Bool) → is_partner positive keys x ≡ b → (x ≡ e) ⊎ Contains es e →
            (Contains es e → Contains (partner_places positive keys es) e.place)
            → Contains (map (λ e. e.place) (cond b (x ∷ filter (is_partner positive keys) es)
            (filter (is_partner positive keys) es))) e.place
        go true at (inl same) more = subst
            (λ (y : Entry). Contains (x.place ∷ partner_places positive keys es) y.place) same
            (here x.place (partner_places positive keys es))
        go true at (inr r) more = there x.place e.place (partner_places positive keys es) (more r)
        go false at (inl same) more = absurd (two_answers (sym at ∙ ap (is_partner positive keys) same ∙ is))
        go false at (inr r) more = more r

-- the entries of numbers
pub numbered_sound : (entries : List Entry) (numbers : List ℕ) (e : Entry) → Contains (numbered entries numbers) e
    → Contains entries e
numbered_sound entries [] e h = none_in_nothing e h
numbered_sound entries (n ∷ numbers) e h = go (slice_get entries n) refl h (numbered_sound entries numbers e) where
  go : (o : Option Entry) → slice_get entries n ≡ o → Contains (cons_option o (numbered entries numbers)) e →
      (Contains (numbered entries numbers) e → Contains entries e) → Contains entries e
  go None is h more = more h
  go (Some x) is h more = ⊎_elim (λ same. subst (Contains entries) same (found_in entries n x is)) more
      (either x e (numbered entries numbers) h)

pub numbered_complete : (entries : List Entry) (numbers : List ℕ) (n : ℕ) (e : Entry) → Contains numbers n
    → slice_get entries n ≡ Some e → Contains (numbered entries numbers) e
numbered_complete entries [] n e h is = none_in_nothing n h
numbered_complete entries (m ∷ numbers) n e h is = ⊎_elim
    (λ same. subst (λ (o : Option Entry). Contains (cons_option o (numbered entries numbers)) e)
    (sym (ap (slice_get entries) same ∙ is)) (here e (numbered entries numbers)))
    (λ r. go (slice_get entries m) (numbered_complete entries numbers n e r is))
    (either m n numbers h) where
      go : (o : Option Entry) → Contains (numbered entries numbers) e → Contains
          (cons_option o (numbered entries numbers)) e
      go None more = more
      go (Some x) more = there x e (numbered entries numbers) more
