-- Literals that are known, and what they are found by.
use Rattle.std.proofs.Common.{ℕ, suc, is_some, ◌||◌, ◌≡◌, ◌+◌, ◌<◌, ◌++◌, ◌∷◌, [], Bool, true, false, not, if◌then◌else◌, List, map, take, length, get_or, Option, Some, None, slice_get, Contains, ◌⊎◌, refl, sym, ap, subst, ◌∙◌, inl, inr, arith}
use Rattle.std.specs.List.{list_any, position}
use Rattle.std.specs.Option.{option_map}
use Rattle.std.proofs.lemmas.Bool.{false≢true, not-true, not-false, or_left, or_right}
use Rattle.std.proofs.lemmas.Option.{slice_get-map, slice_get_within, slice_get-get_or}
use Rattle.std.proofs.lemmas.List.{map-append, take_more}
use Rattle.std.proofs.lemmas.List.Elements.{Contains-append_left, Contains-push, Contains-push_cases}
use Rattle.std.proofs.lemmas.List.Quantifiers.{position-Some}
use Rattle.clause_form.specs.declared.clause.Lit.{Lit}
use Rattle.clause_learning.specs.Refutations.{HasSame}
use Rattle.clause_learning.proofs.Members.{got_in, in_cons, nothing_in}
use Rattle.sat_step.proofs.Renaming.{map_in, in_map}
use Rattle.chain_proofs.specs.Known.{lit_code}
use Rattle.chain_proofs.specs.code.Keys.{Adds, IsPlace, IsPlaceOrNext}
use Rattle.chain_proofs.proofs.Literals.{code_tells}

any_true : {K : Type 0} (p : K → Bool) (ks : List K) (k : K) → Contains ks k → p k ≡ true → list_any p ks ≡ true
any_true p [] k there h = absurd (nothing_in k there)
any_true p (x ∷ ks) k there h =
    elim (in_cons x ks k there) [
      | inl e ↦ or_left (p x) (list_any p ks) (ap p e ∙ h)
      | inr rest ↦ or_right (p x) (list_any p ks) (any_true p ks k rest h)
    ]

key_of_any : {K : Type 0} (p : K → Bool) (ks : List K) → list_any p ks ≡ true → (i : ℕ) × (x : K) × (slice_get ks i ≡ Some x) × (p x ≡ true)
key_of_any p [] h = absurd (false≢true h)
key_of_any {K} p (x ∷ ks) h = by (p x) refl (λ e. key_of_any p ks e)
  where
    by : (b : Bool) → p x ≡ b → (list_any p ks ≡ true → (i : ℕ) × (y : K) × (slice_get ks i ≡ Some y) × (p y ≡ true)) → (i : ℕ) × (y : K) × (slice_get (x ∷ ks) i ≡ Some y) × (p y ≡ true)
    by true e rest = (0, x, refl, e)
    by false e rest = let found = rest (sym (ap (λ (b : Bool). b || list_any p ks) e) ∙ h) in (suc found.0, found.1, found.2, found.3)

-- keys with these texts, where keys of one text are the same
module _ {K : Type 0} (text : K → List ℕ) (eq : K → K → Bool) (knows : (a b : K) → text a ≡ text b → eq a b ≡ true) (tells : (a b : K) → eq a b ≡ true → text a ≡ text b) where
  -- the literal at the place of a key that is the same
  found_at : (ks : List K) (k : K) (lits : List Lit) (l : Lit) (i : ℕ) (key : K) → map text ks ≡ map lit_code lits → text k ≡ lit_code l → slice_get ks i ≡ Some key → eq k key ≡ true → slice_get lits i ≡ Some l
  found_at ks k lits l i key codes own there same =
      let texts : slice_get (map text ks) i ≡ Some (text key) = slice_get-map text ks i ∙ ap (option_map text) there in
      let code : text key ≡ lit_code l = sym (tells k key same) ∙ own in
      by (slice_get lits i) refl (sym (slice_get-map lit_code lits i) ∙ (ap (λ (cs : List (List ℕ)). slice_get cs i) (sym codes) ∙ (texts ∙ ap (λ (c : List ℕ). Some c) code)))
    where
      by : (o : Option Lit) → slice_get lits i ≡ o → option_map lit_code (slice_get lits i) ≡ Some (lit_code l) → slice_get lits i ≡ Some l
      by None e h = absurd (let never : None ≡ Some (lit_code l) = ap (option_map lit_code) (sym e) ∙ h in cc)
      by (Some m) e h =
          let two : Some (lit_code m) ≡ Some (lit_code l) = ap (option_map lit_code) (sym e) ∙ h in
          let alike : lit_code m ≡ lit_code l = cc in
          e ∙ ap (λ (x : Lit). Some x) (code_tells m l alike)

  -- a literal whose key is not found is not there
  pub not_there : (ks : List K) (k : K) (lits : List Lit) (l : Lit) → map text ks ≡ map lit_code lits → text k ≡ lit_code l → list_any (eq k) ks ≡ false → Contains lits l → ⊥
  not_there ks k lits l codes own none there =
      let in_codes : Contains (map lit_code lits) (lit_code l) = map_in lit_code lits l there in
      let in_texts : Contains (map text ks) (text k) = subst (λ (cs : List (List ℕ)). Contains cs (text k)) (sym codes) (subst (Contains (map lit_code lits)) (sym own) in_codes) in
      let one = in_map text ks (text k) in_texts in
      false≢true (sym none ∙ any_true (eq k) ks one.0 one.1 (knows k one.0 (sym one.2)))

  -- the literal at the place of its key
  found_there : (ks : List K) (k : K) (lits : List Lit) (l : Lit) (i : ℕ) → map text ks ≡ map lit_code lits → text k ≡ lit_code l → position (eq k) ks ≡ Some i → slice_get lits i ≡ Some l
  found_there ks k lits l i codes own at =
      let spot = position-Some (eq k) ks i k at in
      found_at ks k lits l i (get_or ks i k) codes own (slice_get-get_or ks i k spot.0) spot.1

  pub placed : (ks : List K) (k : K) (lits : List Lit) (l : Lit) (o : Option ℕ) → map text ks ≡ map lit_code lits → text k ≡ lit_code l → o ≡ position (eq k) ks → is_some o ≡ list_any (eq k) ks → IsPlace lits l o
  placed ks k lits l None codes own is found = not_there ks k lits l codes own (sym found)
  placed ks k lits l (Some i) codes own is found = found_there ks k lits l i codes own (sym is)

  -- a literal is added
  pub added : (ks new : List K) (k : K) (is_new : Bool) (lits : List Lit) (l : Lit) → map text ks ≡ map lit_code lits → text k ≡ lit_code l → is_new ≡ not (list_any (eq k) ks) → is_new ≡ true → new ≡ (if list_any (eq k) ks then ks else ks ++ k ∷ [])
      → map text new ≡ map lit_code (lits ++ l ∷ [])
  added ks new k is_new lits l codes own fresh on is =
      let none : list_any (eq k) ks ≡ false = not-true (list_any (eq k) ks) (sym fresh ∙ on) in
      ap (map text) (is ∙ ap (λ (b : Bool). if b then ks else ks ++ k ∷ []) none) ∙ map-append text ks (k ∷ []) ∙ ap (λ (cs : List (List ℕ)). cs ++ text k ∷ []) codes
      ∙ ap (λ (c : List ℕ). map lit_code lits ++ c ∷ []) own ∙ sym (map-append lit_code lits (l ∷ []))

  pub kept : (ks new : List K) (k : K) (is_new : Bool) (lits : List Lit) → map text ks ≡ map lit_code lits → is_new ≡ not (list_any (eq k) ks) → is_new ≡ false → new ≡ (if list_any (eq k) ks then ks else ks ++ k ∷ []) → map text new ≡ map lit_code lits
  kept ks new k is_new lits codes fresh off is =
      let there : list_any (eq k) ks ≡ true = not-false (list_any (eq k) ks) (sym fresh ∙ off) in
      ap (map text) (is ∙ ap (λ (b : Bool). if b then ks else ks ++ k ∷ []) there) ∙ codes

  -- a literal that was there
  pub was_there : (ks : List K) (k : K) (is_new : Bool) (lits : List Lit) (l : Lit) → map text ks ≡ map lit_code lits → text k ≡ lit_code l → is_new ≡ not (list_any (eq k) ks) → is_new ≡ false → Contains lits l
  was_there ks k is_new lits l codes own fresh off =
      let there : list_any (eq k) ks ≡ true = not-false (list_any (eq k) ks) (sym fresh ∙ off) in
      let key = key_of_any (eq k) ks there in
      got_in lits key.0 l (found_at ks k lits l key.0 key.1 codes own key.2 key.3)

-- a literal is among those that are there, whether it is new or not
pub adds_same : (is_new : Bool) (lits old : List Lit) (i : ℕ) (l : Lit) (copy : Lit) (new : List Lit) → i < length lits → l ≡ get_or lits i l → copy ≡ l → HasSame (take i lits) old → Adds is_new old copy new → HasSame (take (i + 1) lits) new
adds_same is_new lits old i l copy new lt is same h adds x =
    let longer : take (i + 1) lits ≡ take i lits ++ l ∷ [] = take_more lits i l lt ∙ ap (λ (d : Lit). take i lits ++ d ∷ []) (sym is) in
    (λ there. subst (λ (ls : List Lit). Contains ls x) (sym longer) (back is_new adds there), λ there. forth is_new adds (Contains-push_cases (take i lits) l x (subst (λ (ls : List Lit). Contains ls x) longer there)))
  where
    back : (b : Bool) → Adds b old copy new → Contains new x → Contains (take i lits ++ l ∷ []) x
    back true e there =
        elim (Contains-push_cases old copy x (subst (λ (ls : List Lit). Contains ls x) e there)) [
          | inl was ↦ Contains-append_left (take i lits) (l ∷ []) x ((h x).0 was)
          | inr own ↦ subst (Contains (take i lits ++ l ∷ [])) (sym same ∙ own) (Contains-push (take i lits) l)
        ]
    back false e there = Contains-append_left (take i lits) (l ∷ []) x ((h x).0 (subst (λ (ls : List Lit). Contains ls x) e.0 there))

    forth : (b : Bool) → Adds b old copy new → Contains (take i lits) x ⊎ (l ≡ x) → Contains new x
    forth true e (inl was) = subst (λ (ls : List Lit). Contains ls x) (sym e) (Contains-append_left old (copy ∷ []) x ((h x).1 was))
    forth true e (inr own) = subst (λ (ls : List Lit). Contains ls x) (sym e) (subst (Contains (old ++ copy ∷ [])) (same ∙ own) (Contains-push old copy))
    forth false e (inl was) = subst (λ (ls : List Lit). Contains ls x) (sym e.0) ((h x).1 was)
    forth false e (inr own) = subst (λ (ls : List Lit). Contains ls x) (sym e.0) (subst (Contains old) (same ∙ own) e.1)
