-- What is known of the symbols of one name.
use Rattle.std.proofs.Common.{◌≡◌, ℕ, zero, suc, ◌+◌, ◌<◌, ◌≤◌, ◌==◌, ◌&&◌, ◌||◌, Bool, true, false, not, cond, List, [], ◌∷◌, ◌++◌, length, take, slice_get, Option, Some, None, Ok, Err, add-one, refl, sym, ◌∙◌, ap, subst, arith, nat_eq}
use Rattle.std.specs.List.{list_any}
use Rattle.std.specs.Str.{bytes_eq}
use Rattle.std.specs.Cmp.Lexicographic.{pointwise, bytes_decides, nat_list_eq_equiv}
use Rattle.std.specs.HashMap as hash
use Rattle.std.specs.Map.{lookup, IsKeyTest, AreApart, KeepsOthers}
use Rattle.std.proofs.lemmas.Bool.Decides.{nat_tests}
use Rattle.std.proofs.lemmas.List.{take_all, length-append}
use Rattle.std.proofs.lemmas.Map.Keys.{any_passes_from_place}
use Rattle.std.proofs.lemmas.Option.{slice_get_within}
use Rattle.fof_terms.proofs.LiftingLaws.{both}
use Rattle.fof_terms.specs.Vocabulary.{Vocabulary, is_kind}
use Rattle.fof_terms.specs.declared.signature.Kind.{Kind}
use Rattle.fof_terms.specs.declared.signature.Kind.TheVariants.{Function, Predicate}
use Rattle.fof_terms.specs.declared.signature.Symbol.{Symbol}
use Rattle.sort_check.specs.declared.namesakes.Namesake.{Namesake}
use Rattle.sort_check.specs.declared.namesakes.Namesakes.{Namesakes}
use Rattle.tptp_base.specs.declared.limit.LimitName.TheVariants.{Symbols}
use Rattle.sort_check.specs.declared.fault.SortRule.{SortRule}
use Rattle.sort_check.specs.declared.fault.SortRule.TheVariants.{Limit}
use Rattle.sort_check.specs.Outcomes.{Outcome}
use Rattle.sort_check.specs.Symbols.{Text, with_symbol}
use Rattle.sort_check.specs.Texts.{differs}
use Rattle.sort_check.specs.code.Texts.{other_at}
use Rattle.sort_check.proofs.Stepping.{at_ok}
use Rattle.sort_check.specs.Namesakes.{found, IsFirst, IsKnown, Knows}
use Rattle.sort_check.specs.code.Namesakes.{Puts, unlike_at, noted}

-- ---- symbols that do not differ

same_kind : (a b : Kind) → is_kind a b ≡ true → a ≡ b
same_kind Function Function e = refl
same_kind Function Predicate e = absurd (cc)
same_kind Predicate Function e = absurd (cc)
same_kind Predicate Predicate e = refl

is_own_kind : (a : Kind) → is_kind a a ≡ true
is_own_kind Function = refl
is_own_kind Predicate = refl

abbrev alike : Symbol → Symbol → Bool
alike s t = is_kind t.kind s.kind && (pointwise nat_eq t.args s.args && t.result == s.result)

-- symbols of one name that do not differ are one
one_symbol : (s t : Symbol) → bytes_eq t.name s.name ≡ true → alike s t ≡ true → t ≡ s
one_symbol s t named e =
    let parts = both (is_kind t.kind s.kind) (pointwise nat_eq t.args s.args && t.result == s.result) e in
    let rest = both (pointwise nat_eq t.args s.args) (t.result == s.result) parts.1 in
    let name : t.name ≡ s.name = (bytes_decides t.name s.name).0 named in
    let kind : t.kind ≡ s.kind = same_kind t.kind s.kind parts.0 in
    let args : t.args ≡ s.args = (bytes_decides t.args s.args).0 rest.0 in
    let result : t.result ≡ s.result = grind (arith, nat_tests) in
    ap (λ (n : Text). with n t.kind t.args t.result) name
    ∙ ap (λ (k : Kind). with s.name k t.args t.result) kind
    ∙ ap (λ (a : List ℕ). with s.name s.kind a t.result) args
    ∙ ap (with s.name s.kind s.args) result
  where
    with : Text → Kind → List ℕ → ℕ → Symbol
    with name kind args result = record { name = name; kind = kind; args = args; result = result }

itself : (n : ℕ) → (n == n) ≡ true
itself n = grind (arith, nat_tests)

not_itself : (s : Symbol) → differs s s ≡ false
not_itself s =
    let same : alike s s ≡ true = rw (is_own_kind s.kind, nat_list_eq_equiv.refl s.args, itself s.result) refl in
    ap (λ b. bytes_eq s.name s.name && not b) same ∙ none (bytes_eq s.name s.name)
  where
    none : (b : Bool) → (b && false) ≡ false
    none true = refl
    none false = refl

of_other_name : (s t : Symbol) → bytes_eq t.name s.name ≡ false → differs s t ≡ false
of_other_name s t e = ap (λ b. b && not (alike s t)) e

neither : (a b : Bool) → (a || b) ≡ false → (a ≡ false) × (b ≡ false)
neither false b e = (refl, e)
neither true b e = absurd (cc)

-- no symbol of the name differs where there is none
pub none_differs : (name : Text) (s : Symbol) (symbols : List Symbol) → name ≡ s.name → IsKnown name symbols None → list_any (differs s) symbols ≡ false
none_differs name s [] is none = refl
none_differs name s (t ∷ symbols) is none =
    let parts = neither (bytes_eq t.name name) (list_any (λ (u : Symbol). bytes_eq u.name name) symbols) none in
    ap (λ b. b || list_any (differs s) symbols) (of_other_name s t (ap (bytes_eq t.name) (sym is) ∙ parts.0)) ∙ none_differs name s symbols is parts.1

-- whether one differs is known from the first
pub first_differs : (name : Text) (s : Symbol) (symbols : List Symbol) (entry : Namesake) → name ≡ s.name → IsFirst name symbols entry → (entry.is_mixed || other_at s (slice_get symbols entry.first)) ≡ list_any (differs s) symbols
first_differs name s symbols entry is first =
    ap (λ o. entry.is_mixed || other_at s o) first.at ∙ ap (λ b. b || differs s first.symbol) first.mixed ∙ by (differs s first.symbol) refl
  where
    named : bytes_eq first.symbol.name s.name ≡ true
    named = ap (bytes_eq first.symbol.name) (sym is) ∙ first.named

    or_true : (b : Bool) → (b || true) ≡ true
    or_true true = refl
    or_true false = refl

    or_false : (b : Bool) → (b || false) ≡ b
    or_false true = refl
    or_false false = refl

    is_alike : (a b : Bool) → a ≡ true → (a && not b) ≡ false → b ≡ true
    is_alike true true n e = refl
    is_alike true false n e = absurd (cc)
    is_alike false b n e = absurd (cc)

    by : (b : Bool) → differs s first.symbol ≡ b → (list_any (differs first.symbol) symbols || differs s first.symbol) ≡ list_any (differs s) symbols
    by true e = ap (λ b. list_any (differs first.symbol) symbols || b) e ∙ or_true (list_any (differs first.symbol) symbols) ∙ sym (any_passes_from_place (differs s) symbols entry.first first.symbol first.at e)
    by false e =
        let one : first.symbol ≡ s = one_symbol s first.symbol named (is_alike (bytes_eq first.symbol.name s.name) (alike s first.symbol) named e) in
        ap (λ b. list_any (differs first.symbol) symbols || b) e ∙ or_false (list_any (differs first.symbol) symbols) ∙ ap (λ (t : Symbol). list_any (differs t) symbols) one

-- ---- one symbol more

any_last : {X : Type 0} (p : X → Bool) (xs : List X) (x : X) → list_any p (xs ++ x ∷ []) ≡ (list_any p xs || p x)
any_last p [] x = by (p x)
  where
    by : (b : Bool) → (b || false) ≡ (false || b)
    by true = refl
    by false = refl
any_last p (y ∷ xs) x = by (p y) (any_last p xs x)
  where
    by : (b : Bool) → list_any p (xs ++ x ∷ []) ≡ (list_any p xs || p x) → (b || list_any p (xs ++ x ∷ [])) ≡ ((b || list_any p xs) || p x)
    by true is = refl
    by false is = is

last_of : {X : Type 0} (xs : List X) (x : X) → slice_get (xs ++ x ∷ []) (length xs) ≡ Some x
last_of [] x = refl
last_of (y ∷ xs) x = last_of xs x

in_front : {X : Type 0} (xs ys : List X) (k : ℕ) (x : X) → slice_get xs k ≡ Some x → slice_get (xs ++ ys) k ≡ Some x
in_front [] ys k x e = absurd (cc)
in_front (y ∷ xs) ys zero x e = e
in_front (y ∷ xs) ys (suc k) x e = in_front xs ys k x e

-- of another name the same is known
kept_name : (name : Text) (symbols : List Symbol) (s : Symbol) (o : Option Namesake) → bytes_eq s.name name ≡ false → IsKnown name symbols o → IsKnown name (symbols ++ s ∷ []) o
kept_name name symbols s None other known = any_last (λ (t : Symbol). bytes_eq t.name name) symbols s ∙ ap (λ b. list_any (λ (t : Symbol). bytes_eq t.name name) symbols || b) other ∙ or_false (list_any (λ (t : Symbol). bytes_eq t.name name) symbols) ∙ known
  where
    or_false : (b : Bool) → (b || false) ≡ b
    or_false true = refl
    or_false false = refl
kept_name name symbols s (Some entry) other known =
    let apart : bytes_eq s.name known.symbol.name ≡ false = ap (bytes_eq s.name) ((bytes_decides known.symbol.name name).0 known.named) ∙ other in
    record {
      symbol = known.symbol;
      at = in_front symbols (s ∷ []) entry.first known.symbol known.at;
      named = known.named;
      mixed = known.mixed ∙ sym (or_false (list_any (differs known.symbol) symbols)) ∙ ap (λ b. list_any (differs known.symbol) symbols || b) (sym (of_other_name known.symbol s apart)) ∙ sym (any_last (differs known.symbol) symbols s);
    }
  where
    or_false : (b : Bool) → (b || false) ≡ b
    or_false true = refl
    or_false false = refl

-- what is known of the name of the new symbol, where all symbols begin with these
own_name : (symbols all : List Symbol) (s : Symbol) (number : ℕ) (o : Option Namesake) → number ≡ length symbols → ((k : ℕ) (t : Symbol) → slice_get symbols k ≡ Some t → slice_get all k ≡ Some t) → IsKnown s.name symbols o → IsFirst s.name (symbols ++ s ∷ []) (noted o all number s)
own_name symbols all s number None count begins known = record {
  symbol = s;
  at = ap (slice_get (symbols ++ s ∷ [])) count ∙ last_of symbols s;
  named = nat_list_eq_equiv.refl s.name;
  mixed = sym (any_last (differs s) symbols s ∙ ap (λ b. b || differs s s) (none_differs s.name s symbols refl known) ∙ not_itself s);
}
own_name symbols all s number (Some entry) count begins known = record {
  symbol = known.symbol;
  at = in_front symbols (s ∷ []) entry.first known.symbol known.at;
  named = known.named;
  mixed = ap (λ b. b || unlike_at (slice_get all entry.first) s) known.mixed
      ∙ ap (λ o. list_any (differs known.symbol) symbols || unlike_at o s) (begins entry.first known.symbol known.at)
      ∙ sym (any_last (differs known.symbol) symbols s);
}

knows_more : (old new : Namesakes) (symbols all : List Symbol) (s : Symbol) (number : ℕ) → number ≡ length symbols → ((k : ℕ) (t : Symbol) → slice_get symbols k ≡ Some t → slice_get all k ≡ Some t) → Knows old symbols → Puts old s.name (noted (found old s.name) all number s) new → Knows new (symbols ++ s ∷ [])
knows_more old new symbols all s number count begins knows puts name = subst (IsKnown name (symbols ++ s ∷ [])) (sym (puts name)) (by (bytes_eq s.name name) refl)
  where
    by : (b : Bool) → bytes_eq s.name name ≡ b → IsKnown name (symbols ++ s ∷ []) (cond b (Some (noted (found old s.name) all number s)) (found old name))
    by true e = subst (λ (n : Text). IsFirst n (symbols ++ s ∷ []) (noted (found old s.name) all number s)) ((bytes_decides s.name name).0 e) (own_name symbols all s number (found old s.name) count begins (knows s.name))
    by false e = kept_name name symbols s (found old name) e (knows name)

taken_length : {X : Type 0} (xs : List X) (n : ℕ) → n ≤ length xs → n ≡ length (take n xs)
taken_length xs zero le = refl
taken_length [] (suc n) le = absurd (omega (arith, le))
taken_length (x ∷ xs) (suc n) le = ap suc (taken_length xs n (omega (arith, le)))

taken_begins : {X : Type 0} (xs : List X) (n k : ℕ) (x : X) → slice_get (take n xs) k ≡ Some x → slice_get xs k ≡ Some x
taken_begins xs zero k x e = absurd (cc)
taken_begins [] (suc n) k x e = absurd (cc)
taken_begins (y ∷ xs) (suc n) zero x e = e
taken_begins (y ∷ xs) (suc n) (suc k) x e = taken_begins xs n k x e

taken_last : {X : Type 0} (xs : List X) (n : ℕ) (x : X) → slice_get xs n ≡ Some x → take n xs ++ x ∷ [] ≡ take (n + 1) xs
taken_last [] n x e = absurd (cc)
taken_last (y ∷ xs) zero x e = let same : y ≡ x = cc in ap (λ z. z ∷ []) (sym same)
taken_last (y ∷ xs) (suc n) x e = rw add-one (ap (λ l. y ∷ l) (rw add-one at (taken_last xs n x e)))

pub knows_at : (old new : Namesakes) (all : List Symbol) (s : Symbol) (number : ℕ) → slice_get all number ≡ Some s → Knows old (take number all) → Puts old s.name (noted (found old s.name) all number s) new → Knows new (take (number + 1) all)
knows_at old new all s number at knows puts =
    let within = slice_get_within all number s at in
    subst (Knows new) (taken_last all number s at) (knows_more old new (take number all) all s number (taken_length all number (omega (arith, within))) (taken_begins all number) knows puts)

-- ---- a symbol that is added to a vocabulary

added : (s : Symbol) (v w : Vocabulary) (n : ℕ) → with_symbol s v ≡ Ok (n, w) → (n ≡ length v.symbols) × (w.symbols ≡ v.symbols ++ s ∷ [])
added s v w n e = by (length v.symbols == 16777216) e
  where
    by : (b : Bool) → ◌≡◌ {A = Outcome SortRule Vocabulary ℕ} (cond b (Err (Limit Symbols)) (Ok (length v.symbols, record v { symbols = v.symbols ++ s ∷ [] }))) (Ok (n, w)) → (n ≡ length v.symbols) × (w.symbols ≡ v.symbols ++ s ∷ [])
    by true k = absurd (cc)
    by false k = at_ok {E = SortRule} (λ m (u : Vocabulary). (m ≡ length v.symbols) × (u.symbols ≡ v.symbols ++ s ∷ [])) (length v.symbols) n (record v { symbols = v.symbols ++ s ∷ [] }) w k (refl, refl)

front_taken : {X : Type 0} (xs ys : List X) → take (length xs) (xs ++ ys) ≡ xs
front_taken [] ys = refl
front_taken (x ∷ xs) ys = ap (λ l. x ∷ l) (front_taken xs ys)

pub added_within : (s : Symbol) (v w : Vocabulary) (n : ℕ) → with_symbol s v ≡ Ok (n, w) → n < length w.symbols
added_within s v w n e = let parts = added s v w n e in omega (arith, parts.0, ap length parts.1, length-append v.symbols (s ∷ []))

pub known_before : (namesakes : Namesakes) (s : Symbol) (v w : Vocabulary) (n : ℕ) → with_symbol s v ≡ Ok (n, w) → Knows namesakes v.symbols → Knows namesakes (take n w.symbols)
known_before namesakes s v w n e knows =
    let parts = added s v w n e in
    let front : take n w.symbols ≡ v.symbols = ap (take n) parts.1 ∙ ap (λ k. take k (v.symbols ++ s ∷ [])) parts.0 ∙ front_taken v.symbols (s ∷ []) in
    subst (Knows namesakes) (sym front) knows

pub known_after : (namesakes : Namesakes) (s : Symbol) (v w : Vocabulary) (n : ℕ) → with_symbol s v ≡ Ok (n, w) → Knows namesakes (take (n + 1) w.symbols) → Knows namesakes w.symbols
known_after namesakes s v w n e knows =
    let parts = added s v w n e in
    let all : length w.symbols ≤ n + 1 = omega (arith, parts.0, ap length parts.1, length-append v.symbols (s ∷ [])) in
    subst (Knows namesakes) (take_all (n + 1) w.symbols all) knows

-- ---- the table

apart : (bs cs ks : List ℕ) → bytes_eq bs cs ≡ false → bytes_eq bs ks ≡ true → bytes_eq cs ks ≡ false
apart bs cs ks n y = nat_list_eq_equiv.symm cs ks ∙ sym (nat_list_eq_equiv.congr bs ks cs y) ∙ n

other_entries : {K X : Type 0} (eq : K → K → Bool) (test : K → Bool) (old new : List (K × X)) → KeepsOthers eq test old new → (other : K → Bool) → IsKeyTest eq other → AreApart test other → lookup other new ≡ lookup other old
unfolding KeepsOthers
other_entries eq test old new h = h

pub puts : (old new : Namesakes) (name : Text) (w : Option Namesake) → hash.UpdatesBy (λ x y. bytes_eq x.items y.items) (λ k. bytes_eq name k.items) old.entries new.entries w → (other : Text) → found new other ≡ cond (bytes_eq name other) w (found old other)
unfolding found
puts old new name w updates other = by (bytes_eq name other) refl
  where
    by : (b : Bool) → bytes_eq name other ≡ b → hash.get_by (λ k. bytes_eq other k.items) new.entries ≡ cond b w (hash.get_by (λ k. bytes_eq other k.items) old.entries)
    by true y = subst (λ (n : Text). hash.get_by (λ k. bytes_eq n k.items) new.entries ≡ w) ((bytes_decides name other).0 y) updates.1
    by false n = other_entries (λ x y. bytes_eq x.items y.items) (λ k. bytes_eq name k.items) old.entries.entries new.entries.entries updates.3 (λ k. bytes_eq other k.items) (λ x y. nat_list_eq_equiv.congr other x.items y.items) (λ k. apart name other k.items n)

pub puts_at : (old new : Namesakes) (items name : Text) (entry : Namesake) → items ≡ name → hash.UpdatesBy (λ x y. bytes_eq x.items y.items) (λ k. bytes_eq items k.items) old.entries new.entries (Some entry) → Puts old name entry new
puts_at old new items name entry same updates = subst (λ (n : Text). Puts old n entry new) same (puts old new items (Some entry) updates)
