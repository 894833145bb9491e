-- Sets of names.
use Rattle.std.proofs.Common.{◌≡◌, ℕ, ◌+◌, ◌<◌, ◌≤◌, ◌||◌, Bool, true, false, if◌then◌else◌, List, [], ◌∷◌, ◌++◌, length, take, drop, get_or, reverse, filter, find, append_assoc, append-nil, Some, None, Ok, Err, refl, sym, ap, subst, ◌∙◌, inl, inr}
use Rattle.std.specs.List.{list_any}
use Rattle.std.specs.Str.{bytes_eq}
use Rattle.std.proofs.lemmas.List.Folds.{list_any-append}
use Rattle.std.proofs.lemmas.List.{take_more, take_all, drop_more, drop_all, reverse-append}
use Rattle.std.proofs.lemmas.List.Elements.{filter-append}
use Rattle.indexmap.specs.IndexSet.{insert_key}
use Rattle.std.specs.Prelude.{OnOk, IfOk, IfErr}
use Rattle.std.specs.declared.option.Option.{Option}
use Rattle.std.specs.declared.result.Result.{Result}
use Rattle.tptp_base.specs.declared.item.Item.{Item}
use Rattle.tptp_base.specs.declared.item.Item.TheVariants.{Comment, Formula, Include}
use Rattle.tptp_base.specs.declared.name.Name.{Name}
use Rattle.tptp_base.specs.declared.name.Name.TheVariants.{Word, Integer}
use Rattle.include_resolve.specs.declared.fault.IncludeFault.{IncludeFault}
use Rattle.include_resolve.specs.declared.fault.IncludeFault.TheVariants as fault
use Rattle.include_resolve.specs.declared.name_set.NameSet.{NameSet}
use Rattle.include_resolve.specs.Names.{Text}
use Rattle.include_resolve.specs.code.NameSet.{has, knows, knows_item}
use Rattle.include_resolve.specs.Parts.{Answer}
use Rattle.include_resolve.specs.Selection.{is_same_name, is_among, is_selected, unknown_name, chosen}
use Rattle.include_resolve.specs.code.Selecting.{Selects, IsUnknown}
use Rattle.include_resolve.proofs.Joins.{part_of}

or_twice : (b r : Bool) → (b || (b || r)) ≡ (b || r)
or_twice true r = refl
or_twice false r = refl

or_under : (b c r : Bool) → (b || r) ≡ r → (b || (c || r)) ≡ (c || r)
or_under true true r e = refl
or_under true false r e = e
or_under false c r e = refl

pub or_last : (a b : Bool) → (a || (b || false)) ≡ (b || a)
or_last true true = refl
or_last true false = refl
or_last false true = refl
or_last false false = refl

absorbs_by : {K : Type 0} (p e : K → Bool) (v k : K) (ks : List K) → (e k ≡ true → p k ≡ p v) → (list_any e ks ≡ true → (p v || list_any p ks) ≡ list_any p ks) → (b : Bool) → e k ≡ b → (b || list_any e ks) ≡ true
    → (p v || (p k || list_any p ks)) ≡ (p k || list_any p ks)
absorbs_by p e v k ks same on true is h = ap (λ b. b || (p k || list_any p ks)) (sym (same is)) ∙ or_twice (p k) (list_any p ks)
absorbs_by p e v k ks same on false is h = or_under (p v) (p k) (list_any p ks) (on h)

-- what is there already adds nothing
any_absorbs : {K : Type 0} (p e : K → Bool) (v : K) (ks : List K) → ((k : K) → e k ≡ true → p k ≡ p v) → list_any e ks ≡ true → (p v || list_any p ks) ≡ list_any p ks
any_absorbs p e v [] same h = cc
any_absorbs p e v (k ∷ ks) same h = absorbs_by p e v k ks (same k) (any_absorbs p e v ks same) (e k) refl h

-- a key that is inserted passes a test of its bytes, and no other new one does
pub any_insert : {K : Type 0} (f : K → List ℕ) (eq : K → K → Bool) → ((a b : K) → eq a b ≡ true → f b ≡ f a) → (t : List ℕ) (ks : List K) (v : K)
    → list_any (λ k. bytes_eq t (f k)) (insert_key eq ks v) ≡ (bytes_eq t (f v) || list_any (λ k. bytes_eq t (f k)) ks)
any_insert {K} f eq same t ks v = by_test (list_any (eq v) ks) refl
  where
    by_test : (b : Bool) → list_any (eq v) ks ≡ b → list_any (λ k. bytes_eq t (f k)) (if b then ks else ks ++ v ∷ []) ≡ (bytes_eq t (f v) || list_any (λ k. bytes_eq t (f k)) ks)
    by_test true is = sym (any_absorbs (λ k. bytes_eq t (f k)) (eq v) v ks (λ k e. ap (bytes_eq t) (same v k e)) is)
    by_test false is = list_any-append (λ k. bytes_eq t (f k)) ks (v ∷ []) ∙ or_last (list_any (λ k. bytes_eq t (f k)) ks) (bytes_eq t (f v))

pub any_more : {X : Type 0} (p : X → Bool) (xs : List X) (i : ℕ) (x : X) (b c : Bool) → i < length xs → x ≡ get_or xs i x → c ≡ (p x || b) → b ≡ list_any p (take i xs) → c ≡ list_any p (take (i + 1) xs)
any_more p xs i x b c lt is e f =
    e ∙ ap (λ d. p x || d) f ∙ sym (or_last (list_any p (take i xs)) (p x)) ∙ sym (list_any-append p (take i xs) (x ∷ [])) ∙ ap (list_any p) (sym (take_more xs i x lt ∙ ap (λ y. take i xs ++ y ∷ []) (sym is)))

pub any_end : {X : Type 0} (p : X → Bool) (xs : List X) (i : ℕ) (b : Bool) → length xs ≤ i → b ≡ list_any p (take i xs) → b ≡ list_any p xs
any_end p xs i b le e = e ∙ ap (list_any p) (take_all i xs le)

-- ---- the first that passes a test

found_by : {X : Type 0} (p : X → Bool) (x : X) (xs : List X) (b : Bool) → p x ≡ b → find p (x ∷ xs) ≡ (if b then Some x else find p xs)
found_by p x xs b e = ap (λ (c : Bool). if c then Some x else find p xs) e

next_one : {X : Type 0} (xs : List X) (i : ℕ) (x : X) → i < length xs → x ≡ get_or xs i x → drop i xs ≡ x ∷ drop (i + 1) xs
next_one xs i x lt is = drop_more xs i x lt ∙ ap (λ y. y ∷ drop (i + 1) xs) (sym is)

pub find_here : {X : Type 0} (p : X → Bool) (xs : List X) (i : ℕ) (x : X) → i < length xs → x ≡ get_or xs i x → p x ≡ true → find p (drop i xs) ≡ find p xs → Some x ≡ find p xs
find_here p xs i x lt is e f = sym (found_by p x (drop (i + 1) xs) true e) ∙ sym (ap (find p) (next_one xs i x lt is)) ∙ f

pub find_on : {X : Type 0} (p : X → Bool) (xs : List X) (i : ℕ) (x : X) → i < length xs → x ≡ get_or xs i x → p x ≡ false → find p (drop i xs) ≡ find p xs → find p (drop (i + 1) xs) ≡ find p xs
find_on p xs i x lt is e f = sym (found_by p x (drop (i + 1) xs) false e) ∙ sym (ap (find p) (next_one xs i x lt is)) ∙ f

pub find_end : {X : Type 0} (p : X → Bool) (xs : List X) (i : ℕ) → length xs ≤ i → find p (drop i xs) ≡ find p xs → None ≡ find p xs
find_end p xs i le f = sym (ap (find p) (drop_all i xs le)) ∙ f

-- ---- what passes a test

filter_last : {X : Type 0} (p : X → Bool) (rest : List X) (x : X) (b : Bool) → p x ≡ b → filter p (rest ++ x ∷ []) ≡ filter p rest ++ (if b then x ∷ [] else [])
filter_last p rest x b e = filter-append p rest (x ∷ []) ∙ ap (λ (c : Bool). filter p rest ++ (if c then x ∷ [] else [])) e

pub kept_more : {X : Type 0} (p : X → Bool) (left rest kept more all : List X) (x : X) (b : Bool) → left ≡ rest ++ x ∷ [] → more ≡ (if b then kept ++ x ∷ [] else kept) → p x ≡ b
    → filter p left ++ reverse kept ≡ all → filter p rest ++ reverse more ≡ all
kept_more p left rest kept more all x true is e f h =
    ap (λ l. filter p rest ++ reverse l) e ∙ ap (λ l. filter p rest ++ l) (reverse-append kept (x ∷ [])) ∙ sym (append_assoc (filter p rest) (x ∷ []) (reverse kept))
    ∙ ap (λ l. l ++ reverse kept) (sym (ap (filter p) is ∙ filter_last p rest x true f)) ∙ h
kept_more p left rest kept more all x false is e f h =
    ap (λ l. filter p rest ++ reverse l) e ∙ ap (λ l. l ++ reverse kept) (sym (ap (filter p) is ∙ filter_last p rest x false f ∙ append-nil (filter p rest))) ∙ h

pub kept_end : {X : Type 0} (p : X → Bool) (left kept all : List X) → left ≡ [] → filter p left ++ reverse kept ≡ all → reverse kept ≡ all
kept_end p left kept all e h = sym (ap (λ l. filter p l ++ reverse kept) e) ∙ h

-- ---- sets of names

word_case : (old new : NameSet) (text : List ℕ) → new.integers.keys ≡ old.integers.keys → ((t : List ℕ) → has new.words.keys t ≡ (bytes_eq t text || has old.words.keys t)) → (other : Name)
    → knows new other ≡ (is_same_name other (Word text) || knows old other)
word_case old new text e h (Word t) = h t
word_case old new text e h (Integer t) = ap (λ ks. list_any (λ key. bytes_eq t key.items) ks) e

integer_case : (old new : NameSet) (text : List ℕ) → new.words.keys ≡ old.words.keys → ((t : List ℕ) → has new.integers.keys t ≡ (bytes_eq t text || has old.integers.keys t)) → (other : Name)
    → knows new other ≡ (is_same_name other (Integer text) || knows old other)
integer_case old new text e h (Word t) = ap (λ ks. list_any (λ key. bytes_eq t key.items) ks) e
integer_case old new text e h (Integer t) = h t

pub word_added : {T : Type 0} (old new : NameSet) (text : List ℕ) (name : Name) → name ≡ Word text → new.integers.keys ≡ old.integers.keys → (result : Result T IncludeFault)
    → OnOk result ((t : List ℕ) → has new.words.keys t ≡ (bytes_eq t text || has old.words.keys t)) → OnOk result ((other : Name) → knows new other ≡ (is_same_name other name || knows old other))
word_added old new text name e f (Ok value) h = subst (λ (n : Name). (other : Name) → knows new other ≡ (is_same_name other n || knows old other)) (sym e) (word_case old new text f h)
word_added old new text name e f (Err cause) h = tt

pub integer_added : {T : Type 0} (old new : NameSet) (text : List ℕ) (name : Name) → name ≡ Integer text → new.words.keys ≡ old.words.keys → (result : Result T IncludeFault)
    → OnOk result ((t : List ℕ) → has new.integers.keys t ≡ (bytes_eq t text || has old.integers.keys t)) → OnOk result ((other : Name) → knows new other ≡ (is_same_name other name || knows old other))
integer_added old new text name e f (Ok value) h = subst (λ (n : Name). (other : Name) → knows new other ≡ (is_same_name other n || knows old other)) (sym e) (integer_case old new text f h)
integer_added old new text name e f (Err cause) h = tt

pub selects_same : (names : List Name) (set : NameSet) → ((other : Name) → knows set other ≡ is_among names other) → (item : Item) → is_selected names item ≡ knows_item set item
selects_same names set h (Comment text) = refl
selects_same names set h (Formula formula) = sym (h formula.name)
selects_same names set h (Include include) = refl

-- ---- selections

pub selects_unknown : (file : Text) (names : List Name) (items : List Item) (name : Name) (cause : IncludeFault) → unknown_name names items ≡ Some name → IsUnknown file name cause → Selects file (Some names) items (Err cause)
selects_unknown file names items name cause u (inl e) = inr (λ files read. ap (λ (o : Option Name). chosen file names (part_of files items read) o) u ∙ ap (λ (c : IncludeFault). let a : Answer = Err c in a) (sym e))
selects_unknown file names items name cause u (inr e) = inl e

pub selects_kept : (file : Text) (names : List Name) (items : List Item) (result : Result (List Item) IncludeFault) → unknown_name names items ≡ None
    → IfOk result (λ kept. kept ≡ filter (is_selected names) items) → IfErr result (λ cause. cause ≡ fault.Memory) → Selects file (Some names) items result
selects_kept file names items (Ok kept) u k m =
    λ files read. ap (λ (o : Option Name). chosen file names (part_of files items read) o) u ∙ ap (λ (l : List Item). let a : Answer = Ok (part_of files l read) in a) (sym k)
selects_kept file names items (Err cause) u k m = inl m
