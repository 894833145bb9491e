-- Type lines in turn.
use Rattle.std.specs.Prelude.{ℕ, suc, ◌≡◌, ◌+◌, List, [], ◌∷◌, ◌++◌, length, map, drop, Some, slice_get, refl}
use Rattle.std.proofs.Common.{ap, sym, ◌∙◌, append_assoc, arith}
use Rattle.std.proofs.lemmas.List.{append-nil, drop_more, length_push}
use Rattle.std.proofs.lemmas.Option.{get_or_from_slice_get, slice_get_within}
use Rattle.tptp_base.specs.declared.item.Item.{Item}
use Rattle.tptp_base.specs.declared.item.Typing.{Typing}
use Rattle.derivation_items.specs.Items.{typing_item, typing_items}

-- what is left of a list begins with what stands at the place
pub left_at : {X : Type 0} (xs : List X) (i : ℕ) (x : X) → slice_get xs i ≡ Some x → drop i xs ≡ x ∷ drop (i + 1) xs
left_at {X} xs i x e = drop_more xs i x (slice_get_within xs i x e) ∙ ap (λ (y : X). y ∷ drop (i + 1) xs) (get_or_from_slice_get xs i x x e)

-- items, and those of what is left to declare
abbrev pub with_left : {X : Type 0} → (X → Typing) → List Item → List X → List Item
with_left typing items xs = items ++ typing_items (length items) (map typing xs)

pub one_declared : {X : Type 0} (typing : X → Typing) (xs : List X) (i : ℕ) (x : X) (t : Typing) (items new : List Item) → slice_get xs i ≡ Some x → t ≡ typing x → new ≡ items ++ typing_item (length items) t ∷ []
    → with_left typing new (drop (i + 1) xs) ≡ with_left typing items (drop i xs)
one_declared {X} typing xs i x t items new at is e =
    let item = typing_item (length items) (typing x) in
    let rest = map typing (drop (i + 1) xs) in
    let same : new ≡ items ++ item ∷ [] = e ∙ ap (λ (u : Typing). items ++ typing_item (length items) u ∷ []) is in
    let count : length (items ++ item ∷ []) ≡ length items + 1 = length_push items item in
    ap (λ (l : List Item). l ++ typing_items (length l) rest) same
    ∙ ap (λ (k : ℕ). (items ++ item ∷ []) ++ typing_items k rest) count
    ∙ append_assoc items (item ∷ []) (typing_items (length items + 1) rest)
    ∙ ap (λ (l : List X). items ++ typing_items (length items) (map typing l)) (sym (left_at xs i x at))

-- at the end
pub all_declared : {X : Type 0} (typing : X → Typing) (xs : List X) (i : ℕ) (items : List Item) → drop i xs ≡ [] → with_left typing items (drop i xs) ≡ items
all_declared {X} typing xs i items e = ap (with_left typing items) e ∙ append-nil items

-- Type lines of two lists.
items_count : (k : ℕ) (xs : List Typing) → length (typing_items k xs) ≡ length xs
items_count k [] = refl
items_count k (x ∷ xs) = ap suc (items_count (k + 1) xs)

items_append : (k : ℕ) (xs ys : List Typing) → typing_items k (xs ++ ys) ≡ typing_items k xs ++ typing_items (k + length xs) ys
items_append k [] ys = let same : k ≡ k + 0 = omega arith in ap (λ (n : ℕ). typing_items n ys) same
items_append k (x ∷ xs) ys =
    let same : k + 1 + length xs ≡ k + suc (length xs) = omega arith in
    ap (λ (l : List Item). typing_item k x ∷ l) (items_append (k + 1) xs ys ∙ ap (λ (n : ℕ). typing_items (k + 1) xs ++ typing_items n ys) same)

pub both_declared : (none a b : List Item) (xs ys : List Typing) → none ≡ [] → a ≡ none ++ typing_items (length none) xs → b ≡ a ++ typing_items (length a) ys → b ≡ typing_items 0 (xs ++ ys)
both_declared none a b xs ys empty first second =
    let here : a ≡ typing_items 0 xs = first ∙ ap (λ (l : List Item). l ++ typing_items (length l) xs) empty in
    let count : length a ≡ 0 + length xs = ap (λ (l : List Item). length l) here ∙ items_count 0 xs ∙ (omega arith) in
    second ∙ ap (λ (n : ℕ). a ++ typing_items n ys) count ∙ ap (λ (l : List Item). l ++ typing_items (0 + length xs) ys) here ∙ sym (items_append 0 xs ys)
