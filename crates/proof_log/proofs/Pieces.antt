-- Texts that are appended in pieces, the last of which may be refused.
use Rattle.std.proofs.Common.{◌≡◌, ℕ, ◌+◌, ◌<◌, get_or, append-nil, List, [], ◌∷◌, ◌++◌, Result, Ok, Err, OnOk, ◌≤◌, length, take, map, sym, ◌∙◌, ap, append_assoc}
use Rattle.std.specs.List.{flat_map}
use Rattle.std.proofs.lemmas.List.{take_all, take_more, length-map}
use Rattle.std.proofs.lemmas.List.Concat.{flat_map-append}
use Rattle.std.proofs.lemmas.List.Folds.{flat_map-map}
use Rattle.proof_log.specs.Entries.{escaped, quoted}
use Rattle.proof_log.specs.LogText.{number, list_text}

pub two_pieces : {T E : Type 0} (result : Result T E) (t0 t1 t2 a b : List ℕ) → t1 ≡ t0 ++ a → OnOk result (t2 ≡ t1 ++ b) → OnOk result (t2 ≡ t0 ++ (a ++ b))
two_pieces (Ok value) t0 t1 t2 a b one last = last ∙ ap (λ (t : List ℕ). t ++ b) one ∙ append_assoc t0 a b
two_pieces (Err error) t0 t1 t2 a b one last = tt

pub three_pieces : {T E : Type 0} (result : Result T E) (t0 t1 t2 t3 a b c : List ℕ) → t1 ≡ t0 ++ a → t2 ≡ t1 ++ b → OnOk result (t3 ≡ t2 ++ c) → OnOk result (t3 ≡ t0 ++ (a ++ (b ++ c)))
three_pieces result t0 t1 t2 t3 a b c one two last = two_pieces result t0 t1 t3 a (b ++ c) one (two_pieces result t1 t2 t3 b c two last)

pub four_pieces : {T E : Type 0} (result : Result T E) (t0 t1 t2 t3 t4 a b c d : List ℕ) → t1 ≡ t0 ++ a → t2 ≡ t1 ++ b → t3 ≡ t2 ++ c → OnOk result (t4 ≡ t3 ++ d) → OnOk result (t4 ≡ t0 ++ (a ++ (b ++ (c ++ d))))
four_pieces result t0 t1 t2 t3 t4 a b c d one two three last = two_pieces result t0 t1 t4 a (b ++ (c ++ d)) one (three_pieces result t1 t2 t3 t4 b c d two three last)

pub five_pieces : {T E : Type 0} (result : Result T E) (t0 t1 t2 t3 t4 t5 a b c d e : List ℕ) → t1 ≡ t0 ++ a → t2 ≡ t1 ++ b → t3 ≡ t2 ++ c → t4 ≡ t3 ++ d → OnOk result (t5 ≡ t4 ++ e) → OnOk result (t5 ≡ t0 ++ (a ++ (b ++ (c ++ (d ++ e)))))
five_pieces result t0 t1 t2 t3 t4 t5 a b c d e one two three four last = two_pieces result t0 t1 t5 a (b ++ (c ++ (d ++ e))) one (four_pieces result t1 t2 t3 t4 t5 b c d e two three four last)

-- the members so far, and one more
pub more_written : {X : Type 0} (f : X → List ℕ) (xs : List X) (i : ℕ) (x : X) (t0 t1 t : List ℕ) → i < length xs → x ≡ get_or xs i x → t1 ≡ t0 ++ flat_map f (take i xs) → t ≡ t1 ++ f x → t ≡ t0 ++ flat_map f (take (i + 1) xs)
more_written {X = X} f xs i x t0 t1 t lt is so_far one =
    one
    ∙ ap (λ (l : List ℕ). l ++ f x) so_far
    ∙ append_assoc t0 (flat_map f (take i xs)) (f x)
    ∙ ap (λ (l : List ℕ). t0 ++ l) (sym (
    ap (λ (l : List X). flat_map f l) (take_more xs i x lt)
    ∙ flat_map-append f (take i xs) (get_or xs i x ∷ [])
    ∙ ap (λ (l : List ℕ). flat_map f (take i xs) ++ l) (append-nil (f (get_or xs i x)) ∙ ap f (sym is))))

-- a list, written as its length and then its members
pub list_written : {X : Type 0} (f : X → List ℕ) (xs : List X) (i : ℕ) (t0 t1 t : List ℕ) → length xs ≤ i → t1 ≡ t0 ++ number (length xs) → t ≡ t1 ++ flat_map f (take i xs) → t ≡ t0 ++ list_text (map f xs)
list_written {X = X} f xs i t0 t1 t all begun written =
    written
    ∙ ap (λ (l : List X). t1 ++ flat_map f l) (take_all i xs all)
    ∙ ap (λ (t : List ℕ). t ++ flat_map f xs) begun
    ∙ append_assoc t0 (number (length xs)) (flat_map f xs)
    ∙ ap (λ (l : List ℕ). t0 ++ (number (length xs) ++ l)) (sym (flat_map-map (λ part. part) f xs))
    ∙ ap (λ n. t0 ++ (number n ++ flat_map (λ part. part) (map f xs))) (sym (length-map xs f))

-- a quoted name: its quote, its characters, its quote
pub quoted_written : (name : List ℕ) (i : ℕ) (t0 t1 t2 t : List ℕ) → length name ≤ i → t1 ≡ t0 ++ 32 ∷ 39 ∷ [] → t2 ≡ t1 ++ flat_map escaped (take i name) → t ≡ t2 ++ 39 ∷ [] → t ≡ t0 ++ 32 ∷ quoted name
quoted_written name i t0 t1 t2 t all begun written ended =
    ended
    ∙ ap (λ (l : List ℕ). l ++ 39 ∷ []) (written ∙ ap (λ (l : List ℕ). t1 ++ flat_map escaped l) (take_all i name all) ∙ ap (λ (l : List ℕ). l ++ flat_map escaped name) begun)
    ∙ append_assoc (t0 ++ 32 ∷ 39 ∷ []) (flat_map escaped name) (39 ∷ [])
    ∙ append_assoc t0 (32 ∷ 39 ∷ []) (flat_map escaped name ++ 39 ∷ [])
