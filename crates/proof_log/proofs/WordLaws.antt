-- The texts of words that are put together.
use Rattle.std.specs.Prelude.{◌≡◌, List, [], ◌∷◌, ◌++◌, length, map, decimal}
use Rattle.std.specs.List.{flat_map}
use Rattle.std.proofs.Common.{refl, sym, ◌∙◌, ap, append-nil}
use Rattle.std.proofs.lemmas.List.{length-map}
use Rattle.std.proofs.lemmas.List.Concat.{flat_map-append}
use Rattle.proof_log.specs.Words.{Word, Tree, Number, spelled, word, text_of, deeper, list_of}

pub text-append : (xs ys : List Word) → text_of (xs ++ ys) ≡ text_of xs ++ text_of ys
text-append xs ys = flat_map-append (λ w. word (spelled w)) xs ys

-- how deep trees are nested is not written
pub text-deeper : (ws : List Word) → text_of (deeper ws) ≡ text_of ws
text-deeper [] = refl
text-deeper (Tree depth name ∷ ws) = ap (λ l. word name ++ l) (text-deeper ws)
text-deeper (Number most n ∷ ws) = ap (λ l. word (decimal n) ++ l) (text-deeper ws)

members : {X : Type 0} (f : X → List Word) (xs : List X) → text_of (flat_map (λ part. part) (map f xs)) ≡ flat_map (λ part. part) (map (λ x. text_of (f x)) xs)
members f [] = refl
members f (x ∷ xs) = text-append (f x) (flat_map (λ part. part) (map f xs)) ∙ ap (λ l. text_of (f x) ++ l) (members f xs)

pub text-list : {X : Type 0} (f : X → List Word) (xs : List X) → text_of (list_of (map f xs)) ≡ word (decimal (length (map (λ x. text_of (f x)) xs))) ++ flat_map (λ part. part) (map (λ x. text_of (f x)) xs)
text-list f xs = ap (λ n. word (decimal n) ++ text_of (flat_map (λ part. part) (map f xs))) (length-map xs f ∙ sym (length-map xs (λ x. text_of (f x)))) ∙ ap (λ l. word (decimal (length (map (λ x. text_of (f x)) xs))) ++ l) (members f xs)

pub ruleset text_equations = (text-append, text-deeper, text-list, append-nil)
