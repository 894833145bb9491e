-- The words of a log: the names of trees and numbers, each with a blank before it.
use Rattle.std.specs.Prelude.{ℕ, suc, ◌+◌, ◌≤◌, ⊤, List, [], ◌∷◌, length, map, decimal}
use Rattle.std.specs.List.{flat_map}
use Rattle.first_fault.specs.Nesting.{Nested}

-- A word: the name of a tree, with how deep that tree is nested, or a number, with the greatest that may stand there.
pub data Word : Type 0 where
  Tree : ℕ → List ℕ → Word
  Number : ℕ → ℕ → Word

-- a number of 32 bits, and one of 64 bits
abbrev pub small : ℕ → Word
small n = Number 4294967295 n

abbrev pub large : ℕ → Word
large n = Number 18446744073709551615 n

-- the bytes of a word
abbrev pub spelled : Word → List ℕ
spelled (Tree depth name) = name
spelled (Number most n) = decimal n

-- a word with a blank before it
abbrev pub word : List ℕ → List ℕ
word name = 32 ∷ name

abbrev pub text_of : List Word → List ℕ
text_of words = flat_map (λ w. word (spelled w)) words

-- the same words in a tree that is nested one deeper
abbrev pub deeper_word : Word → Word
deeper_word (Tree depth name) = Tree (suc depth) name
deeper_word (Number most n) = Number most n

abbrev pub deeper : List Word → List Word
deeper words = map deeper_word words

-- a tree: its name, and its arguments, in which each tree is nested one deeper
abbrev pub node : List ℕ → List Word → List Word
node name arguments = Tree 1 name ∷ deeper arguments

-- a list: its length, and its members
abbrev pub list_of : List (List Word) → List Word
list_of parts = large (length parts) ∷ flat_map (λ part. part) parts

-- no number is greater than may stand there
abbrev pub IsInRange : Word → Type 0
IsInRange (Tree depth name) = ⊤
IsInRange (Number most n) = n ≤ most

abbrev pub AreInRange : List Word → Type 0
AreInRange [] = ⊤
AreInRange (w ∷ words) = IsInRange w × AreInRange words

-- ---- the bytes with their nesting

-- bytes that are nested so deep
abbrev pub at_level : ℕ → List ℕ → List (Nested ℕ)
at_level level bytes = map (λ b. (b, level)) bytes

-- The name of a tree is nested as deep as the tree, in so many trees around it. Blanks and numbers are not nested.
abbrev pub nested_word : ℕ → Word → List (Nested ℕ)
nested_word around (Tree depth name) = (32, 0) ∷ at_level (around + depth) name
nested_word around (Number most n) = (32, 0) ∷ at_level 0 (decimal n)

abbrev pub nested : ℕ → List Word → List (Nested ℕ)
nested around words = flat_map (nested_word around) words
