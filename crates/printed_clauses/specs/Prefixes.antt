-- Names for new functions: behind a prefix with which no name of the vocabulary begins.
use Rattle.std.specs.Prelude.{ℕ, ◌≡◌, ◌<◌, ◌++◌, Bool, true, false, List, codes, map, replicate}
use Rattle.std.specs.Str.{bytes_eq}
use Rattle.std.specs.Prelude.{take, length}
use Rattle.std.specs.List.{list_any}
use Rattle.fof_terms.specs.Vocabulary.{Vocabulary}
use Rattle.fof_terms.specs.declared.signature.Symbol.{Symbol}

abbrev pub Text : Type 0
Text = List ℕ

-- `sk`, and then so many underscores
abbrev pub prefix_of : ℕ → Text
prefix_of n = codes "sk" ++ replicate n 95

-- the name begins with the text
abbrev pub begins_with : Text → Text → Bool
begins_with front name = bytes_eq (take (length front) name) front

-- a name of the vocabulary, of a symbol or of a sort, begins with the text
abbrev pub is_taken : Vocabulary → Text → Bool
is_taken v front = list_any (begins_with front) (map (λ (s : Symbol). s.name) v.symbols ++ v.sorts)

-- No name begins with the prefix, and one begins with each shorter one.
pub record IsPrefix (v : Vocabulary) (n : ℕ) : Type 0 where
  pub free : is_taken v (prefix_of n) ≡ false
  pub least : (m : ℕ) → m < n → is_taken v (prefix_of m) ≡ true
