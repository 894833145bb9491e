-- Tables from names to places, as contracts see them. Names are equal where they are of one kind and have one text.
use Rattle.std.specs.Prelude.{ℕ, ◌+◌, Bool, false, List, [], ◌∷◌, if◌then◌else◌}
use Rattle.std.specs.Str.{bytes_eq}
use Rattle.tptp_base.specs.declared.name.Name.{Name}
use Rattle.tptp_base.specs.declared.name.Name.TheVariants.{Word, Integer}

abbrev pub same_name : Name → Name → Bool
same_name (Word a) (Word b) = bytes_eq a b
same_name (Word a) (Integer b) = false
same_name (Integer a) (Word b) = false
same_name (Integer a) (Integer b) = bytes_eq a b

-- the places of a name among these, the first of which has this number
abbrev pub places_from : ℕ → List Name → Name → List ℕ
places_from number [] name = []
places_from number (here ∷ names) name =
    if same_name here name then number ∷ places_from (number + 1) names name else places_from (number + 1) names name

-- the places of a name
abbrev pub places : List Name → Name → List ℕ
places names name = places_from 0 names name
