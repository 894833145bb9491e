-- Which variables an answer rests on. A variable is named by how many binders away it is; those from 63 on are as one.
use Rattle.std.specs.Prelude.{ℕ, ◌≡◌, nat_lt, if◌then◌else◌, List, get_or}
use Rattle.std.specs.Int.{bit_at}
use Rattle.fi_model.specs.declared.looked.Looked.{Looked}

abbrev pub bit_of : ℕ → ℕ
bit_of distance = if nat_lt distance 63 then distance else 63

-- the variable is among those that were looked at
abbrev pub Sees : Looked → ℕ → Type 0
Sees looked distance = bit_at looked.bits (bit_of distance) ≡ 1

-- the variables that were looked at are the same elements
abbrev pub Agree : Looked → List ℕ → List ℕ → Type 0
Agree looked here there = (distance : ℕ) → Sees looked distance → get_or here distance 0 ≡ get_or there distance 0

-- What is asked of the variables in reach has this answer, wherever those that were looked at are the same.
abbrev pub Rests : {X : Type 0} → (List ℕ → X) → List ℕ → X → Looked → Type 0
Rests asked here answer looked = (there : List ℕ) → Agree looked here there → asked there ≡ answer
