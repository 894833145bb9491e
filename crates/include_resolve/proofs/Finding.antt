-- Files that are found.
use Rattle.std.specs.Prelude.{⊤}
use Rattle.std.proofs.Common.{◌≡◌, ℕ, List, ◌∷◌, length, All, Some, None, Ok, Err}
use Rattle.std.specs.Prelude.{IsSomeAnd, IfOk, MatchOption, string_bytes}
use Rattle.std.specs.declared.result.Result.{Result}
use Rattle.std.proofs.lemmas.List.Elements.{All-cons}
use Rattle.std.specs.declared.option.Option.{Option}
use Rattle.tptp_base.specs.Read.{IsOver}
use Rattle.tptp_base.specs.Store.{Files, HasFile, IsMissing, file_at}
use Rattle.include_resolve.specs.declared.fault.IncludeFault.{IncludeFault}
use Rattle.include_resolve.specs.declared.reading.Found.{Found}
use Rattle.include_resolve.specs.declared.reading.Read.{Read}
use Rattle.include_resolve.specs.declared.reading.Read.TheVariants.{Whole, Over}
use Rattle.include_resolve.specs.Names.{Text}
use Rattle.include_resolve.specs.code.Reading.{IsReadOf}
use Rattle.include_resolve.specs.Resolved.{IsFirstFile, first, later}

some_there : (o : Option Text) (P : Text → Type 0) → IsSomeAnd o P → IsSomeAnd o (λ file. ⊤)
some_there None P h = h
some_there (Some x) P h = tt

is_there : (told : Option Files) (name : Text) (P : Text → Type 0) → HasFile told name P → HasFile told name (λ file. ⊤)
is_there None name P h = tt
is_there (Some files) name P h = some_there (file_at files name) P h

read_there : (told : Option Files) (name : Text) (budget : ℕ) (read : Read) → IsReadOf told name budget read → HasFile told name (λ file. ⊤)
read_there told name budget (Whole text) h = is_there told name (λ file. file ≡ text) h.0
read_there told name budget (Over limit) h = is_there told name (λ file. IsOver limit budget (length file)) h

-- a file that was read is the first of the names that begin with its own
pub first_read : (told : Option Files) (name : Text) (names : List Text) (budget : ℕ) (read : Read) → IsReadOf told name budget read → IsFirstFile told (name ∷ names) name
first_read told name names budget read h = first (read_there told name budget read h)

-- a name before the others has no file
pub found_behind : (told : Option Files) (name : Text) (names : List Text) (budget : ℕ) (result : Result (Option Found) IncludeFault) → IsMissing told name
    → IfOk result (λ found. MatchOption found (All (IsMissing told) names) (λ file. IsFirstFile told names (string_bytes file.name) × IsReadOf told (string_bytes file.name) budget file.read))
    → IfOk result (λ found. MatchOption found (All (IsMissing told) (name ∷ names)) (λ file. IsFirstFile told (name ∷ names) (string_bytes file.name) × IsReadOf told (string_bytes file.name) budget file.read))
found_behind told name names budget (Ok None) miss h = All-cons (IsMissing told) name names miss h
found_behind told name names budget (Ok (Some file)) miss h = (later miss h.0, h.1)
found_behind told name names budget (Err cause) miss h = tt
