-- A problem whose includes are replaced, as the TPTP technical manual has them: each include by the items of the file
-- that it names, in which the includes were replaced before. Or the first fault that is met on this walk through the
-- files, depth first and in order. A file's text is tested whole before its includes are opened, and a selection after
-- its file.
--
-- It is said over any store. Where a store doesn't tell its files, each name may have any file, or none.
use Rattle.std.specs.Prelude.{⊤, ◌≡◌, ◌<◌, ◌≤◌, ℕ, ◌+◌, ◌-◌, List, [], ◌∷◌, length, All, true, false, None, Ok, Err}
use Rattle.std.specs.declared.option.Option.{Option}
use Rattle.tptp_base.specs.declared.item.Annotated.{Annotated}
use Rattle.tptp_base.specs.declared.item.Include.{Include as Inclusion}
use Rattle.tptp_base.specs.declared.item.Item.{Item}
use Rattle.tptp_base.specs.declared.item.Item.TheVariants.{Comment, Formula, Include}
use Rattle.tptp_base.specs.declared.limit.LimitName.{LimitName}
use Rattle.tptp_base.specs.declared.name.Name.{Name}
use Rattle.tptp_base.specs.declared.read.TheConstants.{FILE_SIZE}
use Rattle.tptp_base.specs.Read.{IsOver}
use Rattle.tptp_base.specs.Store.{Files, HasFile, IsMissing}
use Rattle.include_resolve.specs.declared.fault.IncludeFault.{IncludeFault}
use Rattle.include_resolve.specs.declared.fault.TextFault.{TextFault}
use Rattle.include_resolve.specs.declared.problem.Problem.{Problem}
use Rattle.include_resolve.specs.declared.problem.TheConstants.{MAX_DEPTH, TOTAL_SIZE}
use Rattle.include_resolve.specs.Names.{Text, tried_names, is_on}
use Rattle.include_resolve.specs.Parts.{Answer, nothing, file_alone, item_alone, before}
use Rattle.include_resolve.specs.Selection.{selected}
use Rattle.include_resolve.specs.Texts.{IsSpelled, IsFaulty}
use Rattle.include_resolve.specs.declared.fault.IncludeFault.TheVariants as fault

-- Where the walk stands: the names of the open files, the innermost first; how many files were opened so far; and how
-- many bytes they have together.
pub record Walk : Type 0 where
  pub path : List Text
  pub opened : ℕ
  pub read : ℕ

abbrev pub start : Walk
start = record { path = []; opened = 0; read = 0 }

-- in a file of this name and so many bytes
abbrev pub inside : Walk → Text → ℕ → Walk
inside walk name size = record { path = name ∷ walk.path; opened = walk.opened + 1; read = walk.read + size }

-- behind this part
abbrev pub beyond : Walk → Problem → Walk
beyond walk part = record { path = walk.path; opened = walk.opened + length part.files; read = walk.read + part.read }

-- This is the first of the names that is a file.
pub data IsFirstFile (told : Option Files) : List Text → Text → Type 0 where
  first : {name : Text} {names : List Text} → HasFile told name (λ file. ⊤) → IsFirstFile told (name ∷ names) name
  later : {other name : Text} {names : List Text} → IsMissing told other → IsFirstFile told names name → IsFirstFile told (other ∷ names) name

-- The file has these bytes, and they are within the limits.
pub record IsRead (told : Option Files) (walk : Walk) (name bytes : Text) : Type 0 where
  pub whole : HasFile told name (λ file. file ≡ bytes)
  pub in_limit : length bytes ≤ FILE_SIZE
  pub in_budget : walk.read + length bytes ≤ TOTAL_SIZE

mutual
  -- what is given where these names are tried in turn, for a name that is written so, with a selection of formulas or
  -- none
  pub data Opens (told : Option Files) (root : Option Text) : Walk → List Text → Text → Option (List Name) → Answer → Type 0 where
    missing : {walk : Walk} {names : List Text} {written : Text} {selection : Option (List Name)} → All (IsMissing told) names → Opens told root walk names written selection (Err (fault.Missing written))
    cycle : {walk : Walk} {names : List Text} {name written : Text} {selection : Option (List Name)} → IsFirstFile told names name → is_on walk.path name ≡ true
        → Opens told root walk names written selection (Err (fault.Cycle name))
    too_deep : {walk : Walk} {names : List Text} {name written : Text} {selection : Option (List Name)} → IsFirstFile told names name → (is_on walk.path name ≡ false) → MAX_DEPTH < length walk.path
        → Opens told root walk names written selection (Err (fault.DeepInclude name))
    opened : {walk : Walk} {names : List Text} {name written : Text} {selection : Option (List Name)} {answer : Answer} → IsFirstFile told names name → (is_on walk.path name ≡ false)
        → length walk.path ≤ MAX_DEPTH → Reads told root walk name answer → Opens told root walk names written selection (selected name selection answer)

  -- what the file of this name gives
  pub data Reads (told : Option Files) (root : Option Text) : Walk → Text → Answer → Type 0 where
    over : {walk : Walk} {name : Text} {limit : LimitName} → HasFile told name (λ file. IsOver limit (TOTAL_SIZE - walk.read) (length file)) → Reads told root walk name (Err (fault.Limit name limit))
    faulty : {walk : Walk} {name bytes : Text} {text_fault : TextFault} → IsRead told walk name bytes → IsFaulty walk.opened bytes text_fault → Reads told root walk name (Err (fault.Text name text_fault))
    spelled : {walk : Walk} {name bytes : Text} {items : List Item} {answer : Answer} → IsRead told walk name bytes → IsSpelled walk.opened bytes items
        → Replaces told root (inside walk name (length bytes)) name items answer → Reads told root walk name (before (file_alone name (length bytes)) answer)

  -- what items that stand in the file `from` give in turn
  pub data Replaces (told : Option Files) (root : Option Text) : Walk → Text → List Item → Answer → Type 0 where
    done : {walk : Walk} {from : Text} → Replaces told root walk from [] (Ok nothing)
    stopped : {walk : Walk} {from : Text} {item : Item} {items : List Item} {cause : IncludeFault} → TakesItem told root walk from item (Err cause) → Replaces told root walk from (item ∷ items) (Err cause)
    went_on : {walk : Walk} {from : Text} {item : Item} {items : List Item} {part : Problem} {answer : Answer} → TakesItem told root walk from item (Ok part)
        → Replaces told root (beyond walk part) from items answer → Replaces told root walk from (item ∷ items) (before part answer)

  -- what one item gives: a comment or a formula itself, an include what its file gives
  pub data TakesItem (told : Option Files) (root : Option Text) : Walk → Text → Item → Answer → Type 0 where
    comment : {walk : Walk} {from text : Text} → TakesItem told root walk from (Comment text) (Ok (item_alone (Comment text)))
    formula : {walk : Walk} {from : Text} {annotated : Annotated} → TakesItem told root walk from (Formula annotated) (Ok (item_alone (Formula annotated)))
    replaced : {walk : Walk} {from : Text} {inclusion : Inclusion} {answer : Answer} → Opens told root walk (tried_names from root inclusion.file) inclusion.file inclusion.names answer
        → TakesItem told root walk from (Include inclusion) answer

-- what the file of this name gives, with all that it includes
abbrev pub Resolves : Option Files → Option Text → Text → Answer → Type 0
Resolves told root name answer = Opens told root start (name ∷ []) name None answer

-- The answer is what the file gives. A fault of the store, and want of memory, may stand for any answer.
abbrev pub Answers : Option Files → Option Text → Text → Answer → Type 0
Answers told root name (Ok problem) = Resolves told root name (Ok problem)
Answers told root name (Err fault.Store) = ⊤
Answers told root name (Err fault.Memory) = ⊤
Answers told root name (Err cause) = Resolves told root name (Err cause)
