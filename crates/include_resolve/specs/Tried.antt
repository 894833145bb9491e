-- Which names of files are tried on the walk through the files of a problem: that of the problem, and those that an
-- include can name, each until one is a file.
use Rattle.std.specs.Prelude.{◌≡◌, ◌≤◌, List, [], ◌∷◌, length, false, Some, Ok}
use Rattle.std.specs.declared.option.Option.{Option}
use Rattle.tptp_base.specs.declared.item.Include.{Include as Inclusion}
use Rattle.tptp_base.specs.declared.item.Item.{Item}
use Rattle.tptp_base.specs.declared.item.Item.TheVariants.{Include}
use Rattle.tptp_base.specs.Store.{Files, IsMissing, file_at}
use Rattle.include_resolve.specs.declared.problem.Problem.{Problem}
use Rattle.include_resolve.specs.declared.problem.TheConstants.{MAX_DEPTH}
use Rattle.include_resolve.specs.Names.{Text, tried_names, is_on}
use Rattle.include_resolve.specs.Resolved.{Walk, start, inside, beyond, IsFirstFile, IsRead, TakesItem}
use Rattle.include_resolve.specs.Texts.{IsSpelled}

-- the name is tried, where these are tried in turn until one is a file
pub data IsTried (told : Option Files) (name : Text) : List Text → Type 0 where
  now : {names : List Text} → IsTried told name (name ∷ names)
  next : {other : Text} {names : List Text} → IsMissing told other → IsTried told name names → IsTried told name (other ∷ names)

mutual
  -- it is tried where these names are tried in turn and the first file of them is opened
  pub data TriesToOpen (told : Option Files) (root : Option Text) (name : Text) : Walk → List Text → Type 0 where
    among : {walk : Walk} {names : List Text} → IsTried told name names → TriesToOpen told root name walk names
    within : {walk : Walk} {names : List Text} {file : Text} → IsFirstFile told names file → (is_on walk.path file ≡ false) → length walk.path ≤ MAX_DEPTH
        → TriesInFile told root name walk file → TriesToOpen told root name walk names

  -- in the file
  pub data TriesInFile (told : Option Files) (root : Option Text) (name : Text) : Walk → Text → Type 0 where
    in_text : {walk : Walk} {file bytes : Text} {items : List Item} → IsRead told walk file bytes → IsSpelled walk.opened bytes items
        → TriesInItems told root name (inside walk file (length bytes)) file items → TriesInFile told root name walk file

  -- in items that stand in the file `from`
  pub data TriesInItems (told : Option Files) (root : Option Text) (name : Text) : Walk → Text → List Item → Type 0 where
    here : {walk : Walk} {from : Text} {inclusion : Inclusion} {items : List Item} → TriesToOpen told root name walk (tried_names from root inclusion.file)
        → TriesInItems told root name walk from (Include inclusion ∷ items)
    later : {walk : Walk} {from : Text} {item : Item} {items : List Item} {part : Problem} → TakesItem told root walk from item (Ok part)
        → TriesInItems told root name (beyond walk part) from items → TriesInItems told root name walk from (item ∷ items)

-- the walk through the files of this problem tries the name
abbrev pub Tries : Files → Option Text → Text → Text → Type 0
Tries files root problem name = TriesToOpen (Some files) root name start (problem ∷ [])

-- the second store has the files of the first under each name that the walk tries there
abbrev pub HasAllTried : Files → Files → Option Text → Text → Type 0
HasAllTried files after root problem = (name : Text) → Tries files root problem name → file_at after name ≡ file_at files name
