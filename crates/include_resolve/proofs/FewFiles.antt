-- A problem has at most one file more than its files have bytes, since the name of an included file takes bytes.
use Rattle.std.specs.Prelude.{⊤}
use Rattle.std.proofs.Common.{◌≡◌, ◌≤◌, ℕ, ◌+◌, List, [], ◌∷◌, length, ap, ◌∙◌, arith, length-append, Option, None, Some, Ok, Err}
use Rattle.tptp_base.specs.declared.item.Item.{Item}
use Rattle.tptp_base.specs.declared.name.Name.{Name}
use Rattle.tptp_base.specs.Store.{Files}
use Rattle.include_resolve.specs.declared.opened.Opened.{Opened}
use Rattle.include_resolve.specs.declared.problem.Problem.{Problem}
use Rattle.include_resolve.specs.declared.reading.Read.{Read}
use Rattle.include_resolve.specs.declared.reading.Read.TheVariants.{Whole, Over}
use Rattle.include_resolve.specs.Names.{Text}
use Rattle.include_resolve.specs.code.Opening.{TakesText}
use Rattle.include_resolve.specs.Parts.{Answer, before, file_alone}
use Rattle.include_resolve.specs.Resolved as walk
use Rattle.include_resolve.specs.Resolved.{Walk, Opens, Reads, Replaces, TakesItem, Answers}
use Rattle.include_resolve.specs.Selection.{selected, chosen, unknown_name}
use Rattle.include_resolve.specs.code.Steps.{Opening, Adds}
use Rattle.include_resolve.proofs.Counts.{spelled_few}

-- a part has at most as many files as bytes and so many more
abbrev HasFewFiles : ℕ → Answer → Type 0
HasFewFiles more (Ok part) = length part.files ≤ more + part.read
HasFewFiles more (Err fault) = ⊤

part_before : (part : Problem) (n m k : ℕ) (answer : Answer) → n + m ≤ k → length part.files ≤ n + part.read → HasFewFiles m answer → HasFewFiles k (before part answer)
part_before part n m k (Ok rest) fits few more = omega (arith, fits, few, more, length-append part.files rest.files)
part_before part n m k (Err fault) fits few more = tt

file_before : (name : Text) (size m : ℕ) (answer : Answer) → m ≤ size → HasFewFiles m answer → HasFewFiles 1 (before (file_alone name size) answer)
file_before name size m (Ok rest) fits few = omega (arith, fits, few)
file_before name size m (Err fault) fits few = tt

chosen_few : (file : Text) (names : List Name) (part : Problem) (unknown : Option Name) → HasFewFiles 1 (Ok part) → HasFewFiles 1 (chosen file names part unknown)
chosen_few file names part (Some name) few = tt
chosen_few file names part None few = few

selected_few : (file : Text) (selection : Option (List Name)) (answer : Answer) → HasFewFiles 1 answer → HasFewFiles 1 (selected file selection answer)
selected_few file None answer few = few
selected_few file (Some names) (Ok part) few = chosen_few file names part (unknown_name names part.items) few
selected_few file (Some names) (Err fault) few = tt

module _ (told : Option Files) (root : Option Text) where
  mutual
    opens_few : {w : Walk} {names : List Text} {written : Text} {selection : Option (List Name)} {answer : Answer} → Opens told root w names written selection answer → HasFewFiles 1 answer
    opens_few (walk.missing all) = tt
    opens_few (walk.cycle found on) = tt
    opens_few (walk.too_deep found off deep) = tt
    opens_few {selection = selection} (walk.opened {name = name} {answer = answer} found off room reads) = selected_few name selection answer (reads_few reads)

    reads_few : {w : Walk} {name : Text} {answer : Answer} → Reads told root w name answer → HasFewFiles 1 answer
    reads_few (walk.over file) = tt
    reads_few (walk.faulty read fault) = tt
    reads_few {w = w} (walk.spelled {name = name} {bytes = bytes} {items = items} {answer = answer} read spelled replaces) =
        file_before name (length bytes) (length items) answer (spelled_few w.opened bytes items spelled) (replaces_few replaces)

    replaces_few : {w : Walk} {from : Text} {items : List Item} {answer : Answer} → Replaces told root w from items answer → HasFewFiles (length items) answer
    replaces_few walk.done = omega arith
    replaces_few (walk.stopped takes) = tt
    replaces_few (walk.went_on {item = item} {items = items} {part = part} {answer = answer} takes more) =
        part_before part 1 (length items) (length (item ∷ items)) answer (omega arith) (takes_few takes) (replaces_few more)

    takes_few : {w : Walk} {from : Text} {item : Item} {answer : Answer} → TakesItem told root w from item answer → HasFewFiles 1 answer
    takes_few walk.comment = omega arith
    takes_few walk.formula = omega arith
    takes_few (walk.replaced opens) = opens_few opens

  opening_few : (old new : Opened) (part : Problem) → Opening old new part → HasFewFiles 1 (Ok part) → length new.names + old.read ≤ length old.names + 1 + new.read
  opening_few old new part opening few = let names : length new.names ≡ length old.names + length part.files = grind (arith, opening.names, length-append old.names part.files) in omega (arith, names, opening.read, few)

  -- an item opens at most one file more than the files that it opens have bytes
  pub added_few : (w : Walk) (from : Text) (item : Item) (old new : Opened) (kept more : List Item) → Adds {T = Unit {0}} (TakesItem told root w from item) old new kept more (Ok tt)
      → length new.names + old.read ≤ length old.names + 1 + new.read
  added_few w from item old new kept more (part, is, opening, takes) = opening_few old new part opening (takes_few takes)

-- a problem has at most one file more than bytes
pub problem_few_files : (told : Option Files) (root : Option Text) (name : Text) (problem : Problem) → Answers told root name (Ok problem) → length problem.files ≤ problem.read + 1
problem_few_files told root name problem resolves = let few = opens_few told root resolves in omega (arith, few)

-- the files and the items behind a text that was taken
pub text_few : (old new : Opened) (name : Text) (read : Read) (items : List Item) → TakesText old new name read (Ok items) → length old.names ≤ old.read → length new.names + length items ≤ new.read + 1
text_few old new name (Whole text) items joins few =
    let names : length new.names ≡ length old.names + 1 = ap length joins.names ∙ length-append old.names (name ∷ []) in
    omega (arith, few, names, joins.read, spelled_few (length old.names) text items joins.spelled)
text_few old new name (Over limit) items joins few = absurd joins
