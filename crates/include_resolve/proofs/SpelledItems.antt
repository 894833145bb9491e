-- The items of a resolved problem are those of texts.
use Rattle.std.specs.Prelude.{⊤}
use Rattle.std.proofs.Common.{ℕ, List, [], length, All, Option, None, Some, Ok, Err}
use Rattle.std.specs.Prelude.{Contains}
use Rattle.std.proofs.lemmas.List.Elements.{All-nil, All-cons, All-head, All-tail, All-append, All-filter, All-weaker, All-contains_itself}
use Rattle.tptp_base.specs.declared.item.Item.{Item}
use Rattle.tptp_base.specs.declared.item.Item.TheVariants.{Comment, Formula}
use Rattle.tptp_base.specs.declared.name.Name.{Name}
use Rattle.tptp_base.specs.Store.{Files}
use Rattle.include_resolve.specs.declared.problem.Problem.{Problem}
use Rattle.include_resolve.specs.Laws.{IsOfSomeText}
use Rattle.include_resolve.specs.Names.{Text}
use Rattle.include_resolve.specs.Parts.{Answer, file_alone, before}
use Rattle.include_resolve.specs.Resolved as walk
use Rattle.include_resolve.specs.Resolved.{Walk, Opens, Reads, Replaces, TakesItem, Resolves}
use Rattle.include_resolve.specs.Selection.{selected, chosen, is_selected, unknown_name}
use Rattle.include_resolve.specs.Texts.{IsSpelled}

-- the items of the part are
abbrev AreSpelled : Answer → Type 0
AreSpelled (Ok part) = All IsOfSomeText part.items
AreSpelled (Err fault) = ⊤

text_spelled : (number : ℕ) (text : Text) (items : List Item) → IsSpelled number text items → All IsOfSomeText items
text_spelled number text items is = All-weaker (Contains items) IsOfSomeText (λ item has. (number, text, items, is, has)) items (All-contains_itself items)

chosen_spelled : (file : Text) (names : List Name) (part : Problem) (unknown : Option Name) → AreSpelled (Ok part) → AreSpelled (chosen file names part unknown)
chosen_spelled file names part (Some name) all = tt
chosen_spelled file names part None all = All-filter (is_selected names) IsOfSomeText part.items all

selected_spelled : (file : Text) (selection : Option (List Name)) (answer : Answer) → AreSpelled answer → AreSpelled (selected file selection answer)
selected_spelled file None answer all = all
selected_spelled file (Some names) (Ok part) all = chosen_spelled file names part (unknown_name names part.items) all
selected_spelled file (Some names) (Err fault) all = tt

file_spelled : (name : Text) (size : ℕ) (answer : Answer) → AreSpelled answer → AreSpelled (before (file_alone name size) answer)
file_spelled name size (Ok rest) all = all
file_spelled name size (Err fault) all = tt

both_spelled : (part : Problem) (answer : Answer) → AreSpelled (Ok part) → AreSpelled answer → AreSpelled (before part answer)
both_spelled part (Ok rest) first second = All-append IsOfSomeText part.items rest.items first second
both_spelled part (Err fault) first second = tt

module _ (told : Option Files) (root : Option Text) where
  mutual
    opens_spelled : {w : Walk} {names : List Text} {written : Text} {selection : Option (List Name)} {answer : Answer} → Opens told root w names written selection answer → AreSpelled answer
    opens_spelled (walk.missing all) = tt
    opens_spelled (walk.cycle found on) = tt
    opens_spelled (walk.too_deep found off deep) = tt
    opens_spelled {selection = selection} (walk.opened {name = name} {answer = answer} found off room reads) = selected_spelled name selection answer (reads_spelled reads)

    reads_spelled : {w : Walk} {name : Text} {answer : Answer} → Reads told root w name answer → AreSpelled answer
    reads_spelled (walk.over file) = tt
    reads_spelled (walk.faulty read fault) = tt
    reads_spelled {w = w} (walk.spelled {name = name} {bytes = bytes} {items = items} {answer = answer} read spelled replaces) =
        file_spelled name (length bytes) answer (replaces_spelled replaces (text_spelled w.opened bytes items spelled))

    replaces_spelled : {w : Walk} {from : Text} {items : List Item} {answer : Answer} → Replaces told root w from items answer → All IsOfSomeText items → AreSpelled answer
    replaces_spelled walk.done all = All-nil IsOfSomeText
    replaces_spelled (walk.stopped takes) all = tt
    replaces_spelled (walk.went_on {item = item} {items = items} {part = part} {answer = answer} takes more) all =
        both_spelled part answer (takes_spelled takes (All-head IsOfSomeText item items all)) (replaces_spelled more (All-tail IsOfSomeText item items all))

    takes_spelled : {w : Walk} {from : Text} {item : Item} {answer : Answer} → TakesItem told root w from item answer → IsOfSomeText item → AreSpelled answer
    takes_spelled (walk.comment {text = text}) is = All-cons IsOfSomeText (Comment text) [] is (All-nil IsOfSomeText)
    takes_spelled (walk.formula {annotated = formula}) is = All-cons IsOfSomeText (Formula formula) [] is (All-nil IsOfSomeText)
    takes_spelled (walk.replaced opens) is = opens_spelled opens

pub problem_spelled : (told : Option Files) (root : Option Text) (name : Text) (problem : Problem) → Resolves told root name (Ok problem) → All IsOfSomeText problem.items
problem_spelled told root name problem resolves = opens_spelled told root resolves
