-- A problem has at most as many items as its files have bytes.
use Rattle.std.specs.Prelude.{⊤, filter}
use Rattle.std.proofs.Common.{◌≤◌, ℕ, ◌+◌, Bool, List, ◌∷◌, length, arith, length-append, Option, None, Some, Ok, Err}
use Rattle.tptp_base.specs.declared.item.Item.{Item}
use Rattle.tptp_base.specs.declared.name.Name.{Name}
use Rattle.tptp_base.specs.Store.{Files}
use Rattle.tptp_lexer.specs.declared.style.Style.{Style}
use Rattle.tptp_lexer.specs.declared.token.Token.{Token}
use Rattle.tptp_lexer.specs.Tokenized.{Cut, here, after_blank, after_token}
use Rattle.std.proofs.lemmas.List.Sums.{length-filter, count_by-le-length}
use Rattle.tptp_lexer.proofs.Sound.{spelled_some}
use Rattle.tptp_lexer.proofs.Stepping.{range_length}
use Rattle.tptp_grammar.specs.Files.{Through, last_token, dropped, token, IsFile, end_of_file, comment, input}
use Rattle.tptp_grammar.specs.Solid.{Placed}
use Rattle.tptp_grammar.specs.Tokens.{Tokens}
use Rattle.include_resolve.specs.declared.problem.Problem.{Problem}
use Rattle.include_resolve.specs.Names.{Text}
use Rattle.include_resolve.specs.Parts.{Answer, before, file_alone}
use Rattle.include_resolve.specs.Resolved as walk
use Rattle.include_resolve.specs.Resolved.{Walk, Opens, Reads, Replaces, TakesItem, Answers, Resolves}
use Rattle.include_resolve.specs.Selection.{selected, chosen, is_selected, unknown_name}
use Rattle.include_resolve.specs.Texts.{IsSpelled}

-- ---- of one text

cut_few : {T : Type 0} {style : Style} {item : Token → ℕ → T} {at end : ℕ} {text rest : Text} {items : List T} → Cut style item at text items end rest → length items ≤ length text
cut_few here = omega arith
cut_few (after_blank h more) = let few = cut_few more in omega (arith, few)
cut_few (after_token spelling {text = text} spelled longest more) =
    let few = cut_few more in
    let some = spelled_some spelled in
    omega (arith, few, some, length-append spelling text)

through_few : {ts rest : List Placed} {us mid : Tokens} → Through ts rest us mid → length rest ≤ length ts
through_few (last_token h) = omega arith
through_few (dropped more) = let few = through_few more in omega (arith, few)
through_few (token h more) = let few = through_few more in omega (arith, few)

file_few : {style : Style} {items : List Item} {ts : List Placed} {us : Tokens} → IsFile style items ts us → length items ≤ length ts
file_few end_of_file = omega arith
file_few (comment more) = let few = file_few more in omega (arith, few)
file_few (input is through more) = let few = file_few more in let less = through_few through in omega (arith, few, less)

pub spelled_few : (number : ℕ) (text : Text) (items : List Item) → IsSpelled number text items → length items ≤ length text
spelled_few number text items spells =
    let (fits, same, (offset, cut, end)) = spells.lexed in
    let (us, file, within) = spells.parsed in
    let bytes = cut_few cut in
    let entries = file_few file in
    omega (arith, bytes, entries, range_length text 0 (length text) (omega arith))

-- ---- of a walk

-- a part has at most as many items as bytes and so many more
abbrev IsFew : ℕ → Answer → Type 0
IsFew more (Ok part) = length part.items ≤ more + part.read
IsFew more (Err fault) = ⊤

part_before : (part : Problem) (n m k : ℕ) (answer : Answer) → n + m ≤ k → length part.items ≤ n + part.read → IsFew m answer → IsFew k (before part answer)
part_before part n m k (Ok rest) fits few more = omega (arith, fits, few, more, length-append part.items rest.items)
part_before part n m k (Err fault) fits few more = tt

file_before : (name : Text) (size m : ℕ) (answer : Answer) → m ≤ size → IsFew m answer → IsFew 0 (before (file_alone name size) answer)
file_before name size m (Ok rest) fits few = omega (arith, fits, few)
file_before name size m (Err fault) fits few = tt

one_more : (answer : Answer) → IsFew 0 answer → IsFew 1 answer
one_more (Ok part) few = omega (arith, few)
one_more (Err fault) few = tt

filter_few : {X : Type 0} (p : X → Bool) (xs : List X) → length (filter p xs) ≤ length xs
filter_few p xs = omega (arith, length-filter p xs, count_by-le-length p xs)

chosen_few : (file : Text) (names : List Name) (part : Problem) (unknown : Option Name) → IsFew 0 (Ok part) → IsFew 0 (chosen file names part unknown)
chosen_few file names part (Some name) few = tt
chosen_few file names part None few = let kept = filter_few (is_selected names) part.items in omega (arith, few, kept)

selected_few : (file : Text) (selection : Option (List Name)) (answer : Answer) → IsFew 0 answer → IsFew 0 (selected file selection answer)
selected_few file None answer few = few
selected_few file (Some names) (Ok part) few = chosen_few file names part (unknown_name names part.items) few
selected_few file (Some names) (Err fault) few = tt

module _ (told : Option Files) (root : Option Text) where
  mutual
    opens_few : {w : Walk} {names : List Text} {written : Text} {selection : Option (List Name)} {answer : Answer} → Opens told root w names written selection answer → IsFew 0 answer
    opens_few (walk.missing all) = tt
    opens_few (walk.cycle found on) = tt
    opens_few (walk.too_deep found off deep) = tt
    opens_few {selection = selection} (walk.opened {name = name} {answer = answer} found off room reads) = selected_few name selection answer (reads_few reads)

    reads_few : {w : Walk} {name : Text} {answer : Answer} → Reads told root w name answer → IsFew 0 answer
    reads_few (walk.over file) = tt
    reads_few (walk.faulty read fault) = tt
    reads_few {w = w} (walk.spelled {name = name} {bytes = bytes} {items = items} {answer = answer} read spelled replaces) =
        file_before name (length bytes) (length items) answer (spelled_few w.opened bytes items spelled) (replaces_few replaces)

    replaces_few : {w : Walk} {from : Text} {items : List Item} {answer : Answer} → Replaces told root w from items answer → IsFew (length items) answer
    replaces_few walk.done = omega arith
    replaces_few (walk.stopped takes) = tt
    replaces_few (walk.went_on {item = item} {items = items} {part = part} {answer = answer} takes more) =
        part_before part 1 (length items) (length (item ∷ items)) answer (omega arith) (takes_few takes) (replaces_few more)

    takes_few : {w : Walk} {from : Text} {item : Item} {answer : Answer} → TakesItem told root w from item answer → IsFew 1 answer
    takes_few walk.comment = omega arith
    takes_few walk.formula = omega arith
    takes_few (walk.replaced {answer = answer} opens) = one_more answer (opens_few opens)

-- a problem has at most as many items as bytes
pub problem_few : (told : Option Files) (root : Option Text) (name : Text) (problem : Problem) → Answers told root name (Ok problem) → length problem.items ≤ problem.read
problem_few told root name problem resolves = let few = opens_few told root resolves in omega (arith, few)
