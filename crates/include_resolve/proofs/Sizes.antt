-- A resolved problem is no larger than what was read.
use Rattle.std.specs.Prelude.{⊤, max, filter}
use Rattle.std.proofs.Common.{◌≡◌, ◌≤◌, ℕ, ◌+◌, Bool, true, false, if◌then◌else◌, List, [], ◌∷◌, ◌++◌, length, map, arith, Option, None, Some, Ok, Err}
use Rattle.std.proofs.lemmas.List.{length-map}
use Rattle.tptp_base.specs.declared.item.Item.{Item}
use Rattle.tptp_base.specs.declared.item.Item.TheVariants.{Include}
use Rattle.tptp_base.specs.declared.name.Name.{Name}
use Rattle.tptp_base.specs.Sizes.{Size, small, both, all_of, size_of_item, size_of_items, IsWithin}
use Rattle.tptp_base.specs.Store.{Files}
use Rattle.tptp_lexer.proofs.Stepping.{range_length}
use Rattle.tptp_grammar.proofs.SpelledSizes.{cut_few, tokens_within, within_more}
use Rattle.include_resolve.specs.declared.problem.Problem.{Problem}
use Rattle.include_resolve.specs.Names.{Text}
use Rattle.include_resolve.specs.Parts.{Answer, file_alone, before}
use Rattle.include_resolve.specs.Resolved as walk
use Rattle.include_resolve.specs.Resolved.{Walk, Opens, Reads, Replaces, TakesItem, Resolves}
use Rattle.include_resolve.specs.Selection.{selected, chosen, is_selected, unknown_name}
use Rattle.include_resolve.specs.Texts.{IsSpelled}
use Rattle.include_resolve.proofs.Counts.{problem_few}

-- ---- of one text

pub spelled_within : (number : ℕ) (text : Text) (items : List Item) → IsSpelled number text items → IsWithin (length text) (size_of_items items)
spelled_within number text items spells =
    let (fits, same, (offset, cut, end)) = spells.lexed in
    let (us, file, within) = spells.parsed in
    let bytes = cut_few cut in
    within_more (length spells.tokens.items) (length text) (size_of_items items) (omega (arith, bytes, range_length text 0 (length text) (omega arith))) (tokens_within spells.tokens.style spells.tokens.items items (us, file))

-- ---- of items one by one

-- without the list that they stand in
abbrev together : List Item → Size
together items = all_of (map size_of_item items)

-- at most so much larger than a size
record Exceeds (more : ℕ) (size larger : Size) : Type 0 where
  longest : larger.longest ≤ size.longest + more
  variables : larger.variables ≤ size.variables + more

record Joined (first second joined : Size) : Type 0 where
  longest : joined.longest ≤ max first.longest second.longest
  variables : joined.variables ≡ first.variables + second.variables

append_joins : (xs ys : List Item) → Joined (together xs) (together ys) (together (xs ++ ys))
append_joins [] ys = record { longest = omega arith; variables = omega arith }
append_joins (x ∷ xs) ys = (let rest = append_joins xs ys in record { longest = omega (arith, rest.longest); variables = omega (arith, rest.variables) })

kept : (p : Item → Bool) (x : Item) (xs : List Item) (b : Bool) → Exceeds 0 (together xs) (together (filter p xs)) → Exceeds 0 (together (x ∷ xs)) (together (if b then x ∷ filter p xs else filter p xs))
kept p x xs true h = record { longest = omega (arith, h.longest); variables = omega (arith, h.variables) }
kept p x xs false h = record { longest = omega (arith, h.longest); variables = omega (arith, h.variables) }

filter_keeps : (p : Item → Bool) (xs : List Item) → Exceeds 0 (together xs) (together (filter p xs))
filter_keeps p [] = record { longest = omega arith; variables = omega arith }
filter_keeps p (x ∷ xs) = kept p x xs (p x) (filter_keeps p xs)

-- ---- of a walk

-- the items of the part are larger than this size by at most the bytes that were read for it
abbrev Grows : Size → Answer → Type 0
Grows size (Ok part) = Exceeds part.read size (together part.items)
Grows size (Err fault) = ⊤

part_before : (part : Problem) (s r : Size) (answer : Answer) → Grows s (Ok part) → Grows r answer → Grows (both s r) (before part answer)
part_before part s r (Ok rest) h k =
    let joins = append_joins part.items rest.items in
    record { longest = omega (arith, joins.longest, h.longest, k.longest); variables = omega (arith, joins.variables, h.variables, k.variables) }
part_before part s r (Err fault) h k = tt

file_before : (name : Text) (size : ℕ) (s : Size) (answer : Answer) → s.longest ≤ size → s.variables ≤ size → Grows s answer → Grows small (before (file_alone name size) answer)
file_before name size s (Ok rest) longest variables h = record { longest = omega (arith, longest, h.longest); variables = omega (arith, variables, h.variables) }
file_before name size s (Err fault) longest variables h = tt

larger : (s : Size) (answer : Answer) → Grows small answer → Grows s answer
larger s (Ok part) h = record { longest = omega (arith, h.longest); variables = omega (arith, h.variables) }
larger s (Err fault) h = tt

chosen_grows : (file : Text) (names : List Name) (part : Problem) (unknown : Option Name) → Grows small (Ok part) → Grows small (chosen file names part unknown)
chosen_grows file names part (Some name) h = tt
chosen_grows file names part None h =
    let keeps = filter_keeps (is_selected names) part.items in
    record { longest = omega (arith, keeps.longest, h.longest); variables = omega (arith, keeps.variables, h.variables) }

selected_grows : (file : Text) (selection : Option (List Name)) (answer : Answer) → Grows small answer → Grows small (selected file selection answer)
selected_grows file None answer h = h
selected_grows file (Some names) (Ok part) h = chosen_grows file names part (unknown_name names part.items) h
selected_grows file (Some names) (Err fault) h = tt

text_before : (w : Walk) (name bytes : Text) (items : List Item) (answer : Answer) → IsSpelled w.opened bytes items → Grows (together items) answer → Grows small (before (file_alone name (length bytes)) answer)
text_before w name bytes items answer spelled h =
    let within = spelled_within w.opened bytes items spelled in
    file_before name (length bytes) (together items) answer (omega (arith, within.longest)) (omega (arith, within.variables)) h

module _ (told : Option Files) (root : Option Text) where
  mutual
    opens_grows : {w : Walk} {names : List Text} {written : Text} {selection : Option (List Name)} {answer : Answer} → Opens told root w names written selection answer → Grows small answer
    opens_grows (walk.missing all) = tt
    opens_grows (walk.cycle found on) = tt
    opens_grows (walk.too_deep found off deep) = tt
    opens_grows {selection = selection} (walk.opened {name = name} {answer = answer} found off room reads) = selected_grows name selection answer (reads_grows reads)

    reads_grows : {w : Walk} {name : Text} {answer : Answer} → Reads told root w name answer → Grows small answer
    reads_grows (walk.over file) = tt
    reads_grows (walk.faulty read fault) = tt
    reads_grows {w = w} (walk.spelled {name = name} {bytes = bytes} {items = items} {answer = answer} read spelled replaces) = text_before w name bytes items answer spelled (replaces_grows replaces)

    replaces_grows : {w : Walk} {from : Text} {items : List Item} {answer : Answer} → Replaces told root w from items answer → Grows (together items) answer
    replaces_grows walk.done = record { longest = omega arith; variables = omega arith }
    replaces_grows (walk.stopped takes) = tt
    replaces_grows (walk.went_on {item = item} {items = items} {part = part} {answer = answer} takes more) =
        part_before part (size_of_item item) (together items) answer (takes_grows takes) (replaces_grows more)

    takes_grows : {w : Walk} {from : Text} {item : Item} {answer : Answer} → TakesItem told root w from item answer → Grows (size_of_item item) answer
    takes_grows walk.comment = record { longest = omega arith; variables = omega arith }
    takes_grows walk.formula = record { longest = omega arith; variables = omega arith }
    takes_grows (walk.replaced {inclusion = inclusion} {answer = answer} opens) = larger (size_of_item (Include inclusion)) answer (opens_grows opens)

-- a problem is no larger than what was read
pub problem_within : (told : Option Files) (root : Option Text) (name : Text) (problem : Problem) → Resolves told root name (Ok problem) → IsWithin problem.read (size_of_items problem.items)
problem_within told root name problem resolves =
    let grows = opens_grows told root resolves in
    let few = problem_few told root name problem resolves in
    record { longest = omega (arith, grows.longest, few, length-map problem.items size_of_item); variables = omega (arith, grows.variables) }
