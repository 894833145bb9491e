-- The items of a resolved problem are comments and formulas, whose places are in its files.
use Rattle.std.specs.Prelude.{⊤}
use Rattle.std.proofs.Common.{◌≡◌, ◌≤◌, ◌<◌, ℕ, ◌+◌, List, [], ◌∷◌, ◌++◌, length, All, refl, arith, length-append, Option, None, Some, Ok, Err}
use Rattle.std.proofs.lemmas.List.Elements.{All-nil, All-cons, All-head, All-tail, All-append, All-filter, All-weaker}
use Rattle.tptp_base.specs.declared.item.Item.{Item}
use Rattle.tptp_base.specs.declared.item.Item.TheVariants.{Comment, Formula, Include}
use Rattle.tptp_base.specs.declared.name.Name.{Name}
use Rattle.tptp_base.specs.declared.place.Place.{Place}
use Rattle.tptp_base.specs.Store.{Files}
use Rattle.tptp_lexer.specs.declared.style.Style.{Style}
use Rattle.tptp_lexer.specs.declared.token.Token.{Token}
use Rattle.tptp_lexer.specs.declared.token.Token.TheVariants.{Comment as Remark}
use Rattle.tptp_lexer.specs.Tokenized.{Cut, here, after_blank, after_token}
use Rattle.tptp_grammar.specs.Files.{Through, last_token, dropped, token, IsFile, end_of_file, comment, input}
use Rattle.tptp_grammar.specs.Items.{IsItem, annotated, include}
use Rattle.tptp_grammar.specs.Solid.{Placed}
use Rattle.tptp_grammar.specs.Tokens.{Tokens}
use Rattle.include_resolve.specs.declared.problem.Problem.{Problem}
use Rattle.include_resolve.specs.Laws.{IsResolvedItem}
use Rattle.include_resolve.specs.Names.{Text}
use Rattle.include_resolve.specs.Parts.{Answer, nothing, file_alone, before}
use Rattle.include_resolve.specs.Resolved as walk
use Rattle.include_resolve.specs.Resolved.{Walk, Opens, Reads, Replaces, TakesItem, Resolves}
use Rattle.include_resolve.specs.Selection.{selected, chosen, is_selected, unknown_name}
use Rattle.include_resolve.specs.Texts.{IsSpelled}

-- ---- of one text

-- the token stands in the file of this number
abbrev IsInFile : ℕ → Placed → Type 0
IsInFile number entry = entry.1.file ≡ number

-- a formula stands in the file of this number
abbrev IsOfFile : ℕ → Item → Type 0
IsOfFile number (Formula formula) = formula.place.file ≡ number
IsOfFile number (Comment text) = ⊤
IsOfFile number (Include inclusion) = ⊤

cut_placed : (number : ℕ) {style : Style} {item : Token → ℕ → Placed} {at end : ℕ} {text rest : Text} {items : List Placed} → ((t : Token) (k : ℕ) → IsInFile number (item t k)) → Cut style item at text items end rest → All (IsInFile number) items
cut_placed number is here = All-nil (IsInFile number)
cut_placed number is (after_blank h more) = cut_placed number is more
cut_placed number {item = item} {at = at} is (after_token spelling {token = t} {items = items} spelled longest more) = All-cons (IsInFile number) (item t at) items (is t at) (cut_placed number is more)

through_placed : (number : ℕ) {ts rest : List Placed} {us mid : Tokens} → Through ts rest us mid → All (IsInFile number) ts → All (IsInFile number) rest
through_placed number (last_token {t = t} {place = place} {rest = rest} h) all = All-tail (IsInFile number) (t, place) rest all
through_placed number (dropped {text = text} {place = place} {ts = ts} more) all = through_placed number more (All-tail (IsInFile number) (Remark text, place) ts all)
through_placed number (token {t = t} {place = place} {ts = ts} h more) all = through_placed number more (All-tail (IsInFile number) (t, place) ts all)

item_placed : (number : ℕ) {style : Style} {place : Place} {i : Item} {us mid : Tokens} → IsItem style place i us mid → place.file ≡ number → IsOfFile number i
item_placed number (annotated e has h j k x) is = is
item_placed number (include e h) is = tt

file_placed : (number : ℕ) {style : Style} {items : List Item} {ts : List Placed} {us : Tokens} → IsFile style items ts us → All (IsInFile number) ts → All (IsOfFile number) items
file_placed number end_of_file all = All-nil (IsOfFile number)
file_placed number (comment {text = text} {place = place} {items = items} {rest = rest} more) all = All-cons (IsOfFile number) (Comment text) items tt (file_placed number more (All-tail (IsInFile number) (Remark text, place) rest all))
file_placed number (input {i = i} {t = t} {place = place} {items = items} {ts = ts} is through more) all =
    All-cons (IsOfFile number) i items (item_placed number is (All-head (IsInFile number) (t, place) ts all)) (file_placed number more (through_placed number through (All-tail (IsInFile number) (t, place) ts all)))

spelled_placed : (number : ℕ) (text : Text) (items : List Item) → IsSpelled number text items → All (IsOfFile number) items
spelled_placed number text items spells =
    let (fits, same, (offset, cut, end)) = spells.lexed in
    let (us, file, within) = spells.parsed in
    file_placed number file (cut_placed number (λ t k. refl) cut)

-- ---- of a walk

more_files : (m n : ℕ) → m ≤ n → (i : Item) → IsResolvedItem m i → IsResolvedItem n i
more_files m n le (Formula formula) h = omega (arith, le, h)
more_files m n le (Comment text) h = tt
more_files m n le (Include inclusion) h = h

all_more : (m n : ℕ) (items : List Item) → m ≤ n → All (IsResolvedItem m) items → All (IsResolvedItem n) items
all_more m n items le all = All-weaker (IsResolvedItem m) (IsResolvedItem n) (more_files m n le) items all

-- the items of a part are of the files that were opened before it and in it
abbrev AreResolved : ℕ → Answer → Type 0
AreResolved opened (Ok part) = All (IsResolvedItem (opened + length part.files)) part.items
AreResolved opened (Err fault) = ⊤

chosen_resolved : (opened : ℕ) (file : Text) (names : List Name) (part : Problem) (unknown : Option Name) → AreResolved opened (Ok part) → AreResolved opened (chosen file names part unknown)
chosen_resolved opened file names part (Some name) all = tt
chosen_resolved opened file names part None all = All-filter (is_selected names) (IsResolvedItem (opened + length part.files)) part.items all

selected_resolved : (opened : ℕ) (file : Text) (selection : Option (List Name)) (answer : Answer) → AreResolved opened answer → AreResolved opened (selected file selection answer)
selected_resolved opened file None answer all = all
selected_resolved opened file (Some names) (Ok part) all = chosen_resolved opened file names part (unknown_name names part.items) all
selected_resolved opened file (Some names) (Err fault) all = tt

file_resolved : (opened : ℕ) (name : Text) (size : ℕ) (answer : Answer) → AreResolved (opened + 1) answer → AreResolved opened (before (file_alone name size) answer)
file_resolved opened name size (Ok rest) all = all_more (opened + 1 + length rest.files) (opened + length (name ∷ rest.files)) rest.items (omega arith) all
file_resolved opened name size (Err fault) all = tt

both_resolved : (opened : ℕ) (part : Problem) (answer : Answer) → AreResolved opened (Ok part) → AreResolved (opened + length part.files) answer → AreResolved opened (before part answer)
both_resolved opened part (Ok rest) first second =
    let total = opened + length (part.files ++ rest.files) in
    let sum = length-append part.files rest.files in
    All-append (IsResolvedItem total) part.items rest.items (all_more (opened + length part.files) total part.items (omega (arith, sum)) first) (all_more (opened + length part.files + length rest.files) total rest.items (omega (arith, sum)) second)
both_resolved opened part (Err fault) first second = tt

module _ (told : Option Files) (root : Option Text) where
  mutual
    opens_resolved : {w : Walk} {names : List Text} {written : Text} {selection : Option (List Name)} {answer : Answer} → Opens told root w names written selection answer → AreResolved w.opened answer
    opens_resolved (walk.missing all) = tt
    opens_resolved (walk.cycle found on) = tt
    opens_resolved (walk.too_deep found off deep) = tt
    opens_resolved {w = w} {selection = selection} (walk.opened {name = name} {answer = answer} found off room reads) = selected_resolved w.opened name selection answer (reads_resolved reads)

    reads_resolved : {w : Walk} {name : Text} {answer : Answer} → Reads told root w name answer → AreResolved w.opened answer
    reads_resolved (walk.over file) = tt
    reads_resolved (walk.faulty read fault) = tt
    reads_resolved {w = w} (walk.spelled {name = name} {bytes = bytes} {items = items} {answer = answer} read spelled replaces) =
        file_resolved w.opened name (length bytes) answer (replaces_resolved replaces w.opened (omega arith) (spelled_placed w.opened bytes items spelled))

    replaces_resolved : {w : Walk} {from : Text} {items : List Item} {answer : Answer} → Replaces told root w from items answer → (number : ℕ) → number < w.opened → All (IsOfFile number) items → AreResolved w.opened answer
    replaces_resolved {w = w} walk.done number less all = All-nil (IsResolvedItem (w.opened + length nothing.files))
    replaces_resolved (walk.stopped takes) number less all = tt
    replaces_resolved {w = w} (walk.went_on {item = item} {items = items} {part = part} {answer = answer} takes more) number less all =
        both_resolved w.opened part answer (takes_resolved takes number less (All-head (IsOfFile number) item items all)) (replaces_resolved more number (omega (arith, less)) (All-tail (IsOfFile number) item items all))

    takes_resolved : {w : Walk} {from : Text} {item : Item} {answer : Answer} → TakesItem told root w from item answer → (number : ℕ) → number < w.opened → IsOfFile number item → AreResolved w.opened answer
    takes_resolved {w = w} (walk.comment {text = text}) number less is = All-cons (IsResolvedItem (w.opened + length nothing.files)) (Comment text) [] tt (All-nil (IsResolvedItem (w.opened + length nothing.files)))
    takes_resolved {w = w} (walk.formula {annotated = formula}) number less is = All-cons (IsResolvedItem (w.opened + length nothing.files)) (Formula formula) [] (omega (arith, less, is)) (All-nil (IsResolvedItem (w.opened + length nothing.files)))
    takes_resolved (walk.replaced opens) number less is = opens_resolved opens

-- the items of a problem are of its files
pub problem_resolved : (told : Option Files) (root : Option Text) (name : Text) (problem : Problem) → Resolves told root name (Ok problem) → All (IsResolvedItem (length problem.files)) problem.items
problem_resolved told root name problem resolves = all_more (0 + length problem.files) (length problem.files) problem.items (omega arith) (opens_resolved told root resolves)
