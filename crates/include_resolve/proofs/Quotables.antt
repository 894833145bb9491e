-- The names of included files are words of a text, and so of ASCII bytes.
use Rattle.std.proofs.Common.{◌≡◌, ℕ, ◌<◌, true, List, [], ◌∷◌, ◌++◌, All, reverse, Some, Ok, sym, subst, arith}
use Rattle.std.specs.Str.{IsUtf8}
use Rattle.std.specs.List.{AllByRecursion}
use Rattle.std.proofs.lemmas.Bool.Decides.{nat_tests}
use Rattle.std.proofs.lemmas.List.{reverse-append}
use Rattle.std.proofs.lemmas.List.Elements.{All-from_recursion, recursion_from_All, All-nil, All-push, All-pop, All-same, All-weaker}
use Rattle.std.proofs.lemmas.Str.{IsUtf8-from_ascii}
use Rattle.std.proofs.lemmas.Str.Ascii.{IsAscii-from_all}
use Rattle.tptp_base.specs.declared.item.Item.{Item}
use Rattle.tptp_base.specs.declared.item.Item.TheVariants.{Comment, Formula, Include}
use Rattle.tptp_base.specs.Names.{names_of_item}
use Rattle.tptp_base.specs.Quotable.{is_printable, IsQuotable, AreQuotable}
use Rattle.tptp_base.proofs.Naming.{quotable_in_each}
use Rattle.tptp_lexer.specs.declared.style.Style.{Style}
use Rattle.tptp_lexer.specs.declared.style.Style.TheVariants.{Problem as ProblemStyle}
use Rattle.tptp_grammar.specs.Files.{IsFile}
use Rattle.tptp_grammar.proofs.SpelledNames.{spelled_names}
use Rattle.include_resolve.specs.declared.opened.Opened.{Opened}
use Rattle.include_resolve.specs.declared.reading.Read.{Read}
use Rattle.include_resolve.specs.declared.reading.Read.TheVariants.{Whole, Over}
use Rattle.include_resolve.specs.Names.{Text}
use Rattle.include_resolve.specs.code.Opening.{TakesText}
use Rattle.include_resolve.specs.code.Steps.{HasQuotableFile}
use Rattle.include_resolve.specs.Texts.{IsSpelled}

-- ---- a name that a text can spell is UTF-8

printable_ascii : (byte : ℕ) → is_printable byte ≡ true → byte < 128
printable_ascii byte h = grind (arith, nat_tests)

pub quotable_utf8 : (name : List ℕ) → IsQuotable name → IsUtf8 name
quotable_utf8 name h =
    IsUtf8-from_ascii name (IsAscii-from_all name (All-weaker (λ (byte : ℕ). is_printable byte ≡ true) (λ (byte : ℕ). byte < 128) printable_ascii name h.printable))

-- ---- the items that a text spells

quotable_file : (item : Item) → AreQuotable (names_of_item item) → HasQuotableFile item
quotable_file (Include inclusion) all = all.0
quotable_file (Formula annotated) all = tt
quotable_file (Comment text) all = tt

pub spelled_quotable : (number : ℕ) (text : Text) (items : List Item) → IsSpelled number text items → All HasQuotableFile items
spelled_quotable number text items spells =
    let (fits, same, (offset, cut, end)) = spells.lexed in
    let (us, file, within) = spells.parsed in
    let names = spelled_names ProblemStyle number text _ _ spells.tokens.items offset [] items cut (us, subst (λ (style : Style). IsFile style items spells.tokens.items us) same file) in
    All-weaker (λ (item : Item). AreQuotable (names_of_item item)) HasQuotableFile quotable_file items
    (All-from_recursion (λ (item : Item). AreQuotable (names_of_item item)) items (quotable_in_each names_of_item items names))

pub text_quotable : (old new : Opened) (name : Text) (read : Read) (items : List Item) → TakesText old new name read (Ok items) → All HasQuotableFile items
text_quotable old new name (Whole text) items joins = spelled_quotable _ text items joins.spelled
text_quotable old new name (Over limit) items joins = absurd joins

-- ---- items in the other order

reversed_all : {X : Type 0} (P : X → Type 0) (xs : List X) → AllByRecursion P xs → All P (reverse xs)
reversed_all P [] all = All-nil P
reversed_all P (x ∷ xs) all = All-same P (reverse (x ∷ xs)) (reverse xs ++ x ∷ []) (reverse-append (x ∷ []) xs) (All-push P (reverse xs) x (reversed_all P xs all.1) all.0)

pub reversed_quotable : (items left : List Item) → left ≡ reverse items → All HasQuotableFile items → All HasQuotableFile left
reversed_quotable items left is all =
    subst (All HasQuotableFile) (sym is) (reversed_all HasQuotableFile items (recursion_from_All HasQuotableFile items all))

-- the last one, and those before it
pub last_quotable : (left rest : List Item) (item : Item) → left ≡ rest ++ item ∷ [] → All HasQuotableFile left → HasQuotableFile item
last_quotable left rest item is all = (All-pop HasQuotableFile left rest (Some item) is all).1

pub rest_quotable : (left rest : List Item) (item : Item) → left ≡ rest ++ item ∷ [] → All HasQuotableFile left → All HasQuotableFile rest
rest_quotable left rest item is all = (All-pop HasQuotableFile left rest (Some item) is all).0
