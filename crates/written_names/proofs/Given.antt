-- What a problem gives, by the items that its texts spell.
use Rattle.std.specs.Prelude.{◌≡◌, ◌++◌, ℕ, List, [], ◌∷◌, Option, Ok}
use Rattle.std.specs.List.{AllByRecursion}
use Rattle.std.proofs.Common.{sym, subst}
use Rattle.std.proofs.lemmas.List.Elements.{All-contains, All-from_recursion, All-weaker, recursion_from_All}
use Rattle.tptp_base.specs.Names.{names_of_item, names_of_items}
use Rattle.tptp_base.specs.Quotable.{IsQuotable, AreQuotable}
use Rattle.tptp_base.specs.Store.{Files}
use Rattle.tptp_base.specs.declared.item.Item.{Item}
use Rattle.tptp_base.proofs.Naming.{quotable_both, quotable_in_each}
use Rattle.tptp_lexer.specs.declared.style.Style.{Style}
use Rattle.tptp_lexer.specs.declared.style.Style.TheVariants.{Problem as ProblemStyle}
use Rattle.tptp_grammar.specs.Files.{IsFile}
use Rattle.tptp_grammar.proofs.SpelledNames.{spelled_names}
use Rattle.fof_terms.specs.Vocabulary.{Vocabulary}
use Rattle.fof_terms.specs.declared.signature.Symbol.{Symbol}
use Rattle.include_resolve.specs.Names.{Text}
use Rattle.include_resolve.specs.Laws.{IsOfSomeText}
use Rattle.include_resolve.specs.Resolved.{Resolves}
use Rattle.include_resolve.specs.Texts.{IsSpelled}
use Rattle.include_resolve.specs.declared.problem.Problem.{Problem}
use Rattle.include_resolve.proofs.SpelledItems.{problem_spelled}
use Rattle.sort_check.specs.Bringing.{Brings, IsNamed}
use Rattle.sort_check.specs.Given.{given_entries}
use Rattle.sort_check.specs.Texts.{denoted}
use Rattle.sort_check.specs.declared.line.Line.{Line}
use Rattle.sort_check.specs.declared.line.TextKind.TheVariants as kind
use Rattle.sort_check.proofs.LineBringing.{text_brings}
use Rattle.printed_forms.specs.Written.{AreGivenListed, AreItemsListed, IsItemListed}
use Rattle.printed_forms.proofs.Denoted.{denoted_listed, given_listed}
use Rattle.printed_forms.proofs.Spelled.{spelled_listed}
use Rattle.printed_forms.specs.Words.{AreNamed, HasWords}
use Rattle.written_names.proofs.GivenNames.{IsItemNamed, denoted_named, spelled_named}

-- what holds of each item that a text spells holds of each item of a problem with all that it includes
resolved_has : (P : Item → Type 0) → ((number : ℕ) (text : Text) (items : List Item) → IsSpelled number text items → AllByRecursion P items) → (told : Option Files) (root : Option Text) (file : Text) (whole : Problem)
    → Resolves told root file (Ok whole) → AllByRecursion P whole.items
resolved_has P spelled told root file whole resolves = recursion_from_All P whole.items (All-weaker IsOfSomeText P of_text whole.items (problem_spelled told root file whole resolves))
  where
    of_text : (item : Item) → IsOfSomeText item → P item
    of_text item (number, text, items, spells, stands) = All-contains P items item (All-from_recursion P items (spelled number text items spells)) stands

-- ---- names

abbrev HasWordsOf : Item → Type 0
HasWordsOf item = AreQuotable (names_of_item item)

text_words : (number : ℕ) (text : Text) (items : List Item) → IsSpelled number text items → AllByRecursion HasWordsOf items
text_words number text items spells =
    let (fits, same, (offset, cut, end)) = spells.lexed in
    let (us, file, within) = spells.parsed in
    quotable_in_each names_of_item items (spelled_names ProblemStyle number text _ _ spells.tokens.items offset [] items cut (us, subst (λ (style : Style). IsFile style items spells.tokens.items us) same file))

all_words : (items : List Item) → AllByRecursion HasWordsOf items → AreQuotable (names_of_items items)
all_words [] all = tt
all_words (i ∷ items) all = quotable_both (names_of_item i) (names_of_items items) all.0 (all_words items all.1)

named_words : (symbols : List Symbol) → AllByRecursion IsNamed symbols → AllByRecursion (λ (s : Symbol). IsQuotable s.name) symbols
named_words [] all = tt
named_words (s ∷ symbols) all = (all.0.quotable, named_words symbols all.1)

both_symbols : (xs ys : List Symbol) → AllByRecursion (λ (s : Symbol). IsQuotable s.name) xs → AllByRecursion (λ (s : Symbol). IsQuotable s.name) ys → AllByRecursion (λ (s : Symbol). IsQuotable s.name) (xs ++ ys)
both_symbols [] ys all more = more
both_symbols (x ∷ xs) ys all more = (all.0, both_symbols xs ys all.1 more)

brought_words : (v w : Vocabulary) → HasWords v → Brings v w → HasWords w
brought_words v w has brings = record {
  symbols = subst (AllByRecursion (λ (s : Symbol). IsQuotable s.name)) (sym brings.symbols) (both_symbols v.symbols brings.more_symbols has.symbols (named_words brings.more_symbols brings.named));
  sorts = subst AreQuotable (sym brings.sorts) (quotable_both v.sorts brings.more_sorts has.sorts brings.quotable);
}

pub problem_words : (told : Option Files) (root : Option (List ℕ)) (file : List ℕ) (whole : Problem) (lines : List Line) (v w : Vocabulary) → Resolves told root file (Ok whole) → HasWords v → denoted whole.items v kind.Problem ≡ Ok (lines, w) → HasWords w
problem_words told root file whole lines v w resolves has denotes =
    brought_words v w has (text_brings whole.items v w kind.Problem lines (all_words whole.items (resolved_has HasWordsOf text_words told root file whole resolves)) denotes)

-- ---- lists of one

text_listed : (number : ℕ) (text : Text) (items : List Item) → IsSpelled number text items → AreItemsListed items
text_listed number text items spells = (let (us, file, within) = spells.parsed in spelled_listed spells.tokens.style items spells.tokens.items (us, file))

pub problem_listed : (told : Option Files) (root : Option (List ℕ)) (file : List ℕ) (whole : Problem) (lines : List Line) (v w : Vocabulary) → Resolves told root file (Ok whole) → denoted whole.items v kind.Problem ≡ Ok (lines, w)
    → AreGivenListed (given_entries lines)
problem_listed told root file whole lines v w resolves denotes =
    given_listed lines (denoted_listed whole.items v w kind.Problem lines (resolved_has IsItemListed text_listed told root file whole resolves) denotes)

-- ---- names of given formulas

text_named : (number : ℕ) (text : Text) (items : List Item) → IsSpelled number text items → AllByRecursion IsItemNamed items
text_named number text items spells =
    let (fits, same, (offset, cut, end)) = spells.lexed in
    let (us, file, within) = spells.parsed in
    spelled_named ProblemStyle number text _ _ spells.tokens.items offset [] items cut (us, subst (λ (style : Style). IsFile style items spells.tokens.items us) same file)

pub problem_named : (told : Option Files) (root : Option (List ℕ)) (file : List ℕ) (whole : Problem) (lines : List Line) (v w : Vocabulary) → Resolves told root file (Ok whole) → denoted whole.items v kind.Problem ≡ Ok (lines, w)
    → AreNamed (given_entries lines)
problem_named told root file whole lines v w resolves denotes = denoted_named whole.items v w kind.Problem lines (resolved_has IsItemNamed text_named told root file whole resolves) denotes
