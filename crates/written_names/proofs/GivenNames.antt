-- The names of the formulas that a problem gives are names that its texts spell.
use Rattle.std.specs.Prelude.{◌≡◌, ◌+◌, ⊤, ℕ, Bool, true, false, cond, List, [], ◌∷◌, Option, Some, None, Ok}
use Rattle.std.specs.List.{AllByRecursion}
use Rattle.std.proofs.Common.{subst}
use Rattle.first_fault.specs.Nesting.{Nested}
use Rattle.tptp_base.specs.Quotable.{IsQuotable}
use Rattle.tptp_base.specs.Roles.{is_typing}
use Rattle.tptp_base.specs.declared.item.Annotated.{Annotated}
use Rattle.tptp_base.specs.declared.item.Item.{Item}
use Rattle.tptp_base.specs.declared.item.Item.TheVariants as it
use Rattle.tptp_base.specs.declared.name.Name.{Name}
use Rattle.tptp_base.specs.declared.place.Place.{Place}
use Rattle.tptp_lexer.specs.declared.style.Style.{Style}
use Rattle.tptp_lexer.specs.declared.token.Token.{Token}
use Rattle.tptp_lexer.specs.declared.token.Token.TheVariants.{Lower, Quoted}
use Rattle.tptp_lexer.specs.Bytes.{Text as Bytes}
use Rattle.tptp_lexer.specs.Tokenized.{Cut, placed}
use Rattle.tptp_lexer.proofs.Nameable.{IsNameable, AreNameable, cut_nameable}
use Rattle.tptp_grammar.specs.Tokens.{Tokens, word}
use Rattle.tptp_grammar.specs.Items as i
use Rattle.tptp_grammar.specs.Items.{IsItem, IsName}
use Rattle.tptp_grammar.specs.Solid.{Placed}
use Rattle.tptp_grammar.specs.Files.{Through, last_token, dropped, token, IsFile, end_of_file, comment, input, Spells}
use Rattle.fof_terms.specs.Vocabulary.{Vocabulary}
use Rattle.fof_terms.specs.declared.form.Form.{Form}
use Rattle.sort_check.specs.declared.fault.SortFault.{SortFault}
use Rattle.sort_check.specs.declared.line.GivenEntry.{GivenEntry}
use Rattle.sort_check.specs.declared.line.Line.{Line}
use Rattle.sort_check.specs.declared.line.TextKind.{TextKind}
use Rattle.sort_check.specs.Outcomes.{Outcome, mapped}
use Rattle.sort_check.specs.Symbols.{Text}
use Rattle.sort_check.specs.Given.{given_entries, given_form, with_entry}
use Rattle.sort_check.specs.Texts.{at_line, denoted, line, line_form, line_item, line_of, lines_from, only_vocabulary, type_lines, with_line, Reading}
use Rattle.sort_check.proofs.LineSorts.{at_line_ok, only_ok}
use Rattle.sort_check.proofs.Stepping.{at_ok, mapped_ok, then_ok}
use Rattle.printed_forms.specs.Words.{AreNamed, HasSpelling}

-- ---- what is spelled

-- the words among the tokens can be written between quotes
abbrev AreWords : Tokens → Type 0
AreWords tokens = AllByRecursion (λ (entry : Nested Token). IsNameable entry.0) tokens

-- the tokens behind an item
behind : {ts rest : List Placed} {us mid : Tokens} → Through ts rest us mid → AreNameable ts → AreNameable rest
behind (last_token solid) all = all.1
behind (dropped h) all = behind h all.1
behind (token solid h) all = behind h all.1

through : {ts rest : List Placed} {us mid : Tokens} → Through ts rest us mid → AreNameable ts → AreWords mid → AreWords us
through (last_token solid) all later = (all.0, later)
through (dropped h) all later = through h all.1 later
through (token solid h) all later = (all.0, through h all.1 later)

file_words : {style : Style} {items : List Item} {ts : List Placed} {us : Tokens} → IsFile style items ts us → AreNameable ts → AreWords us
file_words end_of_file all = tt
file_words (comment h) all = file_words h all.1
file_words (input h past k) all = (all.0, through past all.1 (file_words k (behind past all.1)))

word_quotable : (w : Token) (name : Bytes) → word w ≡ Some name → IsNameable w → IsQuotable name
word_quotable (Lower own) name e h = (let same : own ≡ name = cc in subst IsQuotable same h)
word_quotable (Quoted own) name e h = (let same : own ≡ name = cc in subst IsQuotable same h)
word_quotable w name e h = cc

of_name : {n : Name} {ts rest : Tokens} → IsName n ts rest → AreWords ts → HasSpelling n
of_name (i.word_name {w = w} {n = n} e) all = word_quotable w n e all.0
of_name (i.integer_name e) all = e

-- the name of the item's formula has a spelling
abbrev pub IsItemNamed : Item → Type 0
IsItemNamed (it.Comment text) = ⊤
IsItemNamed (it.Formula annotated) = HasSpelling annotated.name
IsItemNamed (it.Include include) = ⊤

of_item : {style : Style} {place : Place} {x : Item} {ts rest : Tokens} → IsItem style place x ts rest → AreWords ts → IsItemNamed x
of_item (i.annotated e has h j k x) all = of_name h all.1.1
of_item (i.include e h) all = tt

of_file : {style : Style} {items : List Item} {ts : List Placed} {us : Tokens} → IsFile style items ts us → AreNameable ts → AllByRecursion IsItemNamed items
of_file end_of_file all = tt
of_file (comment h) all = (tt, of_file h all.1)
of_file (input h past k) all = (of_item h (all.0, through past all.1 (file_words k (behind past all.1))), of_file k (behind past all.1))

pub spelled_named : (style : Style) (file : ℕ) (whole : Bytes) (at : ℕ) (text : Bytes) (tokens : List Placed) (end : ℕ) (rest : Bytes) (items : List Item) → Cut style (placed file whole) at text tokens end rest → Spells style items tokens
    → AllByRecursion IsItemNamed items
spelled_named style file whole at text tokens end rest items cut spells = of_file spells.1 (cut_nameable style file whole cut)

-- ---- what is denoted

abbrev IsLineNamed : Option Line → Type 0
IsLineNamed None = Unit {0}
IsLineNamed (Some l) = HasSpelling l.name

abbrev AreLinesNamed : List Line → Type 0
AreLinesNamed lines = AllByRecursion (λ (l : Line). HasSpelling l.name) lines

line_named : (kind : TextKind) (names : List Text) (number : ℕ) (l : Annotated) (s t : Reading) (found : Option Line) → HasSpelling l.name → line kind names number l s ≡ Ok (found, t) → IsLineNamed found
line_named kind names number l s t found named e = by (is_typing l.role) e
  where
    by : (b : Bool) → ◌≡◌ {A = Outcome SortFault Reading (Option Line)} (cond b (Ok (None, s)) (at_line l (mapped (λ form. Some (line_of number l form)) (line_form kind names l s)))) (Ok (found, t)) → IsLineNamed found
    by true k = at_ok {E = SortFault} (λ x (u : Reading). IsLineNamed x) None found s t k tt
    by false k =
        let some_line : Form → Option Line = λ form. Some (line_of number l form) in
        let inner = mapped_ok some_line (line_form kind names l s) found t (at_line_ok l (mapped some_line (line_form kind names l s)) found t k) in
        subst IsLineNamed inner.2 named

item_named : (kind : TextKind) (names : List Text) (number : ℕ) (x : Item) (s t : Reading) (found : Option Line) → IsItemNamed x → line_item kind names number x s ≡ Ok (found, t) → IsLineNamed found
item_named kind names number (it.Formula l) s t found named e = line_named kind names number l s t found named e
item_named kind names number (it.Comment text) s t found named e = at_ok {E = SortFault} (λ x (u : Reading). IsLineNamed x) None found s t e tt
item_named kind names number (it.Include x) s t found named e = at_ok {E = SortFault} (λ y (u : Reading). IsLineNamed y) None found s t e tt

with_named : (found : Option Line) (lines : List Line) → IsLineNamed found → AreLinesNamed lines → AreLinesNamed (with_line found lines)
with_named None lines one all = all
with_named (Some l) lines one all = (one, all)

lines_named : (kind : TextKind) (names : List Text) (number : ℕ) (items : List Item) (s t : Reading) (lines : List Line) → AllByRecursion IsItemNamed items → lines_from kind names number items s ≡ Ok (lines, t) → AreLinesNamed lines
lines_named kind names number [] s t lines named e = at_ok {E = SortFault} (λ (ls : List Line) (u : Reading). AreLinesNamed ls) [] lines s t e tt
lines_named kind names number (x ∷ items) s t lines named e =
    let parts = then_ok (line_item kind names number x s) (λ found u. mapped (with_line found) (lines_from kind names (number + 1) items u)) lines t e in
    let one = item_named kind names number x s parts.1 parts.0 named.0 parts.2 in
    let last = mapped_ok (with_line parts.0) (lines_from kind names (number + 1) items parts.1) lines t parts.3 in
    let rest = lines_named kind names (number + 1) items parts.1 t last.0 named.1 last.1 in
    subst AreLinesNamed last.2 (with_named parts.0 last.0 one rest)

with_given : (l : Line) (o : Option Form) → HasSpelling l.name → (entries : List GivenEntry) → AreNamed entries → AreNamed (with_entry l o entries)
with_given l None named entries all = all
with_given l (Some a) named entries all = (named, all)

given_named : (lines : List Line) → AreLinesNamed lines → AreNamed (given_entries lines)
given_named [] all = tt
given_named (l ∷ lines) all = with_given l (given_form l.role l.form) all.0 (given_entries lines) (given_named lines all.1)

pub denoted_named : (items : List Item) (v w : Vocabulary) (kind : TextKind) (lines : List Line) → AllByRecursion IsItemNamed items → denoted items v kind ≡ Ok (lines, w) → AreNamed (given_entries lines)
denoted_named items v w kind lines named e =
    let parts = then_ok (type_lines items (record { vocabulary = v; names = [] })) (λ done d. only_vocabulary (lines_from kind d.names 0 items (record { vocabulary = d.vocabulary; conjectured = false }))) lines w e in
    let inner = only_ok (lines_from kind parts.1.names 0 items (record { vocabulary = parts.1.vocabulary; conjectured = false })) lines w parts.3 in
    given_named lines (lines_named kind parts.1.names 0 items (record { vocabulary = parts.1.vocabulary; conjectured = false }) inner.0 lines named inner.1)
