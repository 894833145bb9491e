-- What a text denotes (TPTP technical manual, annotated formulas and types): its type lines are taken first, in order,
-- and then its other formulas, in order. The first fault is that of the text.
use Rattle.std.specs.Prelude.{◌≡◌, ℕ, ◌+◌, ◌==◌, ◌++◌, Bool, true, false, not, ◌&&◌, ◌||◌, if◌then◌else◌, List, [], ◌∷◌}
use Rattle.std.specs.Prelude.{length, Option, Some, None, Result, Ok, Err, nat_eq}
use Rattle.std.specs.List.{list_any}
use Rattle.std.specs.Str.{bytes_eq}
use Rattle.std.specs.Cmp.Lexicographic.{pointwise}
use Rattle.tptp_base.specs.declared.limit.LimitName.TheVariants.{Sorts}
use Rattle.tptp_base.specs.declared.surface.SortName.{SortName}
use Rattle.tptp_base.specs.Roles.{is_typing}
use Rattle.tptp_base.specs.declared.item.Role.{Role}
use Rattle.tptp_base.specs.declared.item.Shape.{Shape}
use Rattle.tptp_base.specs.declared.item.Body.{Body}
use Rattle.tptp_base.specs.declared.item.Annotated.{Annotated}
use Rattle.tptp_base.specs.declared.item.Item.{Item}
use Rattle.fof_terms.specs.Vocabulary.{Vocabulary, found_symbol, found_sort, is_kind}
use Rattle.fof_terms.specs.declared.signature.Kind.{Kind}
use Rattle.fof_terms.specs.declared.signature.Kind.TheVariants.{Function, Predicate}
use Rattle.fof_terms.specs.declared.signature.Symbol.{Symbol}
use Rattle.fof_terms.specs.declared.form.Form.{Form}
use Rattle.sort_check.specs.declared.fault.SortRule.{SortRule}
use Rattle.sort_check.specs.declared.fault.SortRule.TheVariants.{Redeclared, NotTyped, TwoConjectures, Limit}
use Rattle.sort_check.specs.declared.fault.SortFault.{SortFault}
use Rattle.sort_check.specs.declared.line.Line.{Line}
use Rattle.sort_check.specs.declared.line.TextKind.{TextKind}
use Rattle.sort_check.specs.Outcomes.{Outcome, and_then, mapped, each}
use Rattle.sort_check.specs.Symbols.{Text, with_name, with_symbol, named_sort}
use Rattle.sort_check.specs.Denotation.{formula}
use Rattle.tptp_base.specs.declared.surface.SortName.TheVariants as name
use Rattle.tptp_base.specs.declared.item.Role.TheVariants as role
use Rattle.tptp_base.specs.declared.item.Shape.TheVariants as shape
use Rattle.tptp_base.specs.declared.item.Body.TheVariants as body
use Rattle.tptp_base.specs.declared.item.Item.TheVariants as it
use Rattle.sort_check.specs.declared.fault.SortFault.TheVariants as fault
use Rattle.sort_check.specs.declared.line.TextKind.TheVariants as kind

-- ---- type lines

-- the vocabulary, and the names that the type lines so far declare as symbols
pub record Declared : Type 0 where
  pub vocabulary : Vocabulary
  pub names : List Text

abbrev pub sort_at : Text → Option ℕ → Vocabulary → Outcome SortRule Vocabulary ℕ
sort_at word (Some number) v = Ok (number, v)
sort_at word None v = if length v.sorts == 65536 then Err (Limit Sorts) else Ok (length v.sorts, record v { sorts = v.sorts ++ word ∷ [] })

-- a sort, which may be there
abbrev pub declared_sort : Text → Vocabulary → Outcome SortRule Vocabulary ℕ
declared_sort word v = sort_at word (found_sort v word) v

-- $o as a result makes a predicate
abbrev pub result_kind : SortName → Kind
result_kind name.Truth = Predicate
result_kind name.Individual = Function
result_kind (name.Word word) = Function

abbrev pub result_named : SortName → Vocabulary → Outcome SortRule Vocabulary ℕ
result_named name.Truth v = Ok (0, v)
result_named name.Individual v = Ok (0, v)
result_named (name.Word word) v = named_sort (name.Word word) v

abbrev pub symbol_of : Text → Kind → List ℕ → ℕ → Symbol
symbol_of word kind args result = record { name = word; kind = kind; args = args; result = result }

-- the symbol with the sorts that are written, left to right
abbrev pub symbol_named : Text → List SortName → SortName → Vocabulary → Outcome SortRule Vocabulary Symbol
symbol_named word args result v = and_then (each (λ place. named_sort) 0 args v) (λ sorts w. mapped (symbol_of word (result_kind result) sorts) (result_named result w))

-- the second symbol has the name of the first, and another kind, arity or type
abbrev pub differs : Symbol → Symbol → Bool
differs s t = bytes_eq t.name s.name && not (is_kind t.kind s.kind && (pointwise nat_eq t.args s.args && t.result == s.result))

abbrev pub found_or_added : Symbol → Option ℕ → Vocabulary → Outcome SortRule Vocabulary ℕ
found_or_added s (Some number) v = Ok (number, v)
found_or_added s None v = with_symbol s v

-- a symbol, which may be there with the same kind, arity and type
abbrev pub declared_symbol : Symbol → Vocabulary → Outcome SortRule Vocabulary ℕ
declared_symbol s v = if list_any (differs s) v.symbols then Err Redeclared else found_or_added s (found_symbol v s.name s.kind (length s.args)) v

-- behind the names that are declared
abbrev pub declaring : List Text → Outcome SortRule Vocabulary ℕ → Outcome SortRule Declared (Unit {0})
declaring names (Ok p) = Ok (tt, record { vocabulary = p.1; names = names })
declaring names (Err e) = Err e

abbrev pub typed : Text → Shape → Declared → Outcome SortRule Declared (Unit {0})
typed word shape.Sort d = declaring d.names (declared_sort word d.vocabulary)
typed word (shape.Symbol args result) d = declaring (with_name word d.names) (and_then (symbol_named word args result d.vocabulary) declared_symbol)

-- role type belongs to type declarations alone
abbrev pub typed_body : Body → Declared → Outcome SortRule Declared (Unit {0})
typed_body (body.Typing t) d = typed t.name t.shape d
typed_body (body.Logic a) d = Err NotTyped

-- a fault with the place and the name of its line
abbrev pub at_line : {S A : Type 0} → Annotated → Outcome SortRule S A → Outcome SortFault S A
at_line a (Ok p) = Ok p
at_line a (Err rule) = Err (fault.Line rule a.place a.name)

abbrev pub type_line : Annotated → Declared → Outcome SortFault Declared (Unit {0})
type_line a d = if is_typing a.role then at_line a (typed_body a.body d) else Ok (tt, d)

abbrev pub type_item : Item → Declared → Outcome SortFault Declared (Unit {0})
type_item (it.Formula a) d = type_line a d
type_item (it.Comment text) d = Ok (tt, d)
type_item (it.Include i) d = Ok (tt, d)

abbrev pub type_lines : List Item → Declared → Outcome SortFault Declared (Unit {0})
type_lines [] d = Ok (tt, d)
type_lines (i ∷ is) d = and_then (type_item i d) (λ done e. type_lines is e)

-- ---- the other lines

-- the vocabulary, and whether a conjecture has come
pub record Reading : Type 0 where
  pub vocabulary : Vocabulary
  pub conjectured : Bool

abbrev pub is_conjecture : Role → Bool
is_conjecture role.Conjecture = true
is_conjecture _ = false

abbrev pub is_single : TextKind → Bool
is_single kind.Problem = true
is_single kind.Derivation = false

abbrev pub line_of : ℕ → Annotated → Form → Line
line_of item a form = record { item = item; place = a.place; name = a.name; role = a.role; form = form }

abbrev pub reading : Bool → Outcome SortRule Vocabulary Form → Outcome SortRule Reading Form
reading conjectured (Ok p) = Ok (p.0, record { vocabulary = p.1; conjectured = conjectured })
reading conjectured (Err e) = Err e

-- whether a new symbol has the sorts of its place: in derivations
abbrev pub is_by_place : TextKind → Bool
is_by_place kind.Problem = false
is_by_place kind.Derivation = true

abbrev pub body_form : TextKind → List Text → Annotated → Body → Vocabulary → Outcome SortRule Vocabulary Form
body_form kind names a (body.Logic f) v = formula (is_by_place kind) a.lang names f v
body_form kind names a (body.Typing t) v = Err NotTyped

-- the second conjecture of a problem is refused before its formula is looked at
abbrev pub line_form : TextKind → List Text → Annotated → Reading → Outcome SortRule Reading Form
line_form kind names a s =
    if is_single kind && (is_conjecture a.role && s.conjectured) then Err TwoConjectures
    else reading (is_conjecture a.role || s.conjectured) (body_form kind names a a.body s.vocabulary)

abbrev pub line : TextKind → List Text → ℕ → Annotated → Reading → Outcome SortFault Reading (Option Line)
line kind names item a s = if is_typing a.role then Ok (None, s) else at_line a (mapped (λ form. Some (line_of item a form)) (line_form kind names a s))

abbrev pub line_item : TextKind → List Text → ℕ → Item → Reading → Outcome SortFault Reading (Option Line)
line_item kind names item (it.Formula a) s = line kind names item a s
line_item kind names item (it.Comment text) s = Ok (None, s)
line_item kind names item (it.Include i) s = Ok (None, s)

abbrev pub with_line : Option Line → List Line → List Line
with_line (Some l) lines = l ∷ lines
with_line None lines = lines

-- the lines of the items from that number on
abbrev pub lines_from : TextKind → List Text → ℕ → List Item → Reading → Outcome SortFault Reading (List Line)
lines_from kind names number [] s = Ok ([], s)
lines_from kind names number (i ∷ is) s = and_then (line_item kind names number i s) (λ found t. mapped (with_line found) (lines_from kind names (number + 1) is t))

-- ---- the whole text

abbrev pub only_vocabulary : Outcome SortFault Reading (List Line) → Outcome SortFault Vocabulary (List Line)
only_vocabulary (Ok p) = Ok (p.0, p.1.vocabulary)
only_vocabulary (Err e) = Err e

-- the lines of a text and the vocabulary behind them, or the first fault
abbrev pub denoted : List Item → Vocabulary → TextKind → Outcome SortFault Vocabulary (List Line)
denoted items v kind =
    and_then (type_lines items (record { vocabulary = v; names = [] }))
    (λ done d. only_vocabulary (lines_from kind d.names 0 items (record { vocabulary = d.vocabulary; conjectured = false })))

-- ---- what the functions ensure

abbrev pub Faults : {S A : Type 0} → Outcome SortFault S A → SortFault → Type 0
Faults outcome (fault.Line rule place named) = outcome ≡ Err (fault.Line rule place named)
Faults outcome fault.Memory = Unit {0}

abbrev pub Gives : {S A : Type 0} → Outcome SortFault S A → Result A SortFault → S → Type 0
Gives outcome (Ok x) new = outcome ≡ Ok (x, new)
Gives outcome (Err e) new = Faults outcome e
