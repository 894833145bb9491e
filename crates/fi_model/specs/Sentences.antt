-- What the formulas of a finite model say (TPTP technical manual, finite interpretations): the domain of a sort, the
-- values of functions, and where predicates hold. The elements are distinct objects.
use Rattle.std.specs.Prelude.{ℕ, ◌&&◌, not, if◌then◌else◌, Bool, true, false, List, [], ◌∷◌, map, Option, Some, None}
use Rattle.std.specs.Prelude.{Result, Ok, Err}
use Rattle.std.specs.Option.{option_map, option_and_then}
use Rattle.std.specs.Str.{bytes_eq}
use Rattle.tptp_base.specs.declared.place.Place.{Place}
use Rattle.tptp_base.specs.declared.name.Name.{Name}
use Rattle.tptp_base.specs.declared.name.Name.TheVariants.{Word as Named, Integer}
use Rattle.tptp_base.specs.declared.surface.STerm.{STerm}
use Rattle.tptp_base.specs.declared.surface.STerm.TheViews.{out-STerm}
use Rattle.tptp_base.specs.declared.surface.Surface.{Surface}
use Rattle.tptp_base.specs.declared.surface.Surface.TheViews.{out-Surface}
use Rattle.tptp_base.specs.declared.surface.SortName.{SortName}
use Rattle.tptp_base.specs.declared.surface.BoundVar.{BoundVar}
use Rattle.tptp_base.specs.declared.surface.BinOp.{BinOp}
use Rattle.tptp_base.specs.declared.surface.Quant.{Quant}
use Rattle.tptp_base.specs.declared.item.Lang.{Lang}
use Rattle.tptp_base.specs.declared.item.Role.{Role}
use Rattle.tptp_base.specs.declared.item.Body.{Body}
use Rattle.tptp_base.specs.declared.item.Annotated.{Annotated}
use Rattle.tptp_base.specs.declared.item.Item.{Item}
use Rattle.fof_terms.specs.declared.signature.Kind.{Kind}
use Rattle.fof_terms.specs.declared.signature.Kind.TheVariants.{Function, Predicate}
use Rattle.fi_model.specs.Distinct.{object, is_distinct}
use Rattle.fi_model.specs.declared.sentence.Domain.{Domain}
use Rattle.fi_model.specs.declared.sentence.Element.{Element}
use Rattle.fi_model.specs.declared.sentence.Value.{Value}
use Rattle.fi_model.specs.declared.sentence.Value.TheVariants.{Element as OfFunction, Truth}
use Rattle.fi_model.specs.declared.sentence.Entry.{Entry}
use Rattle.fi_model.specs.declared.sentence.What.{What}
use Rattle.fi_model.specs.declared.sentence.Sentence.{Sentence}
use Rattle.tptp_base.specs.declared.surface.STerm.TheOpen as st
use Rattle.tptp_base.specs.declared.surface.Surface.TheOpen as sf
use Rattle.tptp_base.specs.declared.surface.SortName.TheVariants as sort
use Rattle.tptp_base.specs.declared.surface.BinOp.TheVariants as op
use Rattle.tptp_base.specs.declared.surface.Quant.TheVariants as q
use Rattle.tptp_base.specs.declared.item.Lang.TheVariants as lang
use Rattle.tptp_base.specs.declared.item.Role.TheVariants as role
use Rattle.tptp_base.specs.declared.item.Body.TheVariants as body
use Rattle.tptp_base.specs.declared.item.Item.TheVariants as item
use Rattle.fi_model.specs.declared.sentence.What.TheVariants as says

abbrev pub Text : Type 0
Text = List ℕ

-- all that are there, where each is
abbrev pub all_there : {X : Type 0} → List (Option X) → Option (List X)
all_there [] = Some []
all_there (None ∷ xs) = None
all_there (Some x ∷ xs) = option_map (λ ys. x ∷ ys) (all_there xs)

-- those that are there, and none where they are not
abbrev pub or_none : {X : Type 0} → Option (List X) → List X
or_none None = []
or_none (Some xs) = xs

abbrev pub alone : {X : Type 0} → X → List X
alone x = x ∷ []

-- ---- terms

abbrev pub named : Text → Element
named name = record { name = name }

abbrev pub element_word : Text → List STerm → Option Element
element_word word [] = option_map named (object word)
element_word word (t ∷ ts) = None

abbrev pub element_layer : st.STerm-F STerm → Option Element
element_layer (st.Var name) = None
element_layer (st.App word args) = element_word word args

-- the element that the term is
abbrev pub element : STerm → Option Element
element t = element_layer (out-STerm t)

abbrev pub elements : List STerm → Option (List Element)
elements ts = all_there (map element ts)

-- a symbol applied to elements, or alone
abbrev pub applied : Value → Text → List STerm → Option Entry
applied value word args = if is_distinct word then None else option_map (λ es. record { name = word; args = es; value = value }) (elements args)

-- ---- values of functions: f(e, ..) = e

abbrev pub function_layer : Value → st.STerm-F STerm → Option Entry
function_layer value (st.Var name) = None
function_layer value (st.App word args) = applied value word args

abbrev pub function_at : Value → STerm → Option Entry
function_at value t = function_layer value (out-STerm t)

abbrev pub function_entry : STerm → STerm → Option Entry
function_entry l r = option_and_then (λ e. function_at (OfFunction e) l) (element r)

abbrev pub equation_layer : sf.Surface-F Surface → Option Entry
equation_layer (sf.Eq l r) = function_entry l r
equation_layer _ = None

-- the equation gives a function its value
abbrev pub equation : Surface → Option Entry
equation a = equation_layer (out-Surface a)

-- ---- values of predicates: p(e, ..), its negation, p(e, ..) <=> $true, p(e, ..) <=> $false

abbrev pub atom_layer : Bool → sf.Surface-F Surface → Option Entry
atom_layer truth (sf.Atom word args) = applied (Truth truth) word args
atom_layer truth _ = None

-- the atom is given this truth
abbrev pub atom : Bool → Surface → Option Entry
atom truth a = atom_layer truth (out-Surface a)

abbrev pub truth_layer : sf.Surface-F Surface → Option Bool
truth_layer sf.True = Some true
truth_layer sf.False = Some false
truth_layer _ = None

-- the truth value that a formula is
abbrev pub truth : Surface → Option Bool
truth a = truth_layer (out-Surface a)

abbrev pub compared : BinOp → Surface → Surface → Option Entry
compared op.Iff a b = option_and_then (λ t. atom t a) (truth b)
compared _ a b = None

abbrev pub literal_layer : sf.Surface-F Surface → Option Entry
literal_layer (sf.Atom word args) = applied (Truth true) word args
literal_layer (sf.Not a) = atom false a
literal_layer (sf.Binary o a b) = compared o a b
literal_layer _ = None

-- the formula says whether a predicate holds
abbrev pub literal : Surface → Option Entry
literal a = literal_layer (out-Surface a)

-- ---- one formula, or a conjunction of them

-- what the formula says of a symbol of that kind
abbrev pub entry : Kind → Surface → Option Entry
entry Function a = equation a
entry Predicate a = literal a

abbrev pub conjuncts_layer : Kind → Surface → sf.Surface-F Surface → Option (List Entry)
conjuncts_layer kind a (sf.And as_) = all_there (map (entry kind) as_)
conjuncts_layer kind a _ = option_map alone (entry kind a)

abbrev pub conjuncts : Kind → Surface → Option (List Entry)
conjuncts kind a = conjuncts_layer kind a (out-Surface a)

-- ---- domains: ! [X: s] : ( X = e | .. )

abbrev pub variable_layer : Text → st.STerm-F STerm → Bool
variable_layer name (st.Var x) = bytes_eq x name
variable_layer name (st.App word args) = false

abbrev pub is_variable : Text → STerm → Bool
is_variable name t = variable_layer name (out-STerm t)

-- an equation of the variable with an element, either side first
abbrev pub either_side : Text → STerm → STerm → Option Element
either_side name l r = if is_variable name l then element r else (if is_variable name r then element l else None)

abbrev pub choice_layer : Text → sf.Surface-F Surface → Option Element
choice_layer name (sf.Eq l r) = either_side name l r
choice_layer name _ = None

abbrev pub choice : Text → Surface → Option Element
choice name a = choice_layer name (out-Surface a)

abbrev pub choices_layer : Text → Surface → sf.Surface-F Surface → Option (List Element)
choices_layer name a (sf.Or as_) = all_there (map (choice name) as_)
choices_layer name a _ = option_map alone (choice name a)

-- one such equation, or a disjunction of them
abbrev pub choices : Text → Surface → Option (List Element)
choices name a = choices_layer name a (out-Surface a)

abbrev pub word_sort : Text → Option (Option Text)
word_sort word = if is_distinct word then None else Some (Some word)

-- the sort of a bound variable: none stands for that of individuals
abbrev pub bound_sort : Option SortName → Option (Option Text)
bound_sort None = Some None
bound_sort (Some sort.Individual) = Some None
bound_sort (Some sort.Truth) = None
bound_sort (Some (sort.Word word)) = word_sort word

abbrev pub domain_of : BoundVar → Surface → Option Domain
domain_of x a = option_and_then (λ s. option_map (λ es. record { sort = s; elements = es }) (choices x.name a)) (bound_sort x.sort)

abbrev pub bound : Quant → List BoundVar → Surface → Option Domain
bound q.All (x ∷ []) a = domain_of x a
bound _ xs a = None

abbrev pub domain_layer : sf.Surface-F Surface → Option Domain
domain_layer (sf.Bind quant xs a) = bound quant xs a
domain_layer _ = None

abbrev pub domain : Surface → Option Domain
domain a = domain_layer (out-Surface a)

-- ---- whole formulas

abbrev pub said_domain : Surface → Option What
said_domain a = option_map says.Domain (domain a)

abbrev pub said_entries : Kind → Surface → Option What
said_entries kind a = option_map says.Entries (conjuncts kind a)

-- what a formula of this role says
abbrev pub said_by : Role → Surface → Option What
said_by role.FiDomain a = said_domain a
said_by role.FiFunctors a = said_entries Function a
said_by role.FiPredicates a = said_entries Predicate a
said_by _ a = None

abbrev pub body_says : Role → Body → Option What
body_says r (body.Logic a) = said_by r a
body_says r (body.Typing t) = None

-- the languages of formulas with quantifiers
abbrev pub is_quantified : Lang → Bool
is_quantified lang.Cnf = false
is_quantified lang.Tcf = false
is_quantified lang.Fof = true
is_quantified lang.Tff = true

-- the name of a formula is no distinct object
abbrev pub is_name : Name → Bool
is_name (Named word) = not (is_distinct word)
is_name (Integer number) = true

abbrev pub sentence_as : Annotated → What → Sentence
sentence_as a w = record { place = a.place; name = a.name; what = w }

-- the sentence that a formula is
abbrev pub sentence : Annotated → Option Sentence
sentence a = if is_quantified a.lang && is_name a.name then option_map (sentence_as a) (body_says a.role a.body) else None

abbrev pub or_refused : Place → Option Sentence → Result (Option Sentence) Place
or_refused place (Some s) = Ok (Some s)
or_refused place None = Err place

-- the sentence of an item, none for a comment, or the place of what is no sentence
abbrev pub item_sentence : Item → Result (Option Sentence) Place
item_sentence (item.Comment text) = Ok None
item_sentence (item.Include i) = Err i.place
item_sentence (item.Formula a) = or_refused a.place (sentence a)

abbrev pub in_front : Sentence → Result (List Sentence) Place → Result (List Sentence) Place
in_front s (Ok ss) = Ok (s ∷ ss)
in_front s (Err place) = Err place

abbrev pub and_then : Result (Option Sentence) Place → Result (List Sentence) Place → Result (List Sentence) Place
and_then (Ok (Some s)) rest = in_front s rest
and_then (Ok None) rest = rest
and_then (Err place) rest = Err place

-- the sentences of the items, or the place of the first item that is none
abbrev pub sentences : List Item → Result (List Sentence) Place
sentences [] = Ok []
sentences (i ∷ is) = and_then (item_sentence i) (sentences is)
