-- Why items are no model of a signature: the first fault, in this order. An item is no sentence; then the first domain
-- that is wrong, or a sort without one; then an element that is not of the sort wanted; then a second value of a symbol
-- at the same elements; then a symbol that lacks a value.
use Rattle.std.specs.Prelude.{ℕ, ◌≡◌, ◌⊎◌, ◌<◌, ◌==◌, ◌||◌, not, if◌then◌else◌, Bool, true, false, List, [], ◌∷◌, ◌++◌}
use Rattle.std.specs.Prelude.{codes, is_some, length, slice_get, Option, Some, None, Ok, Err}
use Rattle.std.specs.List.{list_any}
use Rattle.tptp_base.specs.declared.place.Place.{Place}
use Rattle.tptp_base.specs.declared.name.Name.{Name}
use Rattle.tptp_base.specs.declared.item.Item.{Item}
use Rattle.fof_terms.specs.Vocabulary.{Vocabulary}
use Rattle.fof_terms.specs.declared.signature.Symbol.{Symbol}
use Rattle.fi_model.specs.declared.fault.ModelFault.{ModelFault}
use Rattle.fi_model.specs.declared.rows.Row.{Row}
use Rattle.fi_model.specs.declared.sentence.Domain.{Domain}
use Rattle.fi_model.specs.declared.sentence.Sentence.{Sentence}
use Rattle.fi_model.specs.Sentences.{Text, sentences}
use Rattle.fi_model.specs.Models.{sort_number, is_of, domains, names, repeats, AreDomains, rows, is_at, takes}
use Rattle.fi_model.specs.declared.fault.ModelFault.TheVariants as fault

-- ---- domains

abbrev pub sort_text : Option Text → Text
sort_text None = codes "$i"
sort_text (Some word) = word

abbrev pub is_taken : Vocabulary → List Domain → Option ℕ → Bool
is_taken v before None = false
is_taken v before (Some s) = list_any (is_of v s) before

-- The sort of the domain is not there, or one before is of its sort, or it has no element, or one twice.
abbrev pub is_wrong : Vocabulary → List Domain → Domain → Bool
is_wrong v before d = not (is_some (sort_number v d.sort)) || (is_taken v before (sort_number v d.sort) || ((length (names d) == 0) || repeats (names d)))

-- the first that is wrong behind those before
abbrev pub first_wrong : Vocabulary → List Domain → List Domain → Option Domain
first_wrong v before [] = None
first_wrong v before (d ∷ ds) = if is_wrong v before d then Some d else first_wrong v (before ++ d ∷ []) ds

-- no domain is of the sort
abbrev pub lacks_domain : Vocabulary → List Domain → ℕ → Bool
lacks_domain v stated s = not (list_any (is_of v s) stated)

-- The sort, the name of which this is, is the first without a domain.
pub record IsFirstWithout (v : Vocabulary) (stated : List Domain) (name : Text) : Type 0 where
  pub sort : ℕ
  pub is : slice_get v.sorts sort ≡ Some name
  pub lacks : lacks_domain v stated sort ≡ true
  pub first : (s : ℕ) → s < sort → lacks_domain v stated s ≡ false

-- it is the name of the sort of the first domain that is wrong, or, where none is, of the first sort without one
abbrev pub IsDomainFault : Vocabulary → List Domain → Text → Type 0
IsDomainFault v stated name = ((d : Domain) × (first_wrong v [] stated ≡ Some d) × (name ≡ sort_text d.sort))
    ⊎ ((first_wrong v [] stated ≡ None) × IsFirstWithout v stated name)

-- ---- rows

-- the place and the name are those of the sentence of that number
pub record IsAt (said : List Sentence) (at : ℕ) (place : Place) (name : Name) : Type 0 where
  pub sentence : Sentence
  pub is : slice_get said at ≡ Some sentence
  pub same_place : place ≡ sentence.place
  pub same_name : name ≡ sentence.name

-- the number of the sentence of the first row at whose symbol and elements one before stands
abbrev pub first_double : List Row → List Row → Option ℕ
first_double before [] = None
first_double before (r ∷ rs) = if list_any (is_at r.symbol r.args) before then Some r.at else first_double (before ++ r ∷ []) rs

-- the symbol lacks a row at some elements that it takes
pub record Lacks (v : Vocabulary) (elements : List (List Text)) (found : List Row) (symbol : ℕ) : Type 0 where
  pub args : List ℕ
  pub taken : takes v elements symbol args ≡ true
  pub none : list_any (is_at symbol args) found ≡ false

-- The symbol, the name of which this is, is the first that lacks a row.
pub record IsFirstLacking (v : Vocabulary) (elements : List (List Text)) (found : List Row) (name : Text) : Type 0 where
  pub symbol : ℕ
  pub s : Symbol
  pub is : slice_get v.symbols symbol ≡ Some s
  pub is_name : name ≡ s.name
  pub lacks : Lacks v elements found symbol
  pub first : (k : ℕ) → k < symbol → Lacks v elements found k → ⊥

-- ---- the whole

-- The sentences have good domains, which are these.
pub record HaveDomains (items : List Item) (v : Vocabulary) (said : List Sentence) (elements : List (List Text)) : Type 0 where
  pub is_said : sentences items ≡ Ok said
  pub are : AreDomains v (domains said) elements

-- They also have rows, which are these.
pub record HaveRows (items : List Item) (v : Vocabulary) (said : List Sentence) (elements : List (List Text)) (found : List Row) : Type 0 where
  pub good : HaveDomains items v said elements
  pub rows_are : rows v elements 0 said ≡ Ok found

-- why the items are no model
abbrev pub IsModelFault : List Item → Vocabulary → ModelFault → Type 0
IsModelFault items v (fault.Shape place) = sentences items ≡ Err place
IsModelFault items v (fault.Domain name) = (said : List Sentence) × (sentences items ≡ Ok said) × IsDomainFault v (domains said) name
IsModelFault items v (fault.Element place name) = (said : List Sentence) × (elements : List (List Text)) × HaveDomains items v said elements
    × ((at : ℕ) × (rows v elements 0 said ≡ Err at) × IsAt said at place name)
IsModelFault items v (fault.Double place name) = (said : List Sentence) × (elements : List (List Text)) × (found : List Row) × HaveRows items v said elements found
    × ((at : ℕ) × (first_double [] found ≡ Some at) × IsAt said at place name)
IsModelFault items v (fault.Missing name) = (said : List Sentence) × (elements : List (List Text)) × (found : List Row) × HaveRows items v said elements found
    × (first_double [] found ≡ None) × IsFirstLacking v elements found name
IsModelFault items v fault.Memory = Unit {0}
