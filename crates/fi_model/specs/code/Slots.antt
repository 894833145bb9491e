-- The sorts of a signature while its domains are read: those whose domain has not come have no elements.
use Rattle.std.specs.Prelude.{ℕ, ◌≡◌, ◌==◌, ◌&&◌, ◌||◌, nat_lt, if◌then◌else◌, List, [], length, position, get_or, slice_get, slice_set, Option, Some, None}
use Rattle.fof_terms.specs.Vocabulary.{Vocabulary}
use Rattle.fi_model.specs.declared.fault.ModelFault.{ModelFault}
use Rattle.fi_model.specs.declared.sentence.Domain.{Domain}
use Rattle.fi_model.specs.declared.sentence.What.{What}
use Rattle.fi_model.specs.Sentences.{Text}
use Rattle.fi_model.specs.Models.{sort_number, names, repeats}
use Rattle.fi_model.specs.Faults.{sort_text as named, IsDomainFault}
use Rattle.fi_model.specs.declared.fault.ModelFault.TheVariants as fault
use Rattle.fi_model.specs.declared.sentence.What.TheVariants as says

abbrev pub sort_text : Option Text → Text
sort_text = named

-- the sort, if it is there and has no elements
abbrev pub open_slot : List (List Text) → Option ℕ → Option ℕ
open_slot slots None = None
open_slot slots (Some s) = if nat_lt s (length slots) && (length (get_or slots s []) == 0) then Some s else None

-- the elements, if there are some, and each once
abbrev pub good_elements : List Text → Option (List Text)
good_elements xs = if (length xs == 0) || repeats xs then None else Some xs

abbrev pub first_empty : List (List Text) → Option ℕ
first_empty slots = position (λ elements. length elements == 0) slots

abbrev pub put : List (List Text) → Option ℕ → Option (List Text) → Option (List (List Text))
put slots None elements = None
put slots (Some s) None = None
put slots (Some s) (Some elements) = Some (slice_set slots s elements)

-- the sorts with the domain, if it is none that is wrong
abbrev pub with_elements : Vocabulary → List (List Text) → Domain → Option (List (List Text))
with_elements v slots d = put slots (open_slot slots (sort_number v d.sort)) (good_elements (names d))

abbrev pub TakesDomain : Vocabulary → List (List Text) → Domain → List (List Text) → Type 0
TakesDomain v old d new = with_elements v old d ≡ Some new

abbrev pub IsWrongDomain : Option Text → ModelFault → Type 0
IsWrongDomain sort (fault.Domain name) = name ≡ sort_text sort
IsWrongDomain sort fault.Memory = Unit {0}
IsWrongDomain sort _ = ⊥

abbrev pub IsNoDomain : Vocabulary → ℕ → ModelFault → Type 0
IsNoDomain v sort (fault.Domain name) = slice_get v.sorts sort ≡ Some name
IsNoDomain v sort fault.Memory = Unit {0}
IsNoDomain v sort _ = ⊥

abbrev pub RefusesDomain : Vocabulary → List (List Text) → Domain → ModelFault → Type 0
RefusesDomain v old d (fault.Domain name) = (with_elements v old d ≡ None) × (name ≡ sort_text d.sort)
RefusesDomain v old d fault.Memory = Unit {0}
RefusesDomain v old d _ = ⊥

abbrev pub Takes : Vocabulary → List (List Text) → What → List (List Text) → Type 0
Takes v old (says.Domain d) new = TakesDomain v old d new
Takes v old (says.Entries es) new = new ≡ old

abbrev pub Refuses : Vocabulary → List (List Text) → What → ModelFault → Type 0
Refuses v old (says.Domain d) f = RefusesDomain v old d f
Refuses v old (says.Entries es) f = ⊥

-- why the domains are not good
abbrev pub IsOfDomains : Vocabulary → List Domain → ModelFault → Type 0
IsOfDomains v stated (fault.Domain name) = IsDomainFault v stated name
IsOfDomains v stated fault.Memory = Unit {0}
IsOfDomains v stated _ = ⊥
