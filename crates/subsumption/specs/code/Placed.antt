-- What it says that the literals from one on have places of their own.
use Rattle.std.specs.Prelude.{ℕ, ◌≡◌, ◌<◌, ◌≤◌, Bool, true, false, List, length, Option, Some, None, slice_get}
use Rattle.fof_terms.specs.declared.term.Term.{Term}
use Rattle.clause_form.specs.declared.clause.Lit.{Lit}
use Rattle.clause_form.specs.Covers.{lit_image, scope_of, AreSorted}
use Rattle.subsumption.specs.Subsumes.{StandsAt}
use Rattle.subsumption.specs.declared.bindings.Bindings.{Bindings}
use Rattle.subsumption.specs.declared.task.Task.{Task}
use Rattle.subsumption.specs.code.Bound.{images_of, Agrees, IsBack}
use Rattle.subsumption.specs.code.Matched.{Becomes, IsInto, IsTable}

-- the images of the literals from number `from` on stand at places that are not taken, each at one of its own
pub record ArePlaced (lits targets : List Lit) (taken : List Bool) (from : ℕ) (s : ℕ → Term) (at : ℕ → ℕ) : Type 0 where
  pub stands : (i : ℕ) (k : Lit) → from ≤ i → slice_get lits i ≡ Some k → StandsAt targets (at i) (lit_image s k)
  pub free : (i : ℕ) → from ≤ i → i < length lits → slice_get taken (at i) ≡ Some false
  pub apart : (i j : ℕ) → from ≤ i → i < length lits → from ≤ j → j < length lits → at i ≡ at j → i ≡ j

abbrev pub Places : Task → List Bool → ℕ → (ℕ → Term) → (ℕ → ℕ) → Type 0
Places task taken from s at = ArePlaced task.member.now.lits task.clause.now.lits taken from s at

-- places that do for each substitution that agrees with what is bound now
pub record HasPlaces (task : Task) (old new : Bindings) (taken : List Bool) (from : ℕ) : Type 0 where
  pub table : IsTable task new
  pub at : ℕ → ℕ
  pub places : (s : ℕ → Term) → Agrees s (images_of new) → Agrees s (images_of old) × Places task taken from s at

-- no well-sorted substitution that agrees with what was bound puts them so, at places with this property; nothing has
-- changed
pub record HasNone (task : Task) (old new : Bindings) (taken left : List Bool) (from : ℕ) (P : (ℕ → Term) → (ℕ → ℕ) → Type 0) : Type 0 where
  pub back : IsBack old new
  pub left_free : left ≡ taken
  pub none : (more : List ℕ) (s : ℕ → Term) (at : ℕ → ℕ) → IsInto task more s → Agrees s (images_of old) → Places task taken from s at → P s at → ⊥

abbrev pub IsPlaced : Task → Bindings → Bindings → List Bool → List Bool → ℕ → ((ℕ → Term) → (ℕ → ℕ) → Type 0) → Bool → Type 0
IsPlaced task old new taken left from P true = HasPlaces task old new taken from
IsPlaced task old new taken left from P false = HasNone task old new taken left from P

-- any places
abbrev pub Anywhere : (ℕ → Term) → (ℕ → ℕ) → Type 0
Anywhere s at = Unit {0}

-- what came of a try: whether there are places, or none with this property
abbrev pub IsTrial : Task → Bindings → Bindings → List Bool → List Bool → ℕ → ((ℕ → Term) → (ℕ → ℕ) → Type 0) → Option Bool
    → Type 0
IsTrial task old new taken left from P (Some answer) = IsPlaced task old new taken left from Anywhere answer
IsTrial task old new taken left from P None = HasNone task old new taken left from P

-- the first literal stands at this place
abbrev pub IsThere : ℕ → ℕ → (ℕ → Term) → (ℕ → ℕ) → Type 0
IsThere from place s at = at from ≡ place

-- both clauses are well-sorted
pub record AreSortedIn (task : Task) : Type 0 where
  pub member : AreSorted task.signature.now (scope_of task.member.now) task.member.now.lits
  pub clause : AreSorted task.signature.now (scope_of task.clause.now) task.clause.now.lits

-- the first literal stands at this place, in this way
abbrev pub IsAt : Task → ℕ → ℕ → Bool → (ℕ → Term) → (ℕ → ℕ) → Type 0
IsAt task from place exchanged s at = (at from ≡ place)
    × ((k l : Lit) → slice_get task.member.now.lits from ≡ Some k → slice_get task.clause.now.lits place ≡ Some l → Becomes exchanged k l s)
