-- What it says that terms and literals were matched, or were not.
use Rattle.std.specs.Prelude.{ℕ, ◌≡◌, Bool, true, false, List, ◌++◌, length, map, Some}
use Rattle.fof_terms.specs.declared.term.Term.{Term}
use Rattle.fof_terms.specs.Vocabulary.{Vocabulary}
use Rattle.fof_terms.specs.Sorts.{sort_of_term, are_sorts}
use Rattle.clause_form.specs.declared.clause.Lit.{Lit}
use Rattle.clause_form.specs.Images.{image, IsImages}
use Rattle.clause_form.specs.Covers.{lit_image, turned, scope_of}
use Rattle.subsumption.specs.declared.bindings.Bindings.{Bindings}
use Rattle.subsumption.specs.declared.task.Task.{Task}
use Rattle.subsumption.specs.code.Bound.{images_of, Agrees, AreOfSorts, Adds}

-- the variables of the term are among the first n, since it is well-sorted over some n of them
pub record IsWithin (n : ℕ) (t : Term) : Type 0 where
  pub vocabulary : Vocabulary
  pub scope : List ℕ
  pub sort : ℕ
  pub size : length scope ≡ n
  pub sorted : sort_of_term vocabulary scope t ≡ Some sort

-- the images make the two the same, or none of those that agree does
abbrev pub IsMatched : Bindings → Bindings → ((ℕ → Term) → Type 0) → Bool → Type 0
IsMatched old new P true = Adds old new P
IsMatched old new P false = (s : ℕ → Term) → Agrees s (images_of old) → P s → ⊥

-- where both terms have one sort, the images keep theirs
abbrev pub KeepsSort : Bindings → Bindings → Term → Term → Type 0
KeepsSort old new t u = (v : Vocabulary) (scope target : List ℕ) (r : ℕ) → sort_of_term v scope t ≡ Some r → sort_of_term v target u ≡ Some r
    → AreOfSorts v scope target (images_of old) → AreOfSorts v scope target (images_of new)

abbrev pub KeepsSorts : Bindings → Bindings → List Term → List Term → Type 0
KeepsSorts old new ts us = (v : Vocabulary) (scope target sorts : List ℕ) → are_sorts (map (sort_of_term v scope) ts) sorts ≡ true
    → are_sorts (map (sort_of_term v target) us) sorts ≡ true → AreOfSorts v scope target (images_of old) → AreOfSorts v scope target (images_of new)

-- the literal with its sides exchanged, or as it is
abbrev pub way : Bool → Lit → Lit
way true l = turned l
way false l = l

-- the image of the literal, or that with its sides exchanged, is the other
abbrev pub Becomes : Bool → Lit → Lit → (ℕ → Term) → Type 0
Becomes exchanged k l s = way exchanged (lit_image s k) ≡ l

-- the images of both terms are these two
abbrev pub BothBecome : Term → Term → Term → Term → (ℕ → Term) → Type 0
BothBecome one first other second s = (image s one ≡ first) × (image s other ≡ second)

-- a substitution for the member's variables
abbrev pub IsInto : Task → List ℕ → (ℕ → Term) → Type 0
IsInto task more s = IsImages task.signature.now (scope_of task.member.now) (scope_of task.clause.now ++ more) s

-- a table for the member's variables, with images of their sorts
pub record IsTable (task : Task) (b : Bindings) : Type 0 where
  pub size : length (images_of b) ≡ length (scope_of task.member.now)
  pub sorted : AreOfSorts task.signature.now (scope_of task.member.now) (scope_of task.clause.now) (images_of b)

-- what was matched has the property; if not, no well-sorted substitution that agrees has it
abbrev pub IsTried : Task → Bindings → Bindings → ((ℕ → Term) → Type 0) → Bool → Type 0
IsTried task old new P true = IsTable task new × Adds old new P
IsTried task old new P false = (more : List ℕ) (s : ℕ → Term) → IsInto task more s → Agrees s (images_of old) → P s → ⊥
