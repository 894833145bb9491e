-- What the walk through a normal form, for functions in place of its existential variables, ends with.
use Rattle.std.specs.Prelude.{ℕ, ◌≡◌, ◌==◌, ◌++◌, ◌∷◌, true, if◌then◌else◌, List, [], length, Option, Some, None}
use Rattle.std.specs.List.{AllByRecursion as Each}
use Rattle.fof_terms.specs.declared.form.Form.{Form}
use Rattle.fof_terms.specs.Instance.{instance_of}
use Rattle.fof_terms.specs.Vocabulary.{Vocabulary}
use Rattle.skolem_fresh.specs.declared.just.Use.{Use}
use Rattle.skolem_fresh.specs.Uses.{value_of, Fits}
use Rattle.skolem_proofs.specs.Choosing.{AreOthers}
use Rattle.function_choices.specs.declared.atoms.Placed.{Placed}
use Rattle.function_choices.specs.Alike.{each_alike}
use Rattle.function_choices.specs.Arguments.{argument_count}
use Rattle.function_choices.specs.Order.{ordered}
use Rattle.function_choices.specs.Reading.{told}
use Rattle.function_choices.specs.Choices.{use_of, MayStand, IsFirst, IsChosen, AreChosen, IsRefused, AreRefused}

-- the symbol at all these variables, if it takes so many, and else at those that are needed, in the order that is told
abbrev pub applied : Vocabulary → List Placed → List Placed → ℕ → ℕ → List ℕ → List ℕ → ℕ → Use
applied v patterns atoms outer s all needed f = record {
  function = f;
  variables = ordered needed (told f patterns atoms) (if argument_count v f == outer then all else needed);
  sort = s;
}

-- the function stands for no variable before, its sorts fit, and with it each pattern is alike to one of the atoms
abbrev pub Serves : Vocabulary → List Placed → List Placed → List ℕ → List Use → Use → Type 0
Serves v patterns atoms scope before u = AreOthers u.function before × Fits v scope u × (each_alike u.function patterns atoms ≡ true)

-- the function serves; or there is none, since it does not
abbrev pub IsTried : Vocabulary → List Placed → List Placed → List ℕ → List Use → Use → Option Use → Type 0
IsTried v patterns atoms scope before u None = Serves v patterns atoms scope before u → ⊥
IsTried v patterns atoms scope before u (Some found) = (found ≡ u) × Serves v patterns atoms scope before u

-- the first of the symbols that may stand for the variable, in the place of which it is this, or none may
abbrev pub IsFound : Vocabulary → List Placed → List ℕ → List ℕ → List Use → ℕ → Form → Option Use → Type 0
IsFound v atoms fs scope before s body None = Each (λ g. MayStand v atoms scope before s body g → ⊥) fs
IsFound v atoms fs scope before s body (Some u) = (f : ℕ) × (u ≡ use_of v atoms (length scope) s body f) × IsFirst v atoms fs scope before s body f

-- the body with the value of that function, which was gained, or there is none
abbrev pub IsReplaced : Vocabulary → List Placed → List ℕ → List ℕ → ℕ → Form → List Use → List Use → Option Form → Type 0
IsReplaced v atoms fs scope s body old new None = IsFound v atoms fs scope old s body None
IsReplaced v atoms fs scope s body old new (Some next) = (u : Use) × IsFound v atoms fs scope old s body (Some u) × (new ≡ old ++ u ∷ []) × (next ≡ instance_of body (value_of u))

-- the functions that were gained are chosen for the formula, and with them it is this
pub record IsWalkedTo (v : Vocabulary) (atoms : List Placed) (fs scope : List ℕ) (a : Form) (old new : List Use) (b : Form) : Type 0 where
  pub uses : List Use
  pub gained : new ≡ old ++ uses
  pub chosen : IsChosen v atoms fs scope old a uses b

-- or there is no choice
abbrev pub IsWalked : Vocabulary → List Placed → List ℕ → List ℕ → Form → List Use → List Use → Option Form → Type 0
IsWalked v atoms fs scope a old new None = IsRefused v atoms fs scope old a
IsWalked v atoms fs scope a old new (Some b) = IsWalkedTo v atoms fs scope a old new b

-- the same of each of the formulas
pub record AreWalkedTo (v : Vocabulary) (atoms : List Placed) (fs scope : List ℕ) (as_ : List Form) (old new : List Use) (bs : List Form) : Type 0 where
  pub uses : List Use
  pub gained : new ≡ old ++ uses
  pub chosen : AreChosen v atoms fs scope old as_ uses bs

abbrev pub AreWalked : Vocabulary → List Placed → List ℕ → List ℕ → List Form → List Use → List Use → Option (List Form) → Type 0
AreWalked v atoms fs scope as_ old new None = AreRefused v atoms fs scope old as_
AreWalked v atoms fs scope as_ old new (Some bs) = AreWalkedTo v atoms fs scope as_ old new bs
