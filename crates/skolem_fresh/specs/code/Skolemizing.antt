-- What the walk through a formula, for functions in place of its existential variables, ends with.
use Rattle.std.specs.Prelude.{ℕ, ◌≡◌, ◌<◌, true, List, [], ◌∷◌, ◌++◌, length, flat_map, Option, Some, None}
use Rattle.fof_terms.specs.declared.form.Form.{Form}
use Rattle.fof_terms.specs.Instance.{instance_of}
use Rattle.fof_terms.specs.Variables.{has_variable}
use Rattle.fof_terms.specs.Vocabulary.{Vocabulary}
use Rattle.clause_form.specs.Norm.{norm_of, HasNorm}
use Rattle.kernel.specs.Statements.{Statements}
use Rattle.skolem_fresh.specs.declared.just.Use.{Use}
use Rattle.skolem_fresh.specs.declared.leaves.Leaf.{Leaf}
use Rattle.skolem_fresh.specs.code.Leaves.{leaves_of}
use Rattle.skolem_fresh.specs.code.Reading.{read_from}
use Rattle.skolem_fresh.specs.SkolemRule.{MayReplace, IsSkolemized, AreSkolemized}
use Rattle.skolem_fresh.specs.code.Solid.{IsSolid, AreSolid}
use Rattle.skolem_fresh.specs.Uses.{value_of, AreNew}

-- The function that is read off these terms may take the place of the variable of an existential quantifier over the
-- body, under so many quantifiers; or none may.
abbrev pub IsFunctionFor : Vocabulary → List ℕ → ℕ → ℕ → Form → List Leaf → Option Use → Type 0
IsFunctionFor v scope outer s body leaves None = has_variable 0 body ≡ true → (u : Use) → read_from outer s (leaves_of 0 body) leaves ≡ Some u → MayReplace v scope u s body → ⊥
IsFunctionFor v scope outer s body leaves (Some u) = (read_from outer s (leaves_of 0 body) leaves ≡ Some u) × MayReplace v scope u s body

-- the body with the value of that function, which was gained
abbrev pub IsReplaced : Vocabulary → List ℕ → ℕ → ℕ → Form → List Leaf → List Use → List Use → Option Form → Type 0
IsReplaced v scope outer s body leaves old new None = IsFunctionFor v scope outer s body leaves None
IsReplaced v scope outer s body leaves old new (Some next) =
    (u : Use) × IsFunctionFor v scope outer s body leaves (Some u) × (new ≡ old ++ u ∷ []) × (next ≡ instance_of body (value_of u))

-- The second formula is the first without its existential quantifiers, by functions that were gained. And a solid
-- formula is no other without them, by no other functions, if the terms begin with those of that other; and then these
-- are left.
pub record IsWalkedTo (v : Vocabulary) (scope : List ℕ) (a b : Form) (leaves left : List Leaf) (old new : List Use) : Type 0 where
  pub functions : List Use
  pub gained : new ≡ old ++ functions
  pub is : IsSkolemized v scope functions a b
  pub alone : IsSolid a → (uses : List Use) (c : Form) (after : List Leaf) → IsSkolemized v scope uses a c → leaves ≡ leaves_of (length scope) c ++ after → (uses ≡ functions) × (c ≡ b) × (after ≡ left)

-- this formula, or there is none for which the terms begin with its own
abbrev pub IsWalked : Vocabulary → List ℕ → Form → List Leaf → List Leaf → List Use → List Use → Option Form → Type 0
IsWalked v scope a leaves left old new None = IsSolid a → (uses : List Use) (c : Form) (after : List Leaf) → IsSkolemized v scope uses a c → leaves ≡ leaves_of (length scope) c ++ after → ⊥
IsWalked v scope a leaves left old new (Some b) = IsWalkedTo v scope a b leaves left old new

-- the same of each of the formulas
pub record AreWalkedTo (v : Vocabulary) (scope : List ℕ) (as_ bs : List Form) (leaves left : List Leaf) (old new : List Use) : Type 0 where
  pub functions : List Use
  pub gained : new ≡ old ++ functions
  pub are : AreSkolemized v scope functions as_ bs
  pub alone : AreSolid as_ → (uses : List Use) (cs : List Form) (after : List Leaf) → AreSkolemized v scope uses as_ cs → leaves ≡ flat_map (leaves_of (length scope)) cs ++ after → (uses ≡ functions) × (cs ≡ bs) × (after ≡ left)

abbrev pub AreWalked : Vocabulary → List ℕ → List Form → List Leaf → List Leaf → List Use → List Use → Option (List Form) → Type 0
AreWalked v scope as_ leaves left old new None = AreSolid as_ → (uses : List Use) (cs : List Form) (after : List Leaf) → AreSkolemized v scope uses as_ cs → leaves ≡ flat_map (leaves_of (length scope)) cs ++ after → ⊥
AreWalked v scope as_ leaves left old new (Some bs) = AreWalkedTo v scope as_ bs leaves left old new

-- the terms begin with these, the rest are left; or they don't begin with these
abbrev pub IsPassed : List Leaf → List Leaf → List Leaf → Option Form → Form → Type 0
IsPassed own leaves left None a = (after : List Leaf) → leaves ≡ own ++ after → ⊥
IsPassed own leaves left (Some b) a = (b ≡ a) × ((after : List Leaf) → leaves ≡ own ++ after → after ≡ left)

-- The formula has a normal form that, without its existential quantifiers, has this normal form, by functions that are
-- new to the theory; there is at least one.
pub record Gives (t : Statements) (parent made : Form) (norm result : Form) (uses : List Use) : Type 0 where
  pub of_parent : HasNorm parent norm
  pub some : 0 < length uses
  pub replaced : IsSkolemized t.vocabulary [] uses norm result
  pub new : AreNew t uses
  pub same : made ≡ norm_of true result

-- such functions, or there are none
abbrev pub IsGiven : Statements → Form → Form → Option (List Use) → Type 0
IsGiven t parent made None = (norm result : Form) (uses : List Use) → Gives t parent made norm result uses → ⊥
IsGiven t parent made (Some uses) = (norm result : Form) × Gives t parent made norm result uses
