-- Proofs of members of a refutation, by the numbers at which the clauses of others stand.
use Rattle.std.specs.Prelude.{ℕ, ◌≡◌, ◌+◌, ◌⊎◌, Bool, true, false, List, [], ◌∷◌, ◌++◌, length, Some, slice_get}
use Rattle.std.specs.List.{AllByRecursion}
use Rattle.fof_terms.specs.Vocabulary.{Vocabulary}
use Rattle.fof_terms.specs.declared.form.Form.{Form, Or}
use Rattle.clause_form.specs.declared.clause.Clause.{Clause}
use Rattle.clause_form.specs.declared.path.Parent.{Parent}
use Rattle.clause_proofs.specs.Shown.{ShowsLine}
use Rattle.input_proofs.specs.Formulas.{formula_of}
use Rattle.kernel.specs.declared.proof.Proof.{Proof}
use Rattle.saturation.specs.Members.{clauses_of}
use Rattle.saturation.specs.declared.member.Member.{Member}
use Rattle.saturation.specs.declared.member.Origin.{Origin}
use Rattle.saturation.specs.declared.member.Origin.TheVariants.{Input, Inferred}
use Rattle.search_proofs.specs.Needed.{IsMarked}
use Rattle.search_proofs.specs.code.Facts.{Setting, AreShown, StandsAt, first_fact}

-- the parent is the clause of this member, at its number
pub record IsPremise (members : List Member) (numbers : List ℕ) (at : ℕ) (p : Parent) : Type 0 where
  pub clause : Clause
  pub there : slice_get (clauses_of members) at ≡ Some clause
  pub number : slice_get numbers at ≡ Some p.number
  pub form : p.form ≡ formula_of clause

-- the proof shows the clause by those of two members
pub record IsConcluded (w : Vocabulary) (members : List Member) (numbers : List ℕ) (a b : ℕ) (e : Clause) (proof : Proof) : Type 0 where
  pub one : Parent
  pub other : Parent
  pub first : IsPremise members numbers a one
  pub second : IsPremise members numbers b other
  pub shows : ShowsLine w (one ∷ other ∷ []) (formula_of e) proof

-- one proof was added, which shows the clause, and this is the number of what it shows
pub record IsAdded (w : Vocabulary) (start : ℕ) (members : List Member) (numbers : List ℕ) (a b : ℕ) (e : Clause) (old new : List Proof) (number : ℕ) : Type 0 where
  pub proof : Proof
  pub is : new ≡ old ++ proof ∷ []
  pub concluded : IsConcluded w members numbers a b e proof
  pub number_is : number ≡ start + length old

-- the number of the clause, which is an input or is proved from members
abbrev pub IsPassed : Vocabulary → ℕ → List Member → List ℕ → List ℕ → Clause → Origin → List Proof → List Proof → ℕ → Type 0
IsPassed w start members numbers of_inputs e (Input i) old new number = (new ≡ old) × (slice_get of_inputs i ≡ Some number)
IsPassed w start members numbers of_inputs e (Inferred a b images) old new number = IsAdded w start members numbers a b e old new number

-- the same where the member is needed, and else nothing
pub record IsPassedIf (needed : Bool) (w : Vocabulary) (start : ℕ) (members : List Member) (numbers of_inputs : List ℕ) (e : Clause) (o : Origin) (old new : List Proof) (number : ℕ) : Type 0 where
  pub passed : needed ≡ true → IsPassed w start members numbers of_inputs e o old new number
  pub same : needed ≡ false → new ≡ old

-- the origin's input, if it has one, stands at its number
abbrev pub InputStands : Setting → List Form → List ℕ → Member → Type 0
InputStands s facts of_inputs m = (i n : ℕ) → m.origin ≡ Input i → slice_get of_inputs i ≡ Some n → StandsAt s facts n (formula_of m.clause)

-- so do those of all needed members
abbrev pub InputsStand : Setting → List Form → List ℕ → List Member → List Bool → Type 0
InputsStand s facts of_inputs members needed = (j : ℕ) (m : Member) → slice_get members j ≡ Some m → IsMarked needed j → InputStands s facts of_inputs m

-- needed members stand at their numbers
abbrev pub MembersStand : Setting → List Form → List Member → List Bool → List ℕ → Type 0
MembersStand s facts members needed numbers = (j : ℕ) (m : Member) (n : ℕ) → slice_get members j ≡ Some m → IsMarked needed j → slice_get numbers j ≡ Some n → StandsAt s facts n (formula_of m.clause)

-- the formula is a member's
abbrev pub IsMembers : List Member → Form → Type 0
IsMembers members a = (j : ℕ) × (m : Member) × (slice_get members j ≡ Some m) × (a ≡ formula_of m.clause)

-- the proofs show some formulas more
pub record ShowMore (s : Setting) (P : Form → Type 0) (proofs : List Proof) (old facts : List Form) : Type 0 where
  pub shown : AreShown s proofs facts
  pub more : List Form
  pub is : facts ≡ old ++ more
  pub each : AllByRecursion P more

-- Where the first proofs show facts, among which the inputs stand, the second ones show those and the needed members.
abbrev pub PassMembers : Vocabulary → ℕ → List Member → List Bool → List ℕ → List ℕ → List Proof → List Proof → Type 0
PassMembers w start members needed of_inputs numbers old new =
    (s : Setting) → s.vocabulary ≡ w → first_fact s ≡ start → (facts : List Form) → AreShown s old facts → InputsStand s facts of_inputs members needed
    → (all : List Form) × ShowMore s (IsMembers members) new facts all × MembersStand s all members needed numbers

-- a formula of a member, of the last one too, or falsehood
abbrev pub IsLater : List Member → Member → Form → Type 0
IsLater members last a = IsMembers members a ⊎ ((a ≡ formula_of last.clause) ⊎ (a ≡ Or []))

-- the proofs show some formulas more, falsehood at last
pub record ShowFalsehoodLast (s : Setting) (P : Form → Type 0) (proofs : List Proof) (old : List Form) : Type 0 where
  pub facts : List Form
  pub shown : ShowMore s P proofs old facts
  pub rest : List Form
  pub ends : facts ≡ rest ++ Or [] ∷ []

-- Where the first proofs show facts, among which the inputs stand, all proofs show more, and falsehood at last.
abbrev pub LeadOn : Vocabulary → ℕ → List Member → List Bool → Member → List ℕ → List Proof → List Proof → Type 0
LeadOn w start members needed last of_inputs old proofs =
    (s : Setting) → s.vocabulary ≡ w → first_fact s ≡ start → (facts : List Form) → AreShown s old facts → InputsStand s facts of_inputs members needed → InputStands s facts of_inputs last
    → ShowFalsehoodLast s (IsLater members last) proofs facts
