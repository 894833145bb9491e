-- A clause whose literals have no variables, their opposites, and what is shown by them.
use Rattle.std.specs.Prelude.{ℕ, ◌≡◌, ◌⊎◌, ◌<◌, true, Bool, List, [], ◌∷◌, length, map, Option, Some, None, slice_get}
use Rattle.std.specs.List.{AllZip}
use Rattle.fof_terms.specs.Sorts.{Sorted}
use Rattle.fof_terms.specs.Vocabulary.{Vocabulary}
use Rattle.fof_terms.specs.declared.form.Form.{Or}
use Rattle.clause_form.specs.ClauseView.{form_of_lit}
use Rattle.clause_form.specs.Covers.{negated}
use Rattle.clause_form.specs.Paths.{is_plain}
use Rattle.clause_form.specs.declared.clause.Lit.{Lit}
use Rattle.kernel.specs.Proves.{Proves}
use Rattle.kernel.specs.Statements.{Statements}
use Rattle.kernel.specs.declared.proof.Proof.{Proof}
use Rattle.saturation.specs.declared.member.Member.{Member}
use Rattle.superpose.specs.Drafts.{IsClause}
use Rattle.search_proofs.specs.Needed.{AreNeeded, IsMarked}
use Rattle.search_proofs.specs.code.Bodies.{StandsAs}
use Rattle.search_proofs.specs.code.Marks.{NameMarked}
use Rattle.search_proofs.specs.declared.contradicting.Contradiction.{Contradiction}

-- it is the literal, which is neither truth nor falsehood
pub record IsPlainly (k l : Lit) : Type 0 where
  pub same : l ≡ k
  pub plain : is_plain k.atom ≡ true

-- there is this literal alone, which is neither truth nor falsehood
pub record IsAlone (k : Lit) (lits : List Lit) : Type 0 where
  pub same : lits ≡ k ∷ []
  pub plain : is_plain k.atom ≡ true

-- the literals have no variables
abbrev pub IsClosed : Vocabulary → List Lit → Type 0
IsClosed v lits = Sorted v [] (Or (map form_of_lit lits))

-- the member of this number is the literal's opposite alone
pub record IsOpposite (members : List Member) (l : Lit) (i : ℕ) : Type 0 where
  pub member : Member
  pub there : slice_get members i ≡ Some member
  pub unit : IsAlone (negated l) member.clause.lits

-- the clause has more than one literal, and each has its opposite
pub record Contradicts (members : List Member) (c : Contradiction) : Type 0 where
  pub member : Member
  pub there : slice_get members c.clause ≡ Some member
  pub long : 1 < length member.clause.lits
  pub opposed : AllZip (IsOpposite members) member.clause.lits c.opposites

-- and its literals have no variables
pub record ContradictsIn (v : Vocabulary) (members : List Member) (c : Contradiction) : Type 0 where
  pub found : Contradicts members c
  pub closed : IsClosed v found.member.clause.lits

-- a number of the list
abbrev pub IsListed : List ℕ → ℕ → Type 0
IsListed xs i = (k : ℕ) × (slice_get xs k ≡ Some i)

-- the contradiction names the member of this number
abbrev pub NamedBy : Contradiction → ℕ → Type 0
NamedBy c i = (i ≡ c.clause) ⊎ IsListed c.opposites i

-- the members that the contradiction names are marked, and those that the origins of marked ones name
pub record AreNeededFor (members : List Member) (c : Contradiction) (marks : List Bool) : Type 0 where
  pub count : length marks ≡ length members
  pub named : (i : ℕ) → NamedBy c i → IsMarked marks i
  pub of_each : NameMarked members marks

-- which members are needed for falsehood: by a contradiction, or else by the last member
abbrev pub Suffice : Vocabulary → List Member → Member → Option Contradiction → List Bool → Type 0
Suffice v members last None marks = AreNeeded members last marks
Suffice v members last (Some c) marks = ContradictsIn v members c × AreNeededFor members c marks

-- the member of this number is a clause over the theory's symbols, and stands in the theory at its own number
abbrev pub Stands : Statements → List Member → List ℕ → ℕ → Type 0
Stands t members numbers i =
    (m : Member) (n : ℕ) → slice_get members i ≡ Some m → slice_get numbers i ≡ Some n
    → IsClause t.vocabulary m.clause × StandsAs t n m.clause

-- so do those that the contradiction names
abbrev pub StandIn : Statements → List Member → List ℕ → Contradiction → Type 0
StandIn t members numbers c = (i : ℕ) → NamedBy c i → Stands t members numbers i

-- the proof shows falsehood wherever they do, and the literals have no variables
abbrev pub IsByContradiction : List Member → List ℕ → Contradiction → Proof → Type 0
IsByContradiction members numbers c p =
    (t : Statements) → ContradictsIn t.vocabulary members c → StandIn t members numbers c → Proves t [] [] p (Or [])
