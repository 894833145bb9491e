-- What private contracts say, beside the definitions of specs/DefinitionSearch.
use Rattle.std.specs.Prelude.{ℕ, ◌≡◌, Bool, true, false, List, map, Option, Some, None}
use Rattle.fof_terms.specs.declared.signature.Kind.TheVariants.{Function, Predicate}
use Rattle.fof_terms.specs.declared.term.Term.{Term, Var, App}
use Rattle.fof_terms.specs.declared.form.Form.{Form, Atom, Iff, All}
use Rattle.kernel.specs.Statements.{Statements}
use Rattle.kernel.specs.Proves.{Proves}
use Rattle.kernel.specs.Entries.{for_all}
use Rattle.kernel.specs.declared.proof.Proof.{Proof, Line}
use Rattle.derive_kit.specs.Instances.{IsInstance}
use Rattle.split_defs.specs.DefinitionRule.{IsNew, IsMeaning, IsValue, Relates}

-- the first formula is a new predicate k at variables, and the second one says what it means
abbrev pub Heads : Statements → Form → Form → ℕ → Type 0
Heads t head a k = IsNew t Predicate k × ((xs : List ℕ) × (head ≡ Atom k (map Var xs)) × IsMeaning k xs a)

-- the first term is a new function k at variables, and the second one is its value
abbrev pub Values : Statements → Term → Term → ℕ → Type 0
Values t head u k = IsNew t Function k × ((xs : List ℕ) × (head ≡ App k (map Var xs)) × IsValue k xs u)

-- a symbol with the property, or none where none has it
abbrev pub IsFoundSymbol : (ℕ → Type 0) → Option ℕ → Type 0
IsFoundSymbol P None = (k : ℕ) → P k → ⊥
IsFoundSymbol P (Some k) = P k

-- the head is the left side, or the right one
abbrev pub HeadsAt : Statements → Form → Form → ℕ → Bool → Type 0
HeadsAt t left right k true = Heads t left right k
HeadsAt t left right k false = Heads t right left k

abbrev pub ValuesAt : Statements → Term → Term → ℕ → Bool → Type 0
ValuesAt t left right k true = Values t left right k
ValuesAt t left right k false = Values t right left k

-- under all universal quantifiers around it stands this
pub record IsBody (form body : Form) : Type 0 where
  pub sorts : List ℕ
  pub is : form ≡ for_all sorts body
  pub inmost : (s : ℕ) (a : Form) → body ≡ All s a → ⊥

-- the proof shows each instance at the arguments of the formula of that number
abbrev pub FactOf : ℕ → List Term → Proof → Type 0
FactOf number args fact = (t : Statements) (v : List ℕ) (h : List Form) (a b : Form) → IsInstance t.vocabulary v a args b → Proves t v h (Line number) a → Proves t v h fact b

-- the proof shows the body wherever the fact shows that its head and its meaning are equivalent
abbrev pub RelatesBy : Bool → Form → Proof → Proof → Type 0
RelatesBy first body fact made = (t : Statements) (v : List ℕ) (h : List Form) (head a : Form) → Relates first head a body → Proves t v h fact (Iff head a) → Proves t v h made body
