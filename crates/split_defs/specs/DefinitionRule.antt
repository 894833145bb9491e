-- The rule `definition`: a line that says, for all arguments, what a new symbol means in terms of the others.
use Rattle.std.specs.Prelude.{ℕ, ◌≡◌, ◌⊎◌, Bool, true, false, List, map, Some, slice_get, nat_eq}
use Rattle.std.specs.List.{list_any, IsDistinct}
use Rattle.fof_terms.specs.Occurs.{occurs_in, occurs_in_term}
use Rattle.fof_terms.specs.Variables.{has_variable, has_in_term}
use Rattle.fof_terms.specs.declared.signature.Kind.{Kind}
use Rattle.fof_terms.specs.declared.signature.Kind.TheVariants.{Function, Predicate}
use Rattle.fof_terms.specs.declared.signature.Symbol.{Symbol}
use Rattle.fof_terms.specs.declared.term.Term.{Term, Var, App}
use Rattle.fof_terms.specs.declared.form.Form.{Form, Atom, Eq, Imp, Iff}
use Rattle.kernel.specs.Statements.{Statements}
use Rattle.kernel.specs.Entries.{IsFresh, for_all}

-- the variable is one of these
abbrev pub IsAmong : ℕ → List ℕ → Type 0
IsAmong n xs = list_any (nat_eq n) xs ≡ true

-- k is a symbol of this kind that occurs in no formula of the theory
pub record IsNew (t : Statements) (kind : Kind) (k : ℕ) : Type 0 where
  pub symbol : Symbol
  pub found : slice_get t.vocabulary.symbols k ≡ Some symbol
  pub is_kind : symbol.kind ≡ kind
  pub fresh : IsFresh k t

-- the formula says what k(x) means: k does not occur in it, and all its free variables are among the distinct variables
-- x
pub record IsMeaning (k : ℕ) (xs : List ℕ) (a : Form) : Type 0 where
  pub distinct : IsDistinct nat_eq xs
  pub absent : occurs_in k a ≡ false
  pub among : (n : ℕ) → has_variable n a ≡ true → IsAmong n xs

-- the term is the value of k(x), in the same way
pub record IsValue (k : ℕ) (xs : List ℕ) (u : Term) : Type 0 where
  pub distinct : IsDistinct nat_eq xs
  pub absent : occurs_in_term k u ≡ false
  pub among : (n : ℕ) → has_in_term n u ≡ true → IsAmong n xs

-- an equivalence or an implication between the head and its meaning; the head stands first, or second
abbrev pub Relates : Bool → Form → Form → Form → Type 0
Relates true head a body = (body ≡ Iff head a) ⊎ (body ≡ Imp head a)
Relates false head a body = (body ≡ Iff a head) ⊎ (body ≡ Imp a head)

-- the equation between the head and its value; the head stands first, or second
abbrev pub Equates : Bool → Term → Term → Form → Type 0
Equates true head u body = body ≡ Eq head u
Equates false head u body = body ≡ Eq u head

-- the body defines the new predicate k, or the new function k, at variables
abbrev pub DefinesPredicate : Statements → ℕ → Bool → Form → Type 0
DefinesPredicate t k first body = IsNew t Predicate k × ((xs : List ℕ) × (a : Form) × IsMeaning k xs a × Relates first (Atom k (map Var xs)) a body)

abbrev pub DefinesFunction : Statements → ℕ → Bool → Form → Type 0
DefinesFunction t k first body = IsNew t Function k × ((xs : List ℕ) × (u : Term) × IsValue k xs u × Equates first (App k (map Var xs)) u body)

-- under universal quantifiers the line defines the symbol k, which stands first, or second
abbrev pub Defines : Statements → Form → ℕ → Bool → Type 0
Defines t line k first = (sorts : List ℕ) × (body : Form) × (line ≡ for_all sorts body) × (DefinesPredicate t k first body ⊎ DefinesFunction t k first body)

-- the line defines some symbol
abbrev pub IsDefinitionStep : Statements → Form → Type 0
IsDefinitionStep t line = (k : ℕ) × (first : Bool) × Defines t line k first
