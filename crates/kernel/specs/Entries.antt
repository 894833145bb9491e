-- When a theory takes an entry, what it is then, and when entries refute a theory.
use Rattle.std.specs.Prelude.{ℕ, zero, suc, ◌≡◌, ◌<◌, false, List, [], ◌∷◌, ◌++◌, length, reverse, slice_get, Some}
use Rattle.std.specs.List.{All}
use Rattle.fof_terms.specs.Vocabulary.{IsDeclared}
use Rattle.fof_terms.specs.Sorts.{Sorted}
use Rattle.fof_terms.specs.Occurs.{occurs_in}
use Rattle.fof_terms.specs.Instance.{instance_of}
use Rattle.fof_terms.specs.declared.signature.Symbol.{Symbol}
use Rattle.fof_terms.specs.declared.signature.Kind.TheVariants.{Function, Predicate}
use Rattle.fof_terms.specs.declared.term.Term.{Term, Var, App}
use Rattle.fof_terms.specs.declared.form.Form.{Form, Atom, Imp, Iff, All as Every, Ex}
use Rattle.kernel.specs.Statements.{Statements, IsRefuted}
use Rattle.kernel.specs.Proves.{Proves}
use Rattle.kernel.specs.declared.entry.Decl.{Decl}
use Rattle.kernel.specs.declared.entry.Decl.TheVariants.{Sort as NewSort, Symbol as NewSymbol}
use Rattle.kernel.specs.declared.entry.Entry.{Entry}
use Rattle.kernel.specs.declared.entry.Entry.TheVariants.{Declare, Lemma, Name, Choice}

-- the formula for all of these sorts, the first outermost
abbrev pub for_all : List ℕ → Form → Form
for_all [] a = a
for_all (s ∷ sorts) a = Every s (for_all sorts a)

-- the nearest so many variables, the outermost first
abbrev pub variables : ℕ → List Term
variables zero = []
variables (suc n) = Var n ∷ variables n

-- for all arguments, the predicate k holds exactly where the formula does
abbrev pub naming : ℕ → Symbol → Form → Form
naming k symbol a = for_all symbol.args (Iff (Atom k (variables (length symbol.args))) a)

-- for all arguments, if there is one for which the formula holds, then it holds for the value of the function k
abbrev pub choice : ℕ → Symbol → Form → Form
choice k symbol a = for_all symbol.args (Imp (Ex symbol.result a) (instance_of a (App k (variables (length symbol.args)))))

-- the symbol occurs in no formula
abbrev pub IsFresh : ℕ → Statements → Type 0
IsFresh k t = All (λ a. occurs_in k a ≡ false) t.formulas

-- The predicate of number k may name the formula: it is new to all formulas, and the formula speaks of its arguments.
pub record MayName (t : Statements) (k : ℕ) (symbol : Symbol) (a : Form) : Type 0 where
  pub found : slice_get t.vocabulary.symbols k ≡ Some symbol
  pub kind : symbol.kind ≡ Predicate
  pub sorted : Sorted t.vocabulary (reverse symbol.args) a
  pub fresh : IsFresh k t
  pub absent : occurs_in k a ≡ false
  pub added : Sorted t.vocabulary [] (naming k symbol a)

-- The function of number k may choose for the formula: it is new to all formulas, and the formula speaks of its
-- arguments and of a value.
pub record MayChoose (t : Statements) (k : ℕ) (symbol : Symbol) (a : Form) : Type 0 where
  pub found : slice_get t.vocabulary.symbols k ≡ Some symbol
  pub kind : symbol.kind ≡ Function
  pub sorted : Sorted t.vocabulary (symbol.result ∷ reverse symbol.args) a
  pub fresh : IsFresh k t
  pub absent : occurs_in k a ≡ false
  pub added : Sorted t.vocabulary [] (choice k symbol a)

-- the declaration may stand next
abbrev pub MayDeclare : Statements → Decl → Type 0
MayDeclare t (NewSort name) = length t.vocabulary.sorts < 65536
MayDeclare t (NewSymbol symbol) = (length t.vocabulary.symbols < 16777216) × IsDeclared (length t.vocabulary.sorts) symbol

-- the theory with the sort or symbol
abbrev pub declared : Statements → Decl → Statements
declared t (NewSort name) = record t { vocabulary = record t.vocabulary { sorts = t.vocabulary.sorts ++ name ∷ [] } }
declared t (NewSymbol symbol) = record t { vocabulary = record t.vocabulary { symbols = t.vocabulary.symbols ++ symbol ∷ [] } }

-- the theory with one formula more
abbrev pub with_formula : Statements → Form → Statements
with_formula t a = record t { formulas = t.formulas ++ a ∷ [] }

-- the entry may stand next
abbrev pub Legal : Statements → Entry → Type 0
Legal t (Declare decl) = MayDeclare t decl
Legal t (Lemma p) = (a : Form) × Proves t [] [] p a
Legal t (Name k a) = (symbol : Symbol) × MayName t k symbol a
Legal t (Choice k a) = (symbol : Symbol) × MayChoose t k symbol a

-- the theory with what the entry adds
abbrev pub After : Statements → Entry → Statements → Type 0
After t (Declare decl) u = u ≡ declared t decl
After t (Lemma p) u = (a : Form) × Proves t [] [] p a × (u ≡ with_formula t a)
After t (Name k a) u = (symbol : Symbol) × (slice_get t.vocabulary.symbols k ≡ Some symbol) × (u ≡ with_formula t (naming k symbol a))
After t (Choice k a) u = (symbol : Symbol) × (slice_get t.vocabulary.symbols k ≡ Some symbol) × (u ≡ with_formula t (choice k symbol a))

-- each entry is legal after those before it, and together they make the second theory of the first
abbrev pub Admits : Statements → List Entry → Statements → Type 0
Admits t [] u = u ≡ t
Admits t (entry ∷ rest) u = Legal t entry × ((next : Statements) × After t entry next × Admits next rest u)

-- each entry is legal after those before it, and the last formula is then falsehood
abbrev pub Refutes : Statements → List Entry → Type 0
Refutes t entries = (u : Statements) × Admits t entries u × IsRefuted u
