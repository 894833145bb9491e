-- The new functions that take the places of existential variables (Skolem functions): each is applied to all universal
-- variables around its quantifier, the outermost first.
use Rattle.std.specs.Prelude.{ℕ, zero, suc, ◌≡◌, ◌+◌, List, [], ◌∷◌, ◌++◌, codes, decimal, length, map, Some, slice_get}
use Rattle.fof_terms.specs.declared.form.Form.{Form}
use Rattle.fof_terms.specs.declared.signature.Symbol.{Symbol}
use Rattle.fof_terms.specs.declared.signature.Kind.TheVariants.{Function}
use Rattle.fof_terms.specs.Vocabulary.{Vocabulary}
use Rattle.skolem_fresh.specs.declared.just.Use.{Use}
use Rattle.step_clauses.specs.declared.existentials.Existential.{Existential}
use Rattle.step_clauses.specs.declared.skolems.Skolem.{Skolem}
use Rattle.step_clauses.specs.Existentials.{existentials}

-- the function of that number: its name is `sk` and the number
abbrev pub skolem_symbol : ℕ → Existential → Symbol
skolem_symbol k e = record { name = codes "sk" ++ decimal k; kind = Function; args = e.around; result = e.sort }

-- one for each existential quantifier, numbered from k on
abbrev pub skolems_from : ℕ → List Existential → List Skolem
skolems_from k [] = []
skolems_from k (e ∷ es) = record { symbol = skolem_symbol k e; id = k } ∷ skolems_from (k + 1) es

-- those of a normal form
abbrev pub skolems_of : Form → ℕ → List Skolem
skolems_of norm next = skolems_from next (existentials norm)

-- the n nearest variables, the outermost first
abbrev pub nearest : ℕ → List ℕ
nearest zero = []
nearest (suc n) = n ∷ nearest n

-- the function at all universal variables around the place where the existential one stood
abbrev pub use_of : Skolem → Use
use_of k = record { function = k.id; variables = nearest (length k.symbol.args); sort = k.symbol.result }

abbrev pub uses_of : Form → ℕ → List Use
uses_of norm next = map use_of (skolems_of norm next)

-- The vocabulary has the functions of these existential quantifiers, numbered from k on.
abbrev pub KnowsFrom : Vocabulary → ℕ → List Existential → Type 0
KnowsFrom v k [] = Unit {0}
KnowsFrom v k (e ∷ es) = (slice_get v.symbols k ≡ Some (skolem_symbol k e)) × KnowsFrom v (k + 1) es
