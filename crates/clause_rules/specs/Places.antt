-- Places in terms and literals: the argument numbers from the literal down. The sides of an equation are its arguments
-- 0 and 1.
use Rattle.std.specs.Prelude.{ℕ, List, [], ◌∷◌, slice_get, slice_set, Option, Some, None}
use Rattle.fof_terms.specs.declared.term.Term.{Term, Var, App}
use Rattle.fof_terms.specs.declared.term.Term.TheViews.{out-Term}
use Rattle.clause_form.specs.declared.clause.AtomOf.{AtomOf}
use Rattle.clause_form.specs.declared.clause.AtomOf.TheVariants.{Pred, Eq, True, False}
use Rattle.clause_form.specs.declared.clause.Lit.{Lit}
use Rattle.fof_terms.specs.declared.term.Term.TheOpen as term

-- The term at a place in one of the terms: the first number says in which.
-- `StandsAt place ts u`: the terms ts have u at the place.
abbrev pub args_of_layer : term.Term-F Term → List Term
args_of_layer (term.Var k) = []
args_of_layer (term.App f ts) = ts

-- the arguments of a term; a variable has none
abbrev pub args_of : Term → List Term
args_of t = args_of_layer (out-Term t)

abbrev pub with_args_layer : term.Term-F Term → List Term → Term
with_args_layer (term.Var k) ts = Var k
with_args_layer (term.App f us) ts = App f ts

-- the term with other arguments
abbrev pub with_args : Term → List Term → Term
with_args t ts = with_args_layer (out-Term t) ts

-- going down from a term that is there or not
abbrev pub down_into : (List Term → Option Term) → Option Term → Option Term
down_into way None = None
down_into way (Some t) = way (args_of t)

-- the term at the place below a list of terms; no term stands at the place without numbers
abbrev pub term_at : List ℕ → List Term → Option Term
term_at [] ts = None
term_at (n ∷ []) ts = slice_get ts n
term_at (n ∷ m ∷ place) ts = down_into (term_at (m ∷ place)) (slice_get ts n)

abbrev pub down_with : (List Term → List Term) → Option Term → ℕ → List Term → List Term
down_with way None n ts = ts
down_with way (Some t) n ts = slice_set ts n (with_args t (way (args_of t)))

-- the terms with another term at the place
abbrev pub put_at : List ℕ → Term → List Term → List Term
put_at [] u ts = ts
put_at (n ∷ []) u ts = slice_set ts n u
put_at (n ∷ m ∷ place) u ts = down_with (put_at (m ∷ place) u) (slice_get ts n) n ts

-- the arguments of an atom
abbrev pub args_of_atom : AtomOf → List Term
args_of_atom (Pred p ts) = ts
args_of_atom (Eq l r) = l ∷ r ∷ []
args_of_atom True = []
args_of_atom False = []

abbrev pub sides_of : List Term → AtomOf
sides_of [] = True
sides_of (l ∷ []) = True
sides_of (l ∷ r ∷ ts) = Eq l r

abbrev pub atom_with_args : AtomOf → List Term → AtomOf
atom_with_args (Pred p us) ts = Pred p ts
atom_with_args (Eq l r) ts = sides_of ts
atom_with_args True ts = True
atom_with_args False ts = False

-- the term at a place of a literal, if there is one
abbrev pub lit_term_at : List ℕ → Lit → Option Term
lit_term_at place k = term_at place (args_of_atom k.atom)

-- the literal with another term at the place
abbrev pub lit_put_at : List ℕ → Term → Lit → Lit
lit_put_at place u k = record { positive = k.positive; atom = atom_with_args k.atom (put_at place u (args_of_atom k.atom)) }
