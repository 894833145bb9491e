-- What private contracts say, beside the definitions of specs/PlaceSearch.
use Rattle.std.specs.Prelude.{ℕ, List, [], ◌∷◌, slice_get, slice_set, Option, Some, None}
use Rattle.fof_terms.specs.declared.term.Term.{Term}
use Rattle.clause_rules.specs.Places.{args_of, with_args}

abbrev pub go_on : (Term → Option Term) → Option Term → Option Term
go_on way None = None
go_on way (Some t) = way t

-- the term so many steps below a term
abbrev pub below : List ℕ → Term → Option Term
below [] t = Some t
below (n ∷ steps) t = go_on (below steps) (slice_get (args_of t) n)

abbrev pub set_on : (Term → Term) → Option Term → ℕ → List Term → List Term
set_on way None n ts = ts
set_on way (Some t) n ts = slice_set ts n (way t)

-- the term with another one so many steps below
abbrev pub put_below : List ℕ → Term → Term → Term
put_below [] u t = u
put_below (n ∷ steps) u t = with_args t (set_on (put_below steps u) (slice_get (args_of t) n) n (args_of t))
