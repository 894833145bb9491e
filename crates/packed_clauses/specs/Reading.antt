-- What is read from bytes.
use Rattle.std.specs.Prelude.{ℕ, zero, suc, ◌+◌, ◌*◌, ◌-◌, true, false, List, [], ◌∷◌, ◌++◌, Option, Some, None}
use Rattle.std.specs.List.{fold}
use Rattle.fof_terms.specs.declared.term.Term.{Term, Var, App}
use Rattle.clause_form.specs.declared.clause.AtomOf.{AtomOf}
use Rattle.clause_form.specs.declared.clause.AtomOf.TheVariants.{Pred, Eq, True, False}
use Rattle.clause_form.specs.declared.clause.Lit.{Lit}
use Rattle.clause_form.specs.declared.clause.Clause.{Clause}
use Rattle.packed_clauses.specs.declared.building.Begun.{Begun}
use Rattle.packed_clauses.specs.declared.building.Builder.{Builder}
use Rattle.packed_clauses.specs.declared.piece.Kind.{Kind}
use Rattle.packed_clauses.specs.declared.piece.Kind.TheVariants.{Sort, Variable, Open, Close, Predicate, Equation, Truth, Falsehood}
use Rattle.packed_clauses.specs.declared.reading.Reader.{Reader}

abbrev pub kind_among : List Kind → ℕ → Option Kind
kind_among [] n = None
kind_among (k ∷ ks) zero = Some k
kind_among (k ∷ ks) (suc n) = kind_among ks n

-- the kind with this code
abbrev pub kind_at : ℕ → Option Kind
kind_at n = kind_among (Sort ∷ Variable ∷ Open ∷ Close ∷ Predicate true ∷ Predicate false ∷ Equation true
    ∷ Equation false ∷ Truth true ∷ Truth false ∷ Falsehood true ∷ Falsehood false ∷ []) n

abbrev pub nothing : Builder
nothing = record { sorts = []; lits = []; begun = []; terms = [] }

abbrev pub with_term : Builder → Term → Builder
with_term b t = record { sorts = b.sorts; lits = b.lits; begun = b.begun; terms = b.terms ++ t ∷ [] }

abbrev pub with_lit : Builder → Lit → List Term → Builder
with_lit b l rest = record { sorts = b.sorts; lits = b.lits ++ l ∷ []; begun = b.begun; terms = rest }

-- the last term that has begun has ended
abbrev pub ended : List Begun → List Term → List Begun × List Term
ended [] ts = ([], ts)
ended (o ∷ []) ts = ([], o.before ++ App o.symbol ts ∷ [])
ended (o ∷ p ∷ begun) ts = let rest = ended (p ∷ begun) ts in (o ∷ rest.0, rest.1)

-- the equation of two terms
abbrev pub equation_of : List Term → AtomOf
equation_of (l ∷ r ∷ []) = Eq l r
equation_of _ = True

-- what is built with a piece more
abbrev pub built : Builder → Kind → ℕ → Builder
built b Sort n = record { sorts = b.sorts ++ n ∷ []; lits = b.lits; begun = b.begun; terms = b.terms }
built b Variable n = with_term b (Var n)
built b Open n = record { sorts = b.sorts; lits = b.lits; begun = b.begun ++ record { symbol = n; before = b.terms } ∷ []; terms = [] }
built b Close n = let rest = ended b.begun b.terms in record { sorts = b.sorts; lits = b.lits; begun = rest.0; terms = rest.1 }
built b (Predicate positive) n = with_lit b (record { positive = positive; atom = Pred n b.terms }) []
built b (Equation positive) n = with_lit b (record { positive = positive; atom = equation_of b.terms }) []
built b (Truth positive) n = with_lit b (record { positive = positive; atom = True }) b.terms
built b (Falsehood positive) n = with_lit b (record { positive = positive; atom = False }) b.terms

-- between two pieces
abbrev pub between : Builder → Reader
between b = record { kind = None; number = 0; builder = b }

-- a digit of a piece's number, which is the last where it isn't past 127
abbrev pub digit_read : Builder → Kind → ℕ → ℕ → ℕ → Reader
digit_read b k n digit zero = between (built b k (n * 128 + digit))
digit_read b k n digit (suc more) = record { kind = Some k; number = n * 128 + more; builder = b }

-- a byte more
abbrev pub byte_read : Builder → Option Kind → ℕ → ℕ → Reader
byte_read b None n byte = record { kind = kind_at byte; number = 0; builder = b }
byte_read b (Some k) n byte = digit_read b k n byte (byte - 127)

abbrev pub taken : Reader → ℕ → Reader
taken r byte = byte_read r.builder r.kind r.number byte

-- what all bytes build
unfoldable pub read_from : List ℕ → Reader
read_from = fold taken (between nothing)

abbrev pub clause_read : List ℕ → Clause
clause_read bytes = let b = (read_from bytes).builder in record { sorts = b.sorts; lits = b.lits }

abbrev pub terms_read : List ℕ → List Term
terms_read bytes = (read_from bytes).builder.terms
