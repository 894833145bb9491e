-- The keys of a term: what stands at six sample places of it (fingerprints, as in Schulz, Fingerprint Indexing for
-- Paramodulation and Rewriting, IJCAR 2012).
use Rattle.std.specs.Prelude.{ℕ, List, [], ◌∷◌, slice_get, Option, Some, None, Bool, false, not, ◌==◌, ◌||◌}
use Rattle.fof_terms.specs.declared.term.Term.{Term}
use Rattle.fof_terms.specs.declared.term.Term.TheViews.{out-Term}
use Rattle.fof_terms.specs.declared.term.Term.TheOpen as term
use Rattle.clause_index.specs.declared.keys.Key.{Key}
use Rattle.clause_index.specs.declared.keys.Key.TheVariants.{Head, Open}
use Rattle.clause_index.specs.declared.keys.Keys.{Keys}

abbrev pub key_of_layer : term.Term-F Term → Key
key_of_layer (term.Var k) = Open
key_of_layer (term.App f ts) = Head f

abbrev pub argument_of_layer : term.Term-F Term → ℕ → Option Term
argument_of_layer (term.Var k) n = None
argument_of_layer (term.App f ts) n = slice_get ts n

-- the term at a place: the argument numbers from the term down
abbrev pub subterm_at : List ℕ → Option Term → Option Term
subterm_at [] t = t
subterm_at (n ∷ place) None = None
subterm_at (n ∷ place) (Some t) = subterm_at place (argument_of_layer (out-Term t) n)

-- a symbol's application is told by its symbol; a variable, and what isn't there, may become any term
abbrev pub key_of : Option Term → Key
key_of None = Open
key_of (Some t) = key_of_layer (out-Term t)

abbrev pub key_at : List ℕ → Term → Key
key_at place t = key_of (subterm_at place (Some t))

-- the keys at the six places
abbrev pub keys_of : Term → Keys
keys_of t = record {
  whole = key_at [] t;
  first = key_at (0 ∷ []) t;
  second = key_at (1 ∷ []) t;
  first_of_first = key_at (0 ∷ 0 ∷ []) t;
  second_of_first = key_at (0 ∷ 1 ∷ []) t;
  first_of_second = key_at (1 ∷ 0 ∷ []) t;
}

-- both are heads, of different symbols
abbrev pub clash : Key → Key → Bool
clash (Head f) (Head g) = not (f == g)
clash (Head f) Open = false
clash Open k = false

-- the keys clash at one of the places
abbrev pub do_clash : Keys → Keys → Bool
do_clash a b =
    clash a.whole b.whole
    || (clash a.first b.first
    || (clash a.second b.second
    || (clash a.first_of_first b.first_of_first
    || (clash a.second_of_first b.second_of_first
    || clash a.first_of_second b.first_of_second))))
