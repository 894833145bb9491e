-- A normal form that may be taken apart has room for the variables of its clauses.
use Rattle.std.specs.Prelude.{ℕ, ◌≡◌, ◌+◌, ◌-◌, List, [], ◌∷◌, ◌++◌, length, map, Some, slice_get, replicate, refl}
use Rattle.std.proofs.Common.{ap, sym, ◌∙◌, arith, zero, suc}
use Rattle.std.proofs.lemmas.List.{length-append, length-replicate}
use Rattle.fof_terms.specs.declared.signature.Symbol.{Symbol}
use Rattle.fof_terms.specs.Vocabulary.{Vocabulary}
use Rattle.fof_terms.specs.SortLaws.{Grows}
use Rattle.fof_terms.proofs.SortLawsFacts.{grown_fits}
use Rattle.fof_terms.specs.Sorts.{sort_of_term}
use Rattle.fof_terms.specs.declared.term.Term.{Var}
use Rattle.fof_terms.proofs.SortsFacts.{sort_of_term-Var}
use Rattle.fof_terms.specs.declared.form.Form.{Form}
use Rattle.clause_form.specs.Clauses.{skolemized}
use Rattle.clause_form.specs.Found.{IsRoomy}
use Rattle.step_clauses.specs.declared.existentials.Existential.{Existential}
use Rattle.step_clauses.specs.declared.skolems.Skolem.{Skolem}
use Rattle.step_clauses.specs.Existentials.{existentials}
use Rattle.step_clauses.specs.Skolems.{skolem_symbol, skolems_from, skolems_of, KnowsFrom}
use Rattle.step_clauses.specs.code.InTurn.{IsClausable}
use Rattle.step_clauses.proofs.SkolemSorts.{made_fits, made_small}
use Rattle.step_clauses.proofs.WaysFacts.{at_seam, one_further}

abbrev symbols_of : List Skolem → List Symbol
symbols_of skolems = map (λ (k : Skolem). k.symbol) skolems

-- a vocabulary that has them behind k symbols knows the functions
known_from : (w : Vocabulary) (front : List Symbol) (k : ℕ) (es : List Existential) → w.symbols ≡ front ++ symbols_of (skolems_from k es) → length front ≡ k → KnowsFrom w k es
known_from w front k [] e l = tt
known_from w front k (x ∷ es) e l =
    let rest = symbols_of (skolems_from (k + 1) es) in
    let count : length (front ++ skolem_symbol k x ∷ []) ≡ k + 1 = rw length-append (omega arith) in (
      ap (λ (symbols : List Symbol). slice_get symbols k) e ∙ at_seam front k (skolem_symbol k x) rest l,
      known_from w (front ++ skolem_symbol k x ∷ []) (k + 1) es (e ∙ sym (one_further front (skolem_symbol k x) rest)) count,
    )

in_front : {X : Type 0} (xs ys : List X) (k : ℕ) (x : X) → slice_get xs k ≡ Some x → slice_get (xs ++ ys) k ≡ Some x
in_front [] ys k x e = cc
in_front (z ∷ xs) ys zero x e = e
in_front (z ∷ xs) ys (suc k) x e = in_front xs ys k x e

no_symbol : Symbol
no_symbol = skolem_symbol 0 (record { around = []; sort = 0 })

module _ (next : ℕ) (norm : Form) (c : IsClausable next norm) where
  front : List Symbol
  front = c.vocabulary.symbols ++ replicate (next - length c.vocabulary.symbols) no_symbol

  grown : Vocabulary
  grown = record c.vocabulary { symbols = front ++ symbols_of (skolems_of norm next) }

  count : length front ≡ next
  unfolding front
  count = let new = c.new in rw (length-append, length-replicate) (omega arith)

  grows : Grows c.vocabulary grown
  unfolding grown front
  grows = record {
    more_sorts = omega arith;
    same_symbols = λ k s e.
        in_front (c.vocabulary.symbols ++ replicate (next - length c.vocabulary.symbols) no_symbol) (symbols_of (skolems_of norm next)) k s (in_front c.vocabulary.symbols (replicate (next - length c.vocabulary.symbols) no_symbol) k s e);
  }

  known : KnowsFrom grown next (existentials norm)
  unfolding grown
  known = known_from grown front next (existentials norm) refl count

  no_images : (k r : ℕ) → slice_get [] k ≡ Some r → sort_of_term grown [] (Var k) ≡ Some r
  no_images k r e = sort_of_term-Var grown [] k ∙ e

  pub roomy : IsRoomy (skolemized norm next)
  roomy = record {
    vocabulary = grown;
    scope = [];
    room = omega (arith, made_small norm next 0 Var, c.small);
    fits = made_fits grown norm next 0 [] [] [] Var refl refl (record { sorted = no_images }) known (grown_fits c.vocabulary grown grows norm [] c.sorted);
  }
