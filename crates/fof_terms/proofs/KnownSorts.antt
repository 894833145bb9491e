-- The sort of a term is there, where those of the variables are.
use Rattle.std.specs.Prelude.{ℕ, ◌≡◌, ◌<◌, Bool, true, false, List, [], ◌∷◌, length, map, slice_get, Option, Some, None}
use Rattle.std.specs.List.{All, AllByRecursion}
use Rattle.std.proofs.Common.{zero, suc, refl, subst}
use Rattle.std.proofs.lemmas.List.Elements.{recursion_from_All}
use Rattle.fof_terms.specs.declared.signature.Kind.{Kind}
use Rattle.fof_terms.specs.declared.signature.Kind.TheVariants.{Function, Predicate}
use Rattle.fof_terms.specs.declared.signature.Symbol.{Symbol}
use Rattle.fof_terms.specs.declared.term.Term.{Term, Var, App}
use Rattle.fof_terms.specs.Sorts.{are_sorts, made_by, applied, sort_of_term, IsScope}
use Rattle.fof_terms.specs.Vocabulary.{Vocabulary, IsDeclared, IsVocabulary}
use Rattle.fof_terms.proofs.Induction.{term_induction}
use Rattle.fof_terms.proofs.SortsFacts.{sort_of_term-Var, sort_of_term-App}

pub at_place : {X : Type 0} (P : X → Type 0) (xs : List X) (i : ℕ) (x : X) → AllByRecursion P xs → slice_get xs i ≡ Some x → P x
at_place P [] i x all e = absurd (cc)
at_place P (y ∷ ys) zero x all e = (let same : y ≡ x = cc in subst P same all.0)
at_place P (y ∷ ys) (suc i) x all e = at_place P ys i x all.1 e

-- the result of a symbol is there
pub result_there : (v : Vocabulary) → IsVocabulary v → (f : ℕ) (s : Symbol) → slice_get v.symbols f ≡ Some s → s.result < length v.sorts
result_there v is f s e = (at_place (IsDeclared (length v.sorts)) v.symbols f s (recursion_from_All (IsDeclared (length v.sorts)) v.symbols is.declared) e).result

made_there : (n : ℕ) (kind : Kind) (fits : Bool) (result s : ℕ) → result < n → made_by kind fits result ≡ Some s → s < n
made_there n Function true result s h e = (let same : result ≡ s = cc in subst (λ (k : ℕ). k < n) same h)
made_there n Function false result s h e = absurd (cc)
made_there n Predicate fits result s h e = absurd (cc)

applied_there : (v : Vocabulary) (f : ℕ) (found : List (Option ℕ)) (s : ℕ) (o : Option Symbol) → ((symbol : Symbol) → o ≡ Some symbol → symbol.result < length v.sorts) → applied o found ≡ Some s → s < length v.sorts
applied_there v f found s None there e = absurd (cc)
applied_there v f found s (Some symbol) there e = made_there (length v.sorts) symbol.kind (are_sorts found symbol.args) symbol.result s (there symbol refl) e

pub sort_there : (v : Vocabulary) (scope : List ℕ) → IsVocabulary v → IsScope v scope → (t : Term) (s : ℕ) → sort_of_term v scope t ≡ Some s → s < length v.sorts
sort_there v scope is scoped = term_induction (λ t. (s : ℕ) → sort_of_term v scope t ≡ Some s → s < length v.sorts) (record {
  var = λ k s e. at_place (λ n. n < length v.sorts) scope k s scoped.sorts_exist (rw sort_of_term-Var at e);
  app = λ f ts all s e. applied_there v f (map (sort_of_term v scope) ts) s (slice_get v.symbols f) (result_there v is f) (rw sort_of_term-App at e);
})
