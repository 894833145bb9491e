-- When directories tell what a vocabulary has: the first symbol of each name, kind and number of arguments, and the
-- first sort of each name.
use Rattle.std.specs.Prelude.{ℕ, ◌≡◌, ◌+◌, List, drop, nat_eq, position}
use Rattle.std.specs.Option.{option_map}
use Rattle.std.specs.Cmp.Lexicographic.{pointwise}
use Rattle.fof_terms.specs.declared.directory.Directory.{Directory}
use Rattle.fof_terms.specs.declared.signature.Symbol.{Symbol}
use Rattle.fof_terms.specs.declared.signature.Kind.{Kind}
use Rattle.fof_terms.specs.declared.signature.Kind.TheVariants.{Function, Predicate}
use Rattle.fof_terms.specs.Directory.{entered}
use Rattle.fof_terms.specs.Vocabulary.{Vocabulary, is_symbol}

-- the directory tells the first symbol of this kind
pub record FindsSymbols (kind : Kind) (symbols : List Symbol) (d : Directory) : Type 0 where
  pub found : (name : List ℕ) (arity : ℕ) → entered d name arity ≡ position (is_symbol name kind arity) symbols

-- the directory tells the first sort, the first of all left aside
pub record FindsSorts (sorts : List (List ℕ)) (d : Directory) : Type 0 where
  pub found : (name : List ℕ) → entered d name 0 ≡ option_map (λ i. i + 1) (position (λ sort. pointwise nat_eq sort name) (drop 1 sorts))

-- the three directories tell what the vocabulary has
pub record IsIndexed (v : Vocabulary) (sort_numbers functions predicates : Directory) : Type 0 where
  pub finds_sorts : FindsSorts v.sorts sort_numbers
  pub finds_functions : FindsSymbols Function v.symbols functions
  pub finds_predicates : FindsSymbols Predicate v.symbols predicates
