-- What atoms are found by: lists of numbers that tell them apart.
use Rattle.std.specs.Prelude.{◌++◌, ◌∷◌, [], ℕ, List, length, flat_map}
use Rattle.fof_terms.specs.declared.term.Term.{Term}
use Rattle.fof_terms.specs.declared.term.Term.TheFolds.{fold-Term}
use Rattle.fof_terms.specs.declared.term.Term.TheOpen as term
use Rattle.clause_form.specs.declared.clause.AtomOf.{AtomOf}
use Rattle.clause_form.specs.declared.clause.AtomOf.TheVariants.{Pred, Eq, True, False}

abbrev pub joined : List (List ℕ) → List ℕ
joined [] = []
joined (c ∷ cs) = c ++ joined cs

abbrev pub term_code_step : term.Term-F (List ℕ) → List ℕ
term_code_step (term.Var k) = 0 ∷ k ∷ []
term_code_step (term.App f codes) = 1 ∷ f ∷ length codes ∷ joined codes

-- the numbers of a term's symbols and variables, outermost first
unfoldable pub term_code : Term → List ℕ
term_code = fold-Term (List ℕ) term_code_step

-- what an atom is found by
abbrev pub code_of : AtomOf → List ℕ
code_of (Pred p ts) = 0 ∷ p ∷ length ts ∷ flat_map term_code ts
code_of (Eq s t) = 1 ∷ (term_code s ++ term_code t)
code_of True = 2 ∷ []
code_of False = 3 ∷ []
