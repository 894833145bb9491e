use Rattle.std.proofs.Common.{◌≡◌, take, map}
use Rattle.fof_terms.specs.declared.term.Term.{Var}
use Rattle.clause_form.specs.Images.{image}
use Rattle.substitution_search.specs.CoverSearch.{near, over}
use Rattle.substitution_search.proofs.naming.+term_named.Given as goal

abbrev pub invariant-terms_named-loop-term : goal.invariant-terms_named-loop-term
invariant-terms_named-loop-term l = l.made ≡ map (image (over (near l.names) Var)) (take l.term-index l.terms)
