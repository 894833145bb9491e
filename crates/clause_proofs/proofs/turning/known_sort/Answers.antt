use Rattle.std.proofs.Common.{sym, ◌∙◌}
use Rattle.fof_terms.specs.Scope.{scope_sorts}
use Rattle.fof_terms.proofs.KnownSorts.{sort_there}
use Rattle.clause_proofs.proofs.turning.known_sort.Goals as goal

pub returns-clause-there : goal.returns-clause-there
returns-clause-there c = sort_there c.args.signature.now (scope_sorts c.args.scope.now) c.is_vocabulary.ensures c.requires.0 c.args.term.now c.in-Some.sort (sym c.sort_of.ensures ∙ c.in-Some.is)
