use Rattle.std.proofs.Common.{sym, ap, ◌∙◌}
use Rattle.std.specs.Option.{option_copied}
use Rattle.fof_terms.proofs.KnownSorts.{result_there}
use Rattle.split_defs.proofs.valuing.result_of.Goals as goal

pub returns-in-Some-clause-exists : goal.returns-in-Some-clause-exists
returns-in-Some-clause-exists c = result_there c.args.signature.now c.is_vocabulary.ensures c.args.symbol c.in-Some.found.now (sym c.symbol.ensures ∙ ap option_copied c.in-Some.is)
