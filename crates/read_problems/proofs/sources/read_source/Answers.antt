use Rattle.std.specs.Option.{option_copied}
use Rattle.read_problems.proofs.Sourced.{all_declared, few_names, good_forms, posed_source}
use Rattle.read_problems.proofs.sources.read_source.Goals as goal

pub source_of-requires : goal.source_of-requires
source_of-requires g c = c.in_ok-posed.ensures.sorted

pub returns-clause-is : goal.returns-clause-is
returns-clause-is g c =
    let is = c.in_ok-source.ensures in
    posed_source c.in_ok-posed.posed c.in_ok-source.source is.theory is.signature is.names is.marks is.conjecture is.read (g.S.Store.files c.args.store.now) (option_copied c.args.root) c.args.file.now c.in_ok-posed.ensures.is

pub returns-clause-few : goal.returns-clause-few
returns-clause-few g c = few_names c.in_ok-posed.posed c.in_ok-source.source c.in_ok-posed.ensures.few c.in_ok-source.ensures.names

pub returns-clause-sentences : goal.returns-clause-sentences
returns-clause-sentences g c = good_forms c.in_ok-posed.posed c.in_ok-source.source c.in_ok-posed.ensures.sorted c.in_ok-source.ensures.theory c.in_ok-source.ensures.signature

pub returns-clause-declared : goal.returns-clause-declared
returns-clause-declared g c = all_declared c.in_ok-posed.posed c.in_ok-source.source c.in_ok-posed.ensures.declared c.in_ok-source.ensures.signature
