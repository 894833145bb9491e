use Rattle.std.specs.Option.{option_copied}
use Rattle.read_problems.proofs.FewGiven.{few_given}
use Rattle.read_problems.proofs.Givens.{all_declared, kept_sorted}
use Rattle.read_problems.proofs.posed.read_posed.Goals as goal

pub returns-clause-few : goal.returns-clause-few
returns-clause-few g c =
    few_given (g.S.Store.files c.args.store.now) (option_copied c.args.root) c.args.file.now c.in_ok-lines.field-0 c.in_ok-lines.ensures.is c.in_ok-given.given c.in_ok-lines.ensures.in_budget c.in_ok-given.ensures.entries

pub returns-clause-sorted : goal.returns-clause-sorted
returns-clause-sorted g c =
    let d = c.in_ok-lines.field-0 in
    c.in_ok-given.ensures.sorted d.signature (kept_sorted (g.S.Store.files c.args.store.now) (option_copied c.args.root) c.args.file.now d c.in_ok-lines.ensures.is)

pub returns-clause-declared : goal.returns-clause-declared
returns-clause-declared g c =
    all_declared (g.S.Store.files c.args.store.now) (option_copied c.args.root) c.args.file.now c.in_ok-lines.field-0 c.in_ok-lines.ensures.is
