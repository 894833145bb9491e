use Rattle.std.proofs.Common.{refl, Ok}
use Rattle.sort_check.specs.Given.{given_entries}
use Rattle.sort_check.proofs.GivenSorts.{given_sorted}
use Rattle.read_problems.proofs.Givens.{forms_sorted, theory_started}
use Rattle.read_problems.proofs.given.theory_of.Goals as goal

pub start-requires : goal.start-requires
start-requires c =
    let entries = given_entries c.args.lines in
    forms_sorted c.args.signature entries c.in_ok-forms.forms c.in_ok-forms.ensures (given_sorted c.args.lines (Ok entries) refl c.args.signature c.requires.sorted)

pub returns : goal.returns
returns c = theory_started c.args.lines c.args.signature (given_entries c.args.lines) c.in_ok-forms.forms c.start.result refl c.in_ok-forms.ensures c.start.ensures
