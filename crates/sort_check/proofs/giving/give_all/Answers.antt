use Rattle.std.proofs.Common.{◌≡◌, ◌∙◌, List, IfOk, reverse, ap, subst}
use Rattle.std.proofs.lemmas.List.{reverse-reverse}
use Rattle.sort_check.specs.declared.line.Line.{Line}
use Rattle.sort_check.specs.Given.{given_entries}
use Rattle.sort_check.proofs.GivenSorts.{given_sorted}
use Rattle.sort_check.proofs.giving.give_all.Goals as goal

pub returns-clause-sorted : goal.returns-clause-sorted
returns-clause-sorted c =
    given_sorted c.args.lines c.entries_from.result
    (subst (λ (lines : List Line). IfOk c.entries_from.result (λ entries. entries ≡ given_entries lines)) (ap reverse c.in_ok-reversed.ensures ∙ reverse-reverse c.args.lines) c.entries_from.ensures)
