use Rattle.std.proofs.Common.{sym, subst}
use Rattle.fof_terms.specs.Vocabulary.{Vocabulary}
use Rattle.sort_check.specs.Sorting.{AreGivenSorted}
use Rattle.read_problems.proofs.Givens.{forms_sorted}
use Rattle.read_problems.proofs.sources.source_of.Goals as goal

pub start-requires : goal.start-requires
start-requires c =
    let given = c.args.posed.given in
    forms_sorted c.in_ok-copy_signature.field-0 given c.in_ok-parts.parts.forms c.in_ok-parts.ensures.forms (subst (λ (v : Vocabulary). AreGivenSorted v given) (sym c.in_ok-copy_signature.ensures) c.requires)
