use Rattle.std.proofs.Common.{ap, sym, ◌∙◌}
use Rattle.printed_clauses.specs.code.Underscores.{wanted}
use Rattle.printed_clauses.proofs.PrefixFacts.{wanted_more}
use Rattle.printed_clauses.proofs.prefixes.wanted_of_sorts.Goals as goal

pub loop-number-preserved : goal.loop-number-preserved
loop-number-preserved c =
    wanted_more wanted c.args.sig.now.sorts c.loop-number.number c.in-Some.name.now c.loop-number.most c.larger-most.result c.wanted_of.result (sym c.in-Some.ensures) c.loop-number.invariant (c.wanted_of.ensures ∙ ap wanted c.as_slice.ensures) c.larger-most.ensures
