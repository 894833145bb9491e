use Rattle.std.proofs.Common.{sym, subst}
use Rattle.tptp_grammar.specs.Faults.{max_nesting}
use Rattle.tptp_grammar.specs.Files.{SpellsWithin}
use Rattle.tptp_grammar.specs.code.ReadFile as spec
use Rattle.tptp_grammar.proofs.ReadTested.{tested}
use Rattle.tptp_grammar.proofs.Whole.{ok_says}
use Rattle.tptp_grammar.proofs.tested.items_left.Goals as goal

pub invariant_of-tested : goal.invariant_of-tested
invariant_of-tested c =
    let tokens = c.args.tokens.now in
    let (items, parsed, kept) = c.in_ok-parse_into.ensures.taken in
    subst (spec.AreRead tokens.style) (sym c.rest.ensures) (tested tokens.style tokens.items items parsed)

pub returns-clause-spelled : goal.returns-clause-spelled
returns-clause-spelled c =
    let tokens = c.args.tokens.now in
    let (items, parsed, kept) = c.in_ok-parse_into.ensures.taken in
    let read = tested tokens.style tokens.items items parsed in
    subst (λ rest. SpellsWithin tokens.style max_nesting (spec.items_left tokens.style rest) tokens.items) (sym c.rest.ensures) (ok_says tokens.style tokens.items (spec.items_left tokens.style tokens.items) read)
