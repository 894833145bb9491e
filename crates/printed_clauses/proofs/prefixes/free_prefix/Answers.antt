use Rattle.std.proofs.Common.{◌≡◌, max, arith}
use Rattle.printed_clauses.proofs.PrefixFacts.{wanted_by_symbols, wanted_by_sorts, prefix_is}
use Rattle.printed_clauses.proofs.prefixes.free_prefix.Goals as goal

pub returns : goal.returns
returns c =
    let most : c.loop.counter ≡ max (wanted_by_symbols c.args.sig.now) (wanted_by_sorts c.args.sig.now) = omega (arith, c.larger-wanted.ensures, c.wanted_of_symbols.ensures, c.wanted_of_sorts.ensures) in
    (c.loop.counter, c.loop.invariant, prefix_is c.args.sig.now c.loop.counter most)
