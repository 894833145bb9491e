use Rattle.sort_check.proofs.Turning.{lines_begin}
use Rattle.sort_check.proofs.turns.end_types.Goals as goal

pub returns-clause-stands : goal.returns-clause-stands
returns-clause-stands c =
    lines_begin c.args.seen.now.items c.args.progress.now c.of-progress.result c.args.namesakes.now c.requires c.is_vocabulary.ensures c.of-progress.ensures.sorts c.of-progress.ensures.symbols
