use Rattle.std.proofs.Common.{ap, ◌∙◌}
use Rattle.skolem_fresh.specs.code.Reading.{read}
use Rattle.skolem_fresh.proofs.Opened.{on_ok}
use Rattle.skolem_fresh.proofs.Paired.{outward_none}
use Rattle.skolem_fresh.proofs.reading.read.Goals as goal

pub returns : goal.returns
returns c = on_ok c.read_from.result (λ found h. h ∙ ap (read c.args.sort c.args.leaves.now) (outward_none c.args.others.now)) c.read_from.ensures
