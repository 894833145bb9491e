use Rattle.std.proofs.Common.{add-one, arith}
use Rattle.szs_report.proofs.Cuts.{cut_at, cut_at_end}
use Rattle.szs_report.proofs.line.line_len.Goals as goal

pub returns-in-Some-clause-cut : goal.returns-in-Some-clause-cut
returns-in-Some-clause-cut c some =
    rw add-one (cut_at c.args.text.now c.in-Some.at c.in-Some.ensures.0.high c.in-Some.ensures.1 (λ k low. c.in-Some.ensures.0.before k (omega arith) low))

pub returns-in-None-clause-cut : goal.returns-in-None-clause-cut
returns-in-None-clause-cut c some = cut_at_end c.args.text.now some (λ k low. c.in-None.ensures k (omega arith) low)
