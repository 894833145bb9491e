use Rattle.printed_clauses.proofs.TrimmedFacts.{trimmed_by}
use Rattle.printed_clauses.proofs.trimming.trim.Goals as goal

pub returns : goal.returns
returns c =
    let same = trimmed_by c.args.clause.now c.in_ok-marks.marks c.in_ok-marks.ensures in
    cc (same.0, same.1, c.in_ok-subst.ensures, c.in_ok-sorts.ensures, c.in_ok-instances.ensures)
