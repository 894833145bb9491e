use Rattle.std.proofs.Common.{sym, subst}
use Rattle.std.proofs.lemmas.Result.{err_from_is_err_and}
use Rattle.verifier.specs.Closing.{IsVerified}
use Rattle.verifier.proofs.Refuting.{last_closes, last_cut}
use Rattle.verifier.proofs.closing.close_log.Goals as goal

pub returns-in_err-write_entry-in-Verified-clause-cut :
    goal.returns-in_err-write_entry-in-Verified-clause-cut
returns-in_err-write_entry-in-Verified-clause-cut g c =
    let p = err_from_is_err_and c.from_residual-in_err-write_entry-in-Verified.result c.from_residual-in_err-write_entry-in-Verified.ensures.1 in
    λ t stand. rw p.1 (last_cut t c.args.forms.now c.args.numbers.now c.in-Some.number _ _ stand c.in-Some.ensures.is (rw (c.get.ensures, c.in_ok-entry-in-Verified.ensures) at c.in_err-write_entry-in-Verified.ensures.err))

pub returns-in_ok-write_entry-in-Verified-clause-closes :
    goal.returns-in_ok-write_entry-in-Verified-clause-closes
returns-in_ok-write_entry-in-Verified-clause-closes g c =
    last_closes c.args.verdict.now c.args.forms.now c.args.numbers.now c.in-Some.number _ _ (subst IsVerified (sym c.in-Verified.is) tt) c.in-Some.ensures (rw (c.get.ensures, c.in_ok-entry-in-Verified.ensures) at c.in_ok-write_entry-in-Verified.ensures.ok) (rw (c.get.ensures, c.in_ok-entry-in-Verified.ensures) at c.in_ok-write_entry-in-Verified.ensures.in_range)
