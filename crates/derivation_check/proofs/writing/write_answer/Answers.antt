use Rattle.derivation_check.proofs.writing.write_answer.Goals as goal

pub returns-in-Unverified-clause-ok : goal.returns-in-Unverified-clause-ok
returns-in-Unverified-clause-ok g c = rw c.in-Unverified.is (rw c.reason_name.ensures at c.write_both-in-Unverified.ensures.ok)
