use Rattle.std.proofs.Common.{inr, refl, sym, subst}
use Rattle.tptp_run.specs.code.Printing.{IsProofFrom}
use Rattle.tptp_run.proofs.prove.say_checked.Goals as goal

pub returns-clause-said : goal.returns-clause-said
returns-clause-said c = inr (c.requires.fits, (rw c.as_slice.ensures at c.in_ok-check_proof.ensures), refl)

pub check_proof-requires-clause-proof : goal.check_proof-requires-clause-proof
check_proof-requires-clause-proof c = subst (IsProofFrom c.args.problem.now c.args.limit c.args.source.now) (sym c.as_slice.ensures) c.requires.proof
