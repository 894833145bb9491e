use Rattle.std.proofs.Common.{inl}
use Rattle.tptp_run.proofs.prove.say_text.Goals as goal

pub returns-in_ok-say_over-in-Some-clause-said : goal.returns-in_ok-say_over-in-Some-clause-said
returns-in_ok-say_over-in-Some-clause-said c = inl (c.in-Some.name, (rw c.len.ensures at c.in-Some.ensures.some), c.in_ok-say_over-in-Some.ensures)
