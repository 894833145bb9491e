use Rattle.read_problems.proofs.spelled.say_grammar_fault.Goals as goal

pub returns-in_ok-say_at-in-Deep-clause-said : goal.returns-in_ok-say_at-in-Deep-clause-said
returns-in_ok-say_at-in-Deep-clause-said c = rw c.in-Deep.is c.in_ok-say_at-in-Deep.ensures
