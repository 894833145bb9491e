use Rattle.substitution_search.proofs.matching.may_both_meet.Goals as goal

pub returns-then-not-may_meet : goal.returns-then-not-may_meet
returns-then-not-may_meet c = λ _ s r st one two. c.may_meet.ensures c.if-not-may_meet.true s r st one

pub returns : goal.returns
returns c = λ e s r st one two. c.may_meet-2.ensures e s r st two
