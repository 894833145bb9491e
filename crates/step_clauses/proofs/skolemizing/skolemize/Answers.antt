use Rattle.std.proofs.Common.{arith, [], ◌∙◌}
use Rattle.clause_form.proofs.Ok.{ok_map}
use Rattle.step_clauses.proofs.ExistentialsFacts.{counted}
use Rattle.step_clauses.proofs.SkolemizingFacts.{count_in-Outside, whole_made}
use Rattle.step_clauses.proofs.skolemizing.skolemize.Goals as goal

pub skolemize_in-requires-clause-numbers : goal.skolemize_in-requires-clause-numbers
skolemize_in-requires-clause-numbers c = let count = counted c.args.form.now [] in omega (arith, count, c.requires.numbers)

pub skolemize_in-requires-clause-depth : goal.skolemize_in-requires-clause-depth
skolemize_in-requires-clause-depth c = let none = count_in-Outside in omega (arith, none, c.requires.depth)

pub returns : goal.returns
returns c = ok_map c.skolemize_in.result (λ made e. e ∙ whole_made c.args.form.now c.args.next) c.skolemize_in.ensures.made
