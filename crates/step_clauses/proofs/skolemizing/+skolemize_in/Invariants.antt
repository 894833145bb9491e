use Rattle.std.proofs.Common.{◌≡◌, ◌+◌, take, map, sum}
use Rattle.clause_form.specs.Clauses.{in_turn, skolem_made}
use Rattle.step_clauses.specs.code.Bound.{count_in, terms_in}
use Rattle.step_clauses.specs.code.Counts.{some_count}
use Rattle.step_clauses.proofs.skolemizing.+skolemize_in.Given as goal

abbrev pub invariant-skolemize_all-loop-form : goal.invariant-skolemize_all-loop-form
invariant-skolemize_all-loop-form l = (l.next ≡ l.fn.next + sum (map some_count (take l.form-index l.forms))) × (l.made ≡ (in_turn (map skolem_made (take l.form-index l.forms)) l.fn.next (count_in l.bound) (terms_in l.bound)).0)
