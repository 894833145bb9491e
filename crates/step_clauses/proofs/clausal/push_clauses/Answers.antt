use Rattle.std.proofs.Common.{arith, ap, ◌∙◌, ◌++◌, List}
use Rattle.std.specs.Prelude.{Result, Ok, Err, OnOk}
use Rattle.std.specs.List.{filter_map}
use Rattle.clause_form.specs.declared.clause.Clause.{Clause}
use Rattle.clause_form.specs.Clauses.{clauses_in}
use Rattle.clause_form.specs.Paths.{reached}
use Rattle.step_clauses.proofs.WaysFacts.{all_found}
use Rattle.step_clauses.proofs.clausal.push_clauses.Goals as goal

then_on : {X E : Type 0} {P Q : Type 0} (r : Result X E) → (P → Q) → OnOk r P → OnOk r Q
then_on (Ok x) f p = f p
then_on (Err e) f p = p

pub paths_of-requires : goal.paths_of-requires
paths_of-requires c = let room = c.requires.room in omega arith

pub returns : goal.returns
returns c =
    then_on c.push_reached.result
    (λ e. e ∙ ap (λ l. c.args.clauses.now ++ filter_map (λ p. reached p c.args.form.now) l) c.as_slice.ensures ∙ ap (λ (l : List Clause). c.args.clauses.now ++ l) (all_found (λ p. reached p c.args.form.now) c.in_ok-paths.paths (clauses_in c.args.form.now) c.in_ok-paths.ensures)) c.push_reached.ensures
