use Rattle.std.proofs.Common.{ap, ◌∙◌, ◌^◌, ◌-◌, min, sum, map}
use Rattle.std.specs.List.{list_any}
use Rattle.clause_form.specs.Paths.{forms_of}
use Rattle.clause_form.specs.Sizes.{clause_count_of}
use Rattle.step_clauses.specs.Wide.{is_heavy}
use Rattle.step_clauses.specs.code.InTurn.{clauses_in_turn, symbols_in_turn}
use Rattle.step_clauses.proofs.InputFacts.{shallow, line_shallow, are_clausable, many_are_wide, heavy_is_wide, is_input}
use Rattle.step_clauses.proofs.input.input_of_norms.Goals as goal

pub norms_of-requires-clause-parents : goal.norms_of-requires-clause-parents
norms_of-requires-clause-parents c = shallow c.args.next c.args.parents.now c.args.line.now c.requires.below

pub norms_of-requires-clause-line : goal.norms_of-requires-clause-line
norms_of-requires-clause-line c = line_shallow c.args.next c.args.parents.now c.args.line.now c.requires.below

pub clausal_of_norms-requires : goal.clausal_of_norms-requires
clausal_of_norms-requires c = are_clausable c.args.next c.args.parents.now c.args.line.now c.as_slice-2.result.now c.requires.below c.requires.small c.requires.room (c.as_slice-2.ensures ∙ c.in_ok-norms.ensures)

pub returns-then-count_clauses-gt-MAX_CLAUSES : goal.returns-then-count_clauses-gt-MAX_CLAUSES
returns-then-count_clauses-gt-MAX_CLAUSES c =
    many_are_wide c.args.next (forms_of c.args.parents.now) c.args.line.now c.requires.small c.as_slice.result.now (c.as_slice.ensures ∙ c.in_ok-norms.ensures) c.count_clauses.result c.count_clauses.ensures c.if-count_clauses-gt-MAX_CLAUSES.true

pub returns-then-has_heavy : goal.returns-then-has_heavy
returns-then-has_heavy c =
    heavy_is_wide c.args.next (forms_of c.args.parents.now) c.args.line.now c.requires.small c.in_ok-norms.norms c.in_ok-norms.ensures c.count_clauses.result (c.count_clauses.ensures ∙ ap (λ l. min (sum (map clause_count_of l)) (2 ^ 128 - 1)) c.as_slice.ensures) c.if-count_clauses-gt-MAX_CLAUSES.false c.in_ok-made.made
    (c.in_ok-made.ensures.clauses ∙ ap (clauses_in_turn c.args.next) c.as_slice-2.ensures) (c.in_ok-made.ensures.skolems ∙ ap (symbols_in_turn c.args.next) c.as_slice-2.ensures) c.has_heavy.result (c.has_heavy.ensures ∙ ap (list_any is_heavy) c.as_slice-3.ensures) c.if-has_heavy.true

pub returns : goal.returns
returns c =
    is_input c.args.next (forms_of c.args.parents.now) c.args.line.now c.requires.small c.in_ok-norms.norms c.in_ok-norms.ensures c.count_clauses.result (c.count_clauses.ensures ∙ ap (λ l. min (sum (map clause_count_of l)) (2 ^ 128 - 1)) c.as_slice.ensures) c.if-count_clauses-gt-MAX_CLAUSES.false c.in_ok-made.made
    (c.in_ok-made.ensures.clauses ∙ ap (clauses_in_turn c.args.next) c.as_slice-2.ensures) (c.in_ok-made.ensures.skolems ∙ ap (symbols_in_turn c.args.next) c.as_slice-2.ensures) c.has_heavy.result (c.has_heavy.ensures ∙ ap (list_any is_heavy) c.as_slice-3.ensures) c.if-has_heavy.false
