use Rattle.std.proofs.Common.{arith, ap, ◌∙◌, ◌≤◌, take, get_or}
use Rattle.std.proofs.lemmas.Option.{slice_get-get_or}
use Rattle.fof_terms.specs.Scope.{scope_sorts}
use Rattle.skolem_fresh.proofs.Opened.{body_room}
use Rattle.function_choices.proofs.Found.{found_here, not_here}
use Rattle.function_choices.proofs.finding.found.Goals as goal

pub needed-requires : goal.needed-requires
needed-requires c = let room = body_room c.args.sig.now (scope_sorts c.args.scope.now) c.args.sort c.args.body.now c.requires.within in omega (arith, c.requires.outer)

pub patterns-requires : goal.patterns-requires
patterns-requires c = let room = body_room c.args.sig.now (scope_sorts c.args.scope.now) c.args.sort c.args.body.now c.requires.within in omega arith

pub returns-in-Some : goal.returns-in-Some
returns-in-Some c =
    let few : c.args.outer ≤ 100 = omega arith in
    found_here c.args.sig.now c.args.atoms.now (scope_sorts c.args.scope.now) c.args.before.now c.args.sort c.args.body.now c.args.outer c.requires.outer few c.as_slice-all.result.now c.as_slice-needed.result.now (c.as_slice-all.ensures ∙ c.in_ok-all.ensures) (c.as_slice-needed.ensures ∙ c.in_ok-needed.ensures)
    c.first_patterns-patterns.result.now (c.first_patterns-patterns.ensures ∙ ap (take 8) (c.as_slice.ensures ∙ c.in_ok-patterns.ensures)) (get_or c.args.symbols.now c.loop-symbol.symbol-index 0) c.args.symbols.now c.loop-symbol.symbol-index c.loop-symbol-test.true (slice_get-get_or c.args.symbols.now c.loop-symbol.symbol-index 0 c.loop-symbol-test.true)
    c.loop-symbol.invariant c.in_ok-tried.tried c.in_ok-tried.ensures c.in-Some.function c.in-Some.is

pub loop-symbol-preserved : goal.loop-symbol-preserved
loop-symbol-preserved c =
    let few : c.args.outer ≤ 100 = omega arith in
    not_here c.args.sig.now c.args.atoms.now (scope_sorts c.args.scope.now) c.args.before.now c.args.sort c.args.body.now c.args.outer c.requires.outer few c.as_slice-all.result.now c.as_slice-needed.result.now (c.as_slice-all.ensures ∙ c.in_ok-all.ensures) (c.as_slice-needed.ensures ∙ c.in_ok-needed.ensures)
    c.first_patterns-patterns.result.now (c.first_patterns-patterns.ensures ∙ ap (take 8) (c.as_slice.ensures ∙ c.in_ok-patterns.ensures)) (get_or c.args.symbols.now c.loop-symbol.symbol-index 0) c.args.symbols.now c.loop-symbol.symbol-index c.loop-symbol-test.true (slice_get-get_or c.args.symbols.now c.loop-symbol.symbol-index 0 c.loop-symbol-test.true)
    c.loop-symbol.invariant c.in_ok-tried.tried c.in_ok-tried.ensures c.in_default.is
