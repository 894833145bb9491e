use Rattle.std.proofs.Common.{◌≡◌, ◌-◌, ◌<◌, ◌^◌, arith, sym, ap, ◌∙◌}
use Rattle.fof_terms.specs.declared.term.Term.{App}
use Rattle.prove_out.specs.Variables.{variable_name}
use Rattle.prove_out.specs.code.Written.{WritesTerm}
use Rattle.prove_out.proofs.EachFacts.{each_next}
use Rattle.prove_out.proofs.Applications.{var_written, app_written, term_seen}
use Rattle.prove_out.proofs.terms.+term.Goals as goal

pub written_term-returns-in_ok-variable_name-in-Var : goal.written_term-returns-in_ok-variable_name-in-Var
written_term-returns-in_ok-variable_name-in-Var t c =
    let few : c.args.depth < 2 ^ 64 = omega (arith, c.ranges.depth.fits) in
    let binder : c.saturating_sub-binder.result ≡ c.args.depth - c.in-Var.distance - 1 = omega (arith, c.saturating_sub.ensures, c.saturating_sub-binder.ensures) in
    term_seen _ _ _ _ _ c.in-Var.is (var_written c.args.sig.now c.args.depth c.in-Var.distance _ few (c.in_ok-variable_name-in-Var.ensures ∙ ap variable_name binder))

pub written_term-returns-in_ok-written_terms-in-App : goal.written_term-returns-in_ok-written_terms-in-App
written_term-returns-in_ok-written_terms-in-App t c =
    term_seen _ _ _ _ _ (c.in-App.is ∙ ap (App c.in-App.symbol) (sym c.as_slice.ensures))
    (app_written c.args.sig.now c.args.depth c.in-App.symbol c.as_slice.result.now c.in_ok-word-in-App.word c.in_ok-written_terms-in-App.field-0 c.in_ok-word-in-App.ensures c.in_ok-written_terms-in-App.ensures)

pub written_terms-loop-term-preserved : goal.written_terms-loop-term-preserved
written_terms-loop-term-preserved t c =
    each_next (WritesTerm c.args.sig.now c.args.depth) c.args.terms.now c.loop-term.term-index c.term-item.result c.loop-term.written c.push.new.self c.in_ok-written_term.field-0 c.loop-term-test.true c.term-item.is c.loop-term.invariant
    c.in_ok-written_term.ensures c.in_ok-push.ensures.ok
