use Rattle.std.proofs.Common.{sym, subst}
use Rattle.fof_terms.specs.Scope.{scope_sorts}
use Rattle.fof_terms.specs.Sorts.{Sorted}
use Rattle.clause_form.specs.declared.clause.Lit.{Lit}
use Rattle.clause_form.specs.ClauseView.{form_of_lit}
use Rattle.derive_kit.proofs.Built.{ok_map}
use Rattle.clause_proofs.specs.code.Refuting.{ShowsFrom}
use Rattle.clause_proofs.proofs.CoveredLiterals.{there_at, in_line_sorted, against_shows}
use Rattle.clause_proofs.proofs.covering.against_place.Goals as goal

pub lit_by-requires-clause-to : goal.lit_by-requires-clause-to
lit_by-requires-clause-to c =
    let same = there_at c.args.line.now.clause.lits c.as_slice-lits.result.now c.args.place c.requires.there.0 c.index-lits-place.result c.as_slice-lits.ensures c.requires.there.1 c.index-lits-place.is in
    subst (λ (x : Lit). Sorted c.args.signature.now (scope_sorts c.args.scope.now) (form_of_lit x)) (sym same) (in_line_sorted c.args.signature.now (scope_sorts c.args.scope.now) c.args.line.now c.args.place c.requires.there.0 c.requires.goal c.requires.there.1)

pub returns : goal.returns
returns c =
    let same = there_at c.args.line.now.clause.lits c.as_slice-lits.result.now c.args.place c.requires.there.0 c.index-lits-place.result c.as_slice-lits.ensures c.requires.there.1 c.index-lits-place.is in
    let own = subst (λ (x : Lit). ShowsFrom c.args.signature.now (scope_sorts c.args.scope.now) 0 (form_of_lit c.args.lit.now) (form_of_lit x) c.in_ok-own.own) same c.in_ok-own.ensures in
    ok_map c.not_e.result
    (λ made e. rw e (rw (c.in_ok-hyp.ensures, c.in_ok-whole.ensures)
    (against_shows c.args.signature.now (scope_sorts c.args.scope.now) c.args.denial c.args.line.now c.args.lit.now c.requires.there.0 c.args.place c.in_ok-own.own c.requires.goal c.requires.there.1 own)))
    c.not_e.ensures
