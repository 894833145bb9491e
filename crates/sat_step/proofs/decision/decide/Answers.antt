use Rattle.std.proofs.Common.{ℕ, ◌≡◌, Bool, List, map, ap, sym, subst, ◌∙◌}
use Rattle.clause_form.specs.declared.clause.AtomOf.{AtomOf}
use Rattle.clause_form.specs.declared.clause.Lit.{Lit}
use Rattle.clause_learning.specs.declared.clauses.Learned.{Learned as Step}
use Rattle.clause_learning.specs.declared.solver.Outcome.{Outcome}
use Rattle.clause_learning.specs.Valuations.{Answers, HasAtoms, IsModel}
use Rattle.sat_step.specs.declared.decision.Learned.{Learned}
use Rattle.sat_step.specs.Decisions.{IsRefuted, Satisfies, positive_atoms}
use Rattle.sat_step.specs.code.Numbers.{read_learned, sign_lits}
use Rattle.sat_step.proofs.Answering.{numbered_within, refuted_read, model_satisfies}
use Rattle.sat_step.proofs.decision.decide.Goals as goal

pub solve-requires : goal.solve-requires
solve-requires c =
    let n = c.in_ok-atoms.field-0 in
    let P : ℕ → Type 0 = λ k. HasAtoms k n.clauses in
    subst P (sym c.len.ensures) (numbered_within c.args.clauses.now n c.in_ok-atoms.ensures)

pub returns-in-Refuted : goal.returns-in-Refuted
returns-in-Refuted c =
    let n = c.in_ok-atoms.field-0 in
    let A : Outcome → Type 0 = λ o. Answers c.len.result n.clauses o in
    let L : List Learned → Type 0 = λ ls. IsRefuted c.args.clauses.now ls in
    let is : c.in_ok-log-in-Refuted.log ≡ map (read_learned n.atoms) c.in-Refuted.log =
    c.in_ok-log-in-Refuted.ensures ∙ ap (λ (as_ : List AtomOf). map (read_learned as_) c.as_slice-in-Refuted.result.now) c.as_slice.ensures
    ∙ ap (λ (ls : List Step). map (read_learned n.atoms) ls) c.as_slice-in-Refuted.ensures in
    subst L (sym is) (refuted_read c.args.clauses.now n c.in_ok-atoms.ensures c.in-Refuted.log (subst A c.in-Refuted.is c.in_ok-log.ensures))

pub returns : goal.returns
returns c =
    let n = c.in_ok-atoms.field-0 in
    let A : Outcome → Type 0 = λ o. Answers c.len.result n.clauses o in
    let M : ℕ → Type 0 = λ k. IsModel k n.clauses c.in-Valuation.signs in
    let L : List Lit → Type 0 = λ ls. Satisfies (positive_atoms ls) c.args.clauses.now in
    let is : c.in_ok-lits-in-Valuation.lits ≡ sign_lits n.atoms 0 c.in-Valuation.signs =
    c.in_ok-lits-in-Valuation.ensures ∙ ap (λ (as_ : List AtomOf). sign_lits as_ 0 c.as_slice-in-Valuation-2.result.now) c.as_slice-in-Valuation.ensures
    ∙ ap (λ (ss : List Bool). sign_lits n.atoms 0 ss) c.as_slice-in-Valuation-2.ensures in
    subst L (sym is) (model_satisfies c.args.clauses.now n c.in-Valuation.signs c.in_ok-atoms.ensures (subst M c.len.ensures (subst A c.in-Valuation.is c.in_ok-log.ensures)))
