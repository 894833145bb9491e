use Rattle.std.proofs.Common.{ℕ, Bool, List, ap, sym, subst, arith, ◌∙◌, ◌+◌, ◌≡◌, length}
use Rattle.clause_form.specs.declared.clause.Clause.{Clause}
use Rattle.input_proofs.specs.Functions.{searched_clauses}
use Rattle.kernel.specs.declared.proof.Proof.{Proof}
use Rattle.negated_lemmas.specs.Negated.{ConcludeLine}
use Rattle.sat_entries.specs.code.Naming.{AreMarked}
use Rattle.sat_entries.specs.code.Refuting.{LeadToFalsehood, NamedAreMarked}
use Rattle.sat_entries.proofs.PlainSteps.{clauses_are}
use Rattle.sat_entries.proofs.Whole.{as_many_inputs, derived}
use Rattle.sat_entries.proofs.entries.entries_by.Goals as goal

pub open_inputs-requires-clause-wanted : goal.open_inputs-requires-clause-wanted
open_inputs-requires-clause-wanted c =
    let same = c.requires.clauses ∙ sym (clauses_are c.args.theory.now.vocabulary c.args.parents.now c.args.line.now c.requires.propositional) in
    ap (λ (bs : List Bool). length bs) c.as_slice-wanted.ensures ∙ (c.in_ok-wanted.ensures.size ∙ ap (λ (cs : List Clause). length cs) same)

pub proofs_of_refutation-requires-clause-inputs : goal.proofs_of_refutation-requires-clause-inputs
proofs_of_refutation-requires-clause-inputs c =
    let same = c.requires.clauses ∙ sym (clauses_are c.args.theory.now.vocabulary c.args.parents.now c.args.line.now c.requires.propositional) in
    sym (ap (λ (cs : List Clause). length cs) same ∙ as_many_inputs c.args.theory.now c.args.parents.now c.args.line.now c.as_slice-wanted.result.now c.in_ok-opened.opened c.in_ok-opened.ensures c.requires.parents c.requires.line c.requires.propositional)

pub returns : goal.returns
returns c =
    let clauses = searched_clauses c.args.theory.now.vocabulary c.args.parents.now c.args.line.now in
    let same : c.args.clauses.now ≡ clauses = c.requires.clauses ∙ sym (clauses_are c.args.theory.now.vocabulary c.args.parents.now c.args.line.now c.requires.propositional) in
    let wanted = c.as_slice-wanted.result.now in
    let marks = subst (AreMarked (length c.args.clauses.now) c.args.log.now) (sym c.as_slice-wanted.ensures) c.in_ok-wanted.ensures in
    let named : NamedAreMarked c.args.clauses.now wanted c.args.log.now = marks.named in
    let marked = subst (λ (cs : List Clause). NamedAreMarked cs wanted c.args.log.now) same named in
    let lead = subst (λ (cs : List Clause). LeadToFalsehood c.in_ok-start.start c.in_ok-opened.opened.facts c.in_ok-opened.opened.proofs cs wanted c.args.log.now c.in_ok-proofs.proofs) same c.in_ok-proofs.ensures in
    let denied : c.in_ok-denied.denied ≡ length c.args.theory.now.formulas + length c.in_ok-opened.opened.choices = c.in_ok-denied.ensures.sum ∙ ap (λ n. n + c.len-2.result) c.len.ensures ∙ ap (λ n. length c.args.theory.now.formulas + n) c.len-2.ensures in
    let concludes = subst (λ (ps : List Proof). ConcludeLine c.args.line.now c.in_ok-denied.denied ps c.in_ok-lemmas.lemmas) c.as_slice.ensures c.in_ok-lemmas.ensures in
    derived c.args.theory.now c.args.parents.now c.args.line.now wanted c.in_ok-opened.opened c.in_ok-opened.ensures c.requires.parents c.requires.line c.requires.propositional c.args.log.now c.in_ok-start.start c.in_ok-denied.denied c.in_ok-proofs.proofs c.in_ok-lemmas.lemmas c.append.new.self denied
    c.in_ok-start.ensures.sum marked lead concludes c.in_ok-append.ensures
