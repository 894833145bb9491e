use Rattle.std.proofs.Common.{ap, sym, subst, arith, ◌∙◌, ◌≡◌, ◌+◌, ◌++◌, length, take}
use Rattle.std.specs.Prelude.{Bool, List}
use Rattle.clause_form.specs.declared.clause.Clause.{Clause}
use Rattle.fof_terms.specs.Vocabulary.{Vocabulary}
use Rattle.kernel.specs.declared.entry.Entry.{Entry}
use Rattle.kernel.specs.declared.proof.Proof.{Proof}
use Rattle.negated_lemmas.specs.Negated.{ConcludeLine}
use Rattle.saturation.specs.Members.{clauses_of}
use Rattle.search_proofs.specs.Searched.{declare_all}
use Rattle.search_proofs.specs.code.Contradictions.{Suffice}
use Rattle.search_proofs.specs.code.Wanting.{AreInputsMarked}
use Rattle.search_proofs.proofs.Contradicted.{enough_count}
use Rattle.search_proofs.proofs.Sweeping.{each_derived_names, last_derived_names}
use Rattle.search_proofs.proofs.Whole.{as_many_inputs, searched, symbols_known}
use Rattle.search_proofs.proofs.WantedFacts.{each_input, last_input}
use Rattle.search_proofs.proofs.entries.entries_by.Goals as goal

pub ending_of-requires-clause-earlier : goal.ending_of-requires-clause-earlier
ending_of-requires-clause-earlier c = each_derived_names c.args.signature.now c.args.inputs.now c.args.members.now c.requires.members

pub ending_of-requires-clause-last : goal.ending_of-requires-clause-last
ending_of-requires-clause-last c = last_derived_names c.args.signature.now c.args.inputs.now c.args.members.now c.args.empty.now c.requires.last

pub wanted_inputs-requires-clause-last : goal.wanted_inputs-requires-clause-last
wanted_inputs-requires-clause-last c = last_input c.args.signature.now c.args.inputs.now (clauses_of c.args.members.now) c.args.empty.now c.requires.last

pub wanted_inputs-requires-clause-each : goal.wanted_inputs-requires-clause-each
wanted_inputs-requires-clause-each c = each_input c.args.signature.now c.args.inputs.now c.args.members.now c.requires.members

pub wanted_inputs-requires-clause-needed : goal.wanted_inputs-requires-clause-needed
wanted_inputs-requires-clause-needed c = ap (λ (bs : List Bool). length bs) c.as_slice-needed.ensures ∙ enough_count c.args.signature.now c.args.members.now c.args.empty.now c.in_ok-ending.ending.found c.in_ok-ending.ending.needed c.in_ok-ending.ensures

pub open_inputs-requires-clause-wanted : goal.open_inputs-requires-clause-wanted
open_inputs-requires-clause-wanted c = ap (λ (bs : List Bool). length bs) c.as_slice.ensures ∙ (c.in_ok-wanted.ensures.size ∙ ap (λ (cs : List Clause). length cs) c.requires.inputs)

pub proofs_of_refutation-requires-clause-needed : goal.proofs_of_refutation-requires-clause-needed
proofs_of_refutation-requires-clause-needed c = subst (Suffice c.args.signature.now c.args.members.now c.args.empty.now c.in_ok-ending.ending.found) (sym c.as_slice-needed.ensures) c.in_ok-ending.ensures

pub proofs_of_refutation-requires-clause-made : goal.proofs_of_refutation-requires-clause-made
proofs_of_refutation-requires-clause-made c =
    let marks = subst (AreInputsMarked (length c.args.inputs.now) c.args.members.now c.as_slice-needed.result.now c.args.empty.now) (sym c.as_slice.ensures) c.in_ok-wanted.ensures in
    let denied : c.in_ok-denied.denied ≡ length c.args.theory.now.formulas + length c.in_ok-opened.opened.choices = c.in_ok-denied.ensures.sum ∙ ap (λ n. n + c.len-2.result) c.len.ensures ∙ ap (λ n. length c.args.theory.now.formulas + n) c.len-2.ensures in (
      c.args.inputs.now,
      as_many_inputs c.args.theory.now c.args.parents.now c.args.line.now c.args.signature.now c.requires.signature c.args.inputs.now c.requires.inputs c.args.members.now c.args.empty.now c.requires.members c.requires.last c.as_slice-needed.result.now c.as_slice.result.now c.in_ok-opened.opened c.in_ok-opened.ensures marks c.requires.parents c.requires.line c.is_vocabulary.ensures
          c.in_ok-denied.denied c.in_ok-start.start denied c.in_ok-start.ensures.sum,
      c.requires.members,
      c.requires.last,
    )

pub lemmas_of_refutation-requires : goal.lemmas_of_refutation-requires
lemmas_of_refutation-requires c =
    let lent = ap (λ (ps : List Proof). length ps) c.as_slice-2.ensures in
    let many = c.len-3.ensures in
    let fits = c.in_ok-further.ensures.fits in
    omega arith

pub declarations-requires : goal.declarations-requires
declarations-requires c =
    let known = symbols_known c.args.theory.now.vocabulary c.args.signature.now c.args.parents.now c.args.line.now c.requires.signature in
    let count = c.symbol_count.ensures.value ∙ ap (λ (v : Vocabulary). length v.symbols) c.signature.ensures in
    omega arith

pub returns : goal.returns
returns c =
    let marks = subst (AreInputsMarked (length c.args.inputs.now) c.args.members.now c.as_slice-needed.result.now c.args.empty.now) (sym c.as_slice.ensures) c.in_ok-wanted.ensures in
    let denied : c.in_ok-denied.denied ≡ length c.args.theory.now.formulas + length c.in_ok-opened.opened.choices = c.in_ok-denied.ensures.sum ∙ ap (λ n. n + c.len-2.result) c.len.ensures ∙ ap (λ n. length c.args.theory.now.formulas + n) c.len-2.ensures in
    let count = c.symbol_count.ensures.value ∙ ap (λ (v : Vocabulary). length v.symbols) c.signature.ensures in
    let declares = subst (λ n. declare_all c.args.signature.now.symbols ≡ declare_all (take n c.args.signature.now.symbols) ++ c.in_ok-entries.entries) count c.in_ok-entries.ensures in
    let concludes = subst (λ (ps : List Proof). ConcludeLine c.args.line.now c.in_ok-denied.denied ps c.in_ok-lemmas.lemmas) c.as_slice-2.ensures c.in_ok-lemmas.ensures in
    searched c.args.theory.now c.args.parents.now c.args.line.now c.args.signature.now c.requires.signature c.args.inputs.now c.requires.inputs c.args.members.now c.args.empty.now c.requires.members c.requires.last c.as_slice-needed.result.now c.as_slice.result.now c.in_ok-opened.opened c.in_ok-opened.ensures marks c.requires.parents c.requires.line c.is_vocabulary.ensures
    c.in_ok-denied.denied c.in_ok-start.start denied c.in_ok-start.ensures.sum c.in_ok-proofs.proofs c.in_ok-proofs.ensures c.in_ok-entries.entries c.in_ok-lemmas.lemmas c.append-2.new.self declares concludes
    (c.in_ok-append-2.ensures ∙ ap (λ (es : List Entry). es ++ c.in_ok-lemmas.lemmas) c.in_ok-append.ensures)
