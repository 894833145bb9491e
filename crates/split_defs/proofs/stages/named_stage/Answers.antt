use Rattle.std.proofs.Common.{rules, subst, ◌∙◌}
use Rattle.fof_terms.specs.declared.form.Form.{Form}
use Rattle.clause_proofs.specs.Bodies.{IsOpening}
use Rattle.clause_proofs.proofs.ReadyParents.{parent_ready}
use Rattle.std.proofs.Common.{Some}
use Rattle.split_defs.proofs.Contraries.{is_equivalence, name_stage, stage_clause, stage_is, stage_name, stage_opened, stage_there}
use Rattle.split_defs.proofs.stages.named_stage.Goals as goal

pub unreachable-requires : goal.unreachable-requires
unreachable-requires c =
    is_equivalence c.args.parents.now c.args.line.now.clause c.args.at c.index-parents-at.result c.index-parents-at.is c.requires.named.0 c.requires.named.1 c.requires.named.2 c.requires.named.3 c.in_default.not-Iff

pub known_place-place-requires : goal.known_place-place-requires
known_place-place-requires c =
    let n = c.requires.named.3 in (
      n.name,
      c.get.ensures ∙ stage_name c.args.parents.now c.args.line.now.clause c.args.at c.index-parents-at.result c.index-parents-at.is c.in-Iff.name c.in-Iff.meaning c.in-Iff.is c.requires.named.0 c.requires.named.1 c.requires.named.2 n,
      n.in_line,
    )

pub known_clause-requires : goal.known_clause-requires
known_clause-requires c =
    (c.requires.named.1, rw c.get-2.ensures (stage_clause c.args.parents.now c.args.line.now.clause c.args.at c.index-parents-at.result c.index-parents-at.is c.in-Iff.name c.in-Iff.meaning c.in-Iff.is c.requires.named.0 c.requires.named.1 c.requires.named.2 c.requires.named.3))

pub returns-clause-stage : goal.returns-clause-stage
returns-clause-stage c =
    let r = c.index-parents-at.result in
    let n = c.requires.named.3 in
    let there = stage_there c.args.parents.now c.args.line.now.clause c.args.at r c.index-parents-at.is c.in-Iff.name c.in-Iff.meaning c.in-Iff.is c.requires.named.0 c.requires.named.1 c.requires.named.2 n in
    let is = stage_is c.args.parents.now c.args.line.now.clause c.args.at r c.index-parents-at.is c.in-Iff.name c.in-Iff.meaning c.in-Iff.is c.requires.named.0 c.requires.named.1 c.requires.named.2 n in
    let name = stage_name c.args.parents.now c.args.line.now.clause c.args.at r c.index-parents-at.is c.in-Iff.name c.in-Iff.meaning c.in-Iff.is c.requires.named.0 c.requires.named.1 c.requires.named.2 n in
    name_stage c.args.sig.now c.args.parents.now c.args.form.now c.args.line.now c.requires.line r c.args.at there n.name c.in-Iff.meaning is (parent_ready c.args.sig.now c.args.parents.now c.args.at r c.requires.ready there) c.known_place-place.result c.args.denial (c.known_place-place.ensures n.name (c.get.ensures ∙ name)) _
    (subst (λ (a : Form). IsOpening a (Some c.in_ok-opened.opened)) c.get-2.ensures c.in_ok-opened.ensures) (search rules) (search rules)

pub returns-clause-clause : goal.returns-clause-clause
returns-clause-clause c p d there n =
    stage_opened c.args.parents.now c.args.line.now.clause c.args.at c.index-parents-at.result c.index-parents-at.is c.in-Iff.name c.in-Iff.meaning c.in-Iff.is p d there n c.in_ok-opened.opened
    (subst (λ (a : Form). IsOpening a (Some c.in_ok-opened.opened)) c.get-2.ensures c.in_ok-opened.ensures)
