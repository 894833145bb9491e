use Rattle.std.proofs.Common.{List, [], ◌+◌, take, sym, subst}
use Rattle.std.specs.List.{AllZip}
use Rattle.std.proofs.lemmas.List.{take_all}
use Rattle.clause_form.specs.declared.clause.Clause.{Clause}
use Rattle.clause_learning.specs.declared.literal.Literal.{Literal}
use Rattle.sat_step.specs.code.Numbers.{IsReadClause}
use Rattle.sat_step.proofs.Table.{clauses_more}
use Rattle.sat_step.proofs.numbering.number.Goals as goal

pub loop-clause-init : goal.loop-clause-init
loop-clause-init c =
    let R : List (List Literal) → Type 0 = λ xss. AllZip {A = List Literal} {B = Clause} (λ xs d. IsReadClause c.new-table.result.atoms xs d.lits) xss [] in
    record { numbered = c.new-table.ensures; read = subst R (sym c.new-numbered.ensures) tt }

pub loop-clause-preserved : goal.loop-clause-preserved
loop-clause-preserved c =
    let old = c.loop-clause.table.atoms in
    let new = c.number_lits.new.table.atoms in
    let i = c.loop-clause.clause-index in
    let R : List (List Literal) → Type 0 = λ xss. AllZip {A = List Literal} {B = Clause} (λ xs d. IsReadClause new xs d.lits) xss (take (i + 1) c.args.clauses.now) in
    record {
      numbered = c.in_ok-number_lits.ensures.numbered;
      read = subst R (sym c.in_ok-push.ensures.ok) (clauses_more old new c.loop-clause.numbered c.args.clauses.now i c.clause-item.result c.as_slice.result.now c.in_ok-number_lits.field-0
          c.loop-clause-test.true c.clause-item.is c.as_slice.ensures c.in_ok-number_lits.ensures.kept c.loop-clause.invariant.read c.in_ok-number_lits.ensures.read);
    }

pub returns : goal.returns
returns c =
    let R : List Clause → Type 0 = λ cs. AllZip {A = List Literal} {B = Clause} (λ xs d. IsReadClause c.loop-clause.table.atoms xs d.lits) c.loop-clause.numbered cs in
    record {
      distinct = c.loop-clause.invariant.numbered.distinct;
      read = subst R (take_all c.loop-clause.clause-index c.args.clauses.now c.loop-clause-test.false) c.loop-clause.invariant.read;
    }
