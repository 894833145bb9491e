use Rattle.std.proofs.Common.{List, [], ◌+◌, take, refl, sym, subst}
use Rattle.clause_learning.specs.declared.literal.Literal.{Literal}
use Rattle.sat_step.specs.code.Numbers.{IsReadClause}
use Rattle.sat_step.proofs.Table.{prefix_same, prefix_then, read_more}
use Rattle.sat_step.proofs.numbering.number_lits.Goals as goal

pub loop-lit-init : goal.loop-lit-init
loop-lit-init c =
    let R : List Literal → Type 0 = λ ls. IsReadClause c.args.table.now.atoms ls [] in
    record { numbered = c.requires; kept = prefix_same c.args.table.now.atoms; read = subst R (sym c.new-literals.ensures) tt }

pub loop-lit-preserved : goal.loop-lit-preserved
loop-lit-preserved c =
    let old = c.loop-lit.table.atoms in
    let new = c.number.new.self.atoms in
    let i = c.loop-lit.lit-index in
    let R : List Literal → Type 0 = λ ls. IsReadClause new ls (take (i + 1) c.args.lits.now) in
    record {
      numbered = c.in_ok-atom.ensures.numbered;
      kept = prefix_then c.args.table.now.atoms old new c.loop-lit.invariant.kept c.in_ok-atom.ensures.kept;
      read = subst R (sym c.in_ok-push.ensures.ok) (read_more old new c.loop-lit.literals c.args.lits.now i c.lit-item.result (record { atom = c.in_ok-atom.atom; positive = c.lit-item.result.positive })
          c.loop-lit-test.true c.lit-item.is c.in_ok-atom.ensures.kept c.loop-lit.invariant.read refl c.in_ok-atom.ensures.found);
    }
