use Rattle.std.proofs.Common.{ℕ, List, [], ◌∷◌, ◌+◌, length, ap, sym, subst, ◌∙◌}
use Rattle.std.proofs.lemmas.List.{length-append}
use Rattle.fi_model.specs.declared.table.Table.{Table}
use Rattle.fi_model.specs.code.Adding.{told, AreTables}
use Rattle.fi_model.proofs.FillFacts.{one_table_more}
use Rattle.fi_model.proofs.tables.tables.Goals as goal

pub loop-number-preserved : goal.loop-number-preserved
loop-number-preserved c = record {
  are =
      subst (λ (ts : List Table). AreTables c.args.signature.now (told c.args.index.now) c.args.domains.now ts) (sym c.in_ok-push-in-Some-2.ensures.ok)
      (one_table_more c.args.signature.now (told c.args.index.now) c.args.domains.now c.loop-number.tables c.in-Some.symbol.now c.in-Some-2.table c.loop-number.number c.loop-number.invariant.count
      (sym c.in-Some.ensures) c.loop-number.invariant.are (rw c.in-Some-2.is at c.in_ok-table.ensures));
  count = ap length c.in_ok-push-in-Some-2.ensures.ok ∙ length-append c.loop-number.tables (c.in-Some-2.table ∷ []) ∙ ap (λ (n : ℕ). n + 1) c.loop-number.invariant.count;
}
