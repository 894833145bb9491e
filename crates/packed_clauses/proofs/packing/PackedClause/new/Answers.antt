use Rattle.std.proofs.Common.{subst, sym, ◌≡◌, []}
use Rattle.std.specs.Prelude.{IsTrue, ◌↔◌}
use Rattle.clause_form.specs.declared.clause.Clause.{Clause}
use Rattle.packed_clauses.proofs.Read.{packed_again}
use Rattle.packed_clauses.proofs.packing.PackedClause.new.Goals as goal

pub returns : goal.returns
returns c = packed_again c.args.clause.now _ _ _ _ c.in_ok-bytes.ensures c.in_ok-write_clause.ensures c.as_slice.ensures c.in_ok-from_slice.ensures

pub invariant_of-result : goal.invariant_of-result
invariant_of-result c =
    subst (λ (k : Clause). IsTrue c.is_empty.result ↔ (k.lits ≡ []))
    (sym (packed_again c.args.clause.now _ _ _ _ c.in_ok-bytes.ensures c.in_ok-write_clause.ensures c.as_slice.ensures c.in_ok-from_slice.ensures))
    c.is_empty.ensures
