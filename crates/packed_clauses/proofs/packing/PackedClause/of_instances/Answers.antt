use Rattle.std.proofs.Common.{subst, sym, ◌+◌, ◌≡◌, []}
use Rattle.std.specs.Prelude.{IsTrue, ◌↔◌, ◌==◌, length}
use Rattle.std.proofs.lemmas.List.{take_rest}
use Rattle.clause_form.specs.declared.clause.Clause.{Clause}
use Rattle.clause_form.specs.Covers.{lit_image}
use Rattle.packed_clauses.specs.Instances.{given}
use Rattle.packed_clauses.proofs.Imaged.{instances_again, nothing_left}
use Rattle.packed_clauses.proofs.packing.PackedClause.of_instances.Goals as goal

pub returns : goal.returns
returns c =
    instances_again (lit_image (given c.args.images.now)) (lit_image (given c.args.last.now)) c.args.sorts.now c.args.lits.now c.args.rest.now _ c.args.at c.in_ok-bytes.bytes c.write_sorts.new.bytes c.write_instances.new.bytes c.write_instances-2.new.bytes c.write_instances-3.new.bytes _ _
    (take_rest c.args.lits.now (c.args.at + 1)) c.in_ok-bytes.ensures c.in_ok-write_sorts.ensures c.in_ok-write_instances.ensures c.in_ok-write_instances-2.ensures c.in_ok-write_instances-3.ensures c.as_slice.ensures c.in_ok-from_slice.ensures

pub invariant_of-result : goal.invariant_of-result
invariant_of-result c =
    subst (λ (k : Clause). IsTrue (length c.args.lits.now + length c.args.rest.now == 1) ↔ (k.lits ≡ []))
    (sym (instances_again (lit_image (given c.args.images.now)) (lit_image (given c.args.last.now)) c.args.sorts.now c.args.lits.now c.args.rest.now _ c.args.at c.in_ok-bytes.bytes c.write_sorts.new.bytes c.write_instances.new.bytes c.write_instances-2.new.bytes c.write_instances-3.new.bytes _ _
    (take_rest c.args.lits.now (c.args.at + 1)) c.in_ok-bytes.ensures c.in_ok-write_sorts.ensures c.in_ok-write_instances.ensures c.in_ok-write_instances-2.ensures c.in_ok-write_instances-3.ensures c.as_slice.ensures c.in_ok-from_slice.ensures))
    (nothing_left (lit_image (given c.args.images.now)) (lit_image (given c.args.last.now)) c.args.lits.now c.args.rest.now c.args.at c.requires)
