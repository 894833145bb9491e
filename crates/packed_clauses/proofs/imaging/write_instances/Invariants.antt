use Rattle.std.proofs.Common.{◌≡◌, ◌++◌, take, map}
use Rattle.clause_form.specs.Covers.{lit_image}
use Rattle.packed_clauses.specs.Instances.{given}
use Rattle.packed_clauses.specs.code.Spelling.{spelled_lits}
use Rattle.packed_clauses.proofs.imaging.write_instances.Given as goal

abbrev pub invariant-loop-lit : goal.invariant-loop-lit
invariant-loop-lit l =
    l.bytes ≡ l.fn.bytes ++ spelled_lits (map (lit_image (given l.last)) (map (lit_image (given l.images)) (take l.lit-index l.lits)))
