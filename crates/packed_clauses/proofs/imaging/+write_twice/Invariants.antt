use Rattle.std.proofs.Common.{◌≡◌, ◌++◌, take, map}
use Rattle.clause_form.specs.Images.{image}
use Rattle.packed_clauses.specs.Instances.{given}
use Rattle.packed_clauses.specs.code.Spelling.{spelled_terms}
use Rattle.packed_clauses.proofs.imaging.+write_twice.Given as goal

abbrev pub invariant-write_all_twice-loop-term : goal.invariant-write_all_twice-loop-term
invariant-write_all_twice-loop-term l =
    l.bytes ≡ l.fn.bytes ++ spelled_terms (map (image (given l.last)) (map (image (given l.images)) (take l.term-index l.terms)))
