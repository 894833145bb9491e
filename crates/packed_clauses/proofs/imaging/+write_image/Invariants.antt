use Rattle.std.proofs.Common.{◌≡◌, ◌++◌, take, map}
use Rattle.clause_form.specs.Images.{image}
use Rattle.packed_clauses.specs.Instances.{given}
use Rattle.packed_clauses.specs.code.Spelling.{spelled_terms}
use Rattle.packed_clauses.proofs.imaging.+write_image.Given as goal

abbrev pub invariant-write_images-loop-term : goal.invariant-write_images-loop-term
invariant-write_images-loop-term l = l.bytes ≡ l.fn.bytes ++ spelled_terms (map (image (given l.images)) (take l.term-index l.terms))
