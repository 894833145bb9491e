use Rattle.std.proofs.Common.{ap, ◌∙◌, List, ℕ, ◌++◌, map}
use Rattle.clause_form.specs.Images.{image}
use Rattle.packed_clauses.specs.Instances.{given}
use Rattle.packed_clauses.specs.Reading.{terms_read}
use Rattle.packed_clauses.specs.code.Spelling.{spelled_terms}
use Rattle.packed_clauses.proofs.Read.{terms_are_again}
use Rattle.packed_clauses.proofs.packing.PackedTerms.of_images.Goals as goal

pub returns : goal.returns
returns c =
    let terms = map (image (given c.args.images.now)) c.args.terms.now in
    ap terms_read (c.in_ok-from_slice.ensures ∙ c.as_slice.ensures ∙ c.in_ok-write_images.ensures ∙ ap (λ (xs : List ℕ). xs ++ spelled_terms terms) c.in_ok-bytes.ensures)
    ∙ terms_are_again terms
