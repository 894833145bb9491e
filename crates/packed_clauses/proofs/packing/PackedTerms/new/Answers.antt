use Rattle.std.proofs.Common.{ap, ◌∙◌, List, ℕ, ◌++◌}
use Rattle.packed_clauses.specs.Reading.{terms_read}
use Rattle.packed_clauses.specs.code.Spelling.{spelled_terms}
use Rattle.packed_clauses.proofs.Read.{terms_are_again}
use Rattle.packed_clauses.proofs.packing.PackedTerms.new.Goals as goal

pub returns : goal.returns
returns c =
    ap terms_read (c.in_ok-from_slice.ensures ∙ c.as_slice.ensures ∙ c.in_ok-write_terms.ensures ∙ ap (λ (xs : List ℕ). xs ++ spelled_terms c.args.terms.now) c.in_ok-bytes.ensures)
    ∙ terms_are_again c.args.terms.now
