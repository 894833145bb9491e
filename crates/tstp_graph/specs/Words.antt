-- The words by which the TPTP's annotations tell one kind of source from another.
use Rattle.std.specs.Prelude.{ℕ, nat_eq, if◌then◌else◌, Bool, List, codes}
use Rattle.std.specs.Cmp.Lexicographic.{pointwise}
use Rattle.tstp_graph.specs.declared.word.RecordKind.{RecordKind}
use Rattle.tstp_graph.specs.declared.word.RecordKind.TheVariants.{Inference, Introduced, File, Theory, Other}

abbrev pub is_text : List ℕ → List ℕ → Bool
is_text text other = pointwise nat_eq text other

abbrev pub is_unknown : List ℕ → Bool
is_unknown word = is_text word (codes "unknown")

-- what a word with arguments is as a source
unfoldable pub record_kind : List ℕ → RecordKind
record_kind word =
    if is_text word (codes "inference") then Inference else if is_text word (codes "introduced") then Introduced else if is_text word (codes "file") then File else if is_text word (codes "theory") then Theory else Other
