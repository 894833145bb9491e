-- Sets of parents, as contracts see them.
use Rattle.std.specs.Prelude.{◌≡◌, nat_eq, Bool, true, List, if◌then◌else◌}
use Rattle.std.specs.List.{list_any}
use Rattle.indexmap.specs.IndexSet.{contains}
use Rattle.tstp_graph.specs.declared.shape.Ref.{Ref}
use Rattle.tstp_graph.specs.declared.shape.Ref.TheVariants.{Line, Given}
use Rattle.tstp_graph.specs.declared.refs.Marks.{Marks}
use Rattle.tstp_graph.specs.Meaning.{same_ref}

-- the parent is noted
abbrev pub noted : Marks → Ref → Bool
noted marks (Line number) = contains nat_eq marks.lines number
noted marks (Given number) = contains nat_eq marks.given number

-- the second marks are the first with this parent
abbrev pub Notes : Marks → Ref → Marks → Type 0
Notes old ref new = (other : Ref) → noted new other ≡ (if same_ref ref other then true else noted old other)

-- these parents are noted, and no others
abbrev pub AreMembers : Marks → List Ref → Type 0
AreMembers marks refs = (other : Ref) → noted marks other ≡ list_any (same_ref other) refs
