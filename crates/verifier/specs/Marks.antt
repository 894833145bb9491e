-- What lines cite, and which of the given formulas that they cite are marked.
use Rattle.std.specs.Prelude.{ℕ, Bool, false, List, [], slice_get, unwrap_or}
use Rattle.std.specs.List.{list_any}
use Rattle.tstp_graph.specs.declared.shape.Ref.{Ref}
use Rattle.verifier.specs.declared.answer.LineAnswer.{LineAnswer}
use Rattle.verifier.specs.declared.answer.LineAnswer.TheVariants.{Accepted, Unverified, Skipped}
use Rattle.tstp_graph.specs.declared.shape.Ref.TheVariants as ref

-- the numbers of the formulas that a line cites: a step its parents, a leaf the candidate from which it follows
abbrev pub cites_of : LineAnswer → List ℕ
cites_of (Accepted rule cites) = cites
cites_of (Unverified reason) = []
cites_of Skipped = []

-- the given formula of this number is marked
abbrev pub is_marked : List Bool → ℕ → Bool
is_marked marks number = unwrap_or (slice_get marks number) false

-- one of these numbers is marked
abbrev pub some_marked : List Bool → List ℕ → Bool
some_marked marks numbers = list_any (is_marked marks) numbers

-- the line cites a given formula that is marked
abbrev pub answer_cites_marked : List Bool → LineAnswer → Bool
answer_cites_marked marks answer = some_marked marks (cites_of answer)

-- some line cites a given formula that is marked
abbrev pub cites_marked : List Bool → List LineAnswer → Bool
cites_marked marks answers = list_any (answer_cites_marked marks) answers

-- the given formula is marked; a line is not
abbrev pub is_marked_ref : List Bool → Ref → Bool
is_marked_ref marks (ref.Given place) = is_marked marks place
is_marked_ref marks (ref.Line place) = false

-- one of these given formulas and lines is marked
abbrev pub some_marked_ref : List Bool → List Ref → Bool
some_marked_ref marks refs = list_any (is_marked_ref marks) refs
