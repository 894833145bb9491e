-- Lines that are answered by rules alone: a rule gives them, or they are skipped, or they are leaves that name no given
-- formula. For another line that is left open, one answer may have found the functions that another has not, and of two
-- searches for a line that is decided one may have found a refutation.
use Rattle.std.specs.Prelude.{⊤, ℕ, ◌≡◌, List, Some, slice_get}
use Rattle.elaborate.specs.declared.answer.Rule.TheVariants.{Search, Sat}
use Rattle.elaborate.specs.declared.answer.Reason.TheVariants.{Dry, Full, Heavy, Wide, Leaf}
use Rattle.verifier.specs.declared.answer.LineAnswer.{LineAnswer}
use Rattle.verifier.specs.declared.answer.LineAnswer.TheVariants.{Accepted, Unverified, Skipped}

abbrev pub IsUnsearched : LineAnswer → Type 0
IsUnsearched (Accepted rule cites) = (rule ≡ Search → ⊥) × (rule ≡ Sat → ⊥)
IsUnsearched (Unverified Dry) = ⊥
IsUnsearched (Unverified Full) = ⊥
IsUnsearched (Unverified Heavy) = ⊥
IsUnsearched (Unverified Wide) = ⊥
IsUnsearched (Unverified Leaf) = ⊤
IsUnsearched Skipped = ⊤

-- all the lines are such
abbrev pub AreUnsearched : List LineAnswer → Type 0
AreUnsearched answers = (place : ℕ) (answer : LineAnswer) → slice_get answers place ≡ Some answer → IsUnsearched answer
