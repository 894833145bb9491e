-- What private contracts say, beside the definitions of specs/Made.
use Rattle.std.specs.Prelude.{ℕ, List}
use Rattle.tptp_commands.specs.declared.made.Part.{Part}
use Rattle.tptp_commands.specs.declared.made.Part.TheVariants.{Implication, Leaf, Step}
use Rattle.tptp_commands.specs.Made.{implication, leaf, step}

-- the line of the part with this number
abbrev pub line_of : Part → ℕ → List ℕ
line_of Implication = implication
line_of Leaf = leaf
line_of Step = step
