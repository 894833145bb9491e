-- A text with its line feed.
use Rattle.std.specs.Prelude.{ℕ, List, [], ◌∷◌, ◌++◌}

abbrev pub text_line : List ℕ → List ℕ
text_line text = text ++ 10 ∷ []
