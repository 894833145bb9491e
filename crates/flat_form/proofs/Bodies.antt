-- The bodies that are pulled out of several formulas, over the variables of all of them.
use Rattle.std.specs.Prelude.{ℕ, ◌+◌, List, [], ◌∷◌, length}
use Rattle.fof_terms.specs.declared.form.Form.{Form}
use Rattle.flat_form.specs.Flat.{Pulled}
use Rattle.flat_form.specs.Renumbered.{renumbered}
use Rattle.flat_form.specs.code.Numbers.{placed}

-- each body over `total` variables, the first one's own being those from `start` on
abbrev pub placed_bodies : List ℕ → ℕ → ℕ → List Pulled → List Form
placed_bodies places total start [] = []
placed_bodies places total start (p ∷ ps) = renumbered (placed places total start (length p.sorts)) 0 p.body ∷ placed_bodies places total (start + length p.sorts) ps
