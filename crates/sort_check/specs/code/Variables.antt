-- The variables of a clause as the code notes them, 250 at most. Nothing public rests on this: specs/Denotation says it
-- plainly.
use Rattle.std.specs.Prelude.{◌==◌, ◌++◌, ◌||◌, if◌then◌else◌, List, [], ◌∷◌, length, map}
use Rattle.std.specs.List.{list_any}
use Rattle.std.specs.Str.{bytes_eq}
use Rattle.tptp_base.specs.declared.surface.STerm.{STerm}
use Rattle.tptp_base.specs.declared.surface.STerm.TheFolds.{fold-STerm}
use Rattle.tptp_base.specs.declared.surface.Surface.{Surface}
use Rattle.tptp_base.specs.declared.surface.Surface.TheFolds.{fold-Surface}
use Rattle.sort_check.specs.declared.scope.Variable.{Variable}
use Rattle.sort_check.specs.Symbols.{Text}
use Rattle.tptp_base.specs.declared.surface.STerm.TheOpen as st
use Rattle.tptp_base.specs.declared.surface.Surface.TheOpen as sf

-- the variable is noted unless it is there, or 250 are
abbrev pub noted : Text → List Variable → List Variable
noted name found = if list_any (λ x. bytes_eq x.name name) found || (length found == 250) then found else found ++ record { name = name; sort = 0 } ∷ []

abbrev pub in_turn : List (List Variable → List Variable) → List Variable → List Variable
in_turn [] found = found
in_turn (f ∷ fs) found = in_turn fs (f found)

abbrev pub variables_step : st.STerm-F (List Variable → List Variable) → List Variable → List Variable
variables_step (st.Var name) found = noted name found
variables_step (st.App name args) found = in_turn args found

unfoldable pub variables_of_term : STerm → List Variable → List Variable
variables_of_term = fold-STerm (List Variable → List Variable) variables_step

abbrev pub form_variables_step : sf.Surface-F (List Variable → List Variable) → List Variable → List Variable
form_variables_step sf.True found = found
form_variables_step sf.False found = found
form_variables_step (sf.Atom name args) found = in_turn (map variables_of_term args) found
form_variables_step (sf.Eq l r) found = variables_of_term r (variables_of_term l found)
form_variables_step (sf.Neq l r) found = variables_of_term r (variables_of_term l found)
form_variables_step (sf.Not a) found = a found
form_variables_step (sf.And as_) found = in_turn as_ found
form_variables_step (sf.Or as_) found = in_turn as_ found
form_variables_step (sf.Binary op a b) found = b (a found)
form_variables_step (sf.Bind quant xs a) found = a found

unfoldable pub variables_of : Surface → List Variable → List Variable
variables_of = fold-Surface (List Variable → List Variable) form_variables_step
