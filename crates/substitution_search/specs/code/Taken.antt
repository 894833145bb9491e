-- What private contracts say, beside the definitions of specs/Taken.
use Rattle.std.specs.Prelude.{reverse}
use Rattle.substitution_search.specs.declared.taking.Taking.{Taking as Under}
use Rattle.substitution_search.specs.CoverSearch.{Taking}

-- the choices to come stand in a list whose last is next
abbrev pub state_of : Under → Taking
state_of w = record { choices = reverse w.choices; sorts = w.sorts; lits = w.lits }
