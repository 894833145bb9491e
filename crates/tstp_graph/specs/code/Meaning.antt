-- What private contracts say, beside the definitions of specs/Meaning.
use Rattle.std.specs.Prelude.{◌&&◌, Bool, not, List, [], ◌∷◌, Result, Ok, Err, if◌then◌else◌}
use Rattle.tptp_base.specs.declared.name.Name.{Name}
use Rattle.tstp_graph.specs.declared.shape.Ref.{Ref}
use Rattle.tstp_graph.specs.declared.cite.Cite.{Cite}
use Rattle.tstp_graph.specs.declared.scope.Scope.{Scope}
use Rattle.tstp_graph.specs.code.Tables.{found}
use Rattle.tstp_graph.specs.Meaning.{Means, meaning, is_known, cite_name, with_refs}

-- what names mean by tables
abbrev pub means_in : Scope → Means
means_in scope = record { lines = found scope.lines; types = found scope.types; given = found scope.given }

-- The refs so far with what further parents mean, each once in the order in which they appear; or the name of the
-- first that means nothing, where each must mean something.
abbrev pub resolved : Bool → Means → List Ref → List Cite → Result (List Ref) Name
resolved is_strict means refs [] = Ok refs
resolved is_strict means refs (cite ∷ cites) =
    if is_strict && not (is_known means cite) then Err (cite_name cite) else resolved is_strict means (with_refs refs (meaning means cite)) cites
