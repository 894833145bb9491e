-- What the names in a source mean: a line of the derivation, or given formulas, as derivations in the TPTP's language
-- refer to them.
use Rattle.std.specs.Prelude.{ℕ, ◌==◌, ◌||◌, Bool, true, false, List, [], ◌∷◌, ◌++◌, map, Option, None, Some}
use Rattle.std.specs.Prelude.{if◌then◌else◌}
use Rattle.std.specs.List.{flat_map, list_any}
use Rattle.tptp_base.specs.declared.name.Name.{Name}
use Rattle.tptp_base.specs.declared.item.Item.{Item}
use Rattle.tstp_graph.specs.declared.shape.Ref.{Ref}
use Rattle.tstp_graph.specs.declared.shape.Ref.TheVariants.{Line, Given}
use Rattle.tstp_graph.specs.declared.cite.Cite.{Cite}
use Rattle.tstp_graph.specs.declared.cite.Cite.TheVariants.{Named, Filed}
use Rattle.tstp_graph.specs.Tables.{places}
use Rattle.tstp_graph.specs.Lines.{names_in}

-- Where each name stands among the lines, among the type lines, and among the given formulas.
pub record Means : Type 0 where
  pub lines : Name → List ℕ
  pub types : Name → List ℕ
  pub given : Name → List ℕ

-- what names mean in a derivation
abbrev pub means_of : List Item → List Name → Means
means_of items given = record { lines = places (names_in false items); types = places (names_in true items); given = places given }

abbrev pub is_some_place : List ℕ → Bool
is_some_place [] = false
is_some_place (place ∷ places) = true

-- the line of the first place, or else all the given formulas
abbrev pub line_or_given : List ℕ → List ℕ → List Ref
line_or_given [] given = map Given given
line_or_given (line ∷ lines) given = Line line ∷ []

-- what is named: a type line gives nothing
abbrev pub named_refs : List ℕ → List ℕ → List ℕ → List Ref
named_refs [] lines given = line_or_given lines given
named_refs (type_line ∷ types) lines given = []

-- what a parent means
abbrev pub meaning : Means → Cite → List Ref
meaning means (Named name) = named_refs (means.types name) (means.lines name) (means.given name)
meaning means (Filed name) = map Given (means.given name)

-- it means something, or is a type line
abbrev pub is_known : Means → Cite → Bool
is_known means (Named name) = is_some_place (means.types name) || (is_some_place (means.lines name) || is_some_place (means.given name))
is_known means (Filed name) = is_some_place (means.given name)

abbrev pub cite_name : Cite → Name
cite_name (Named name) = name
cite_name (Filed name) = name

abbrev pub same_ref : Ref → Ref → Bool
same_ref (Line a) (Line b) = a == b
same_ref (Line a) (Given b) = false
same_ref (Given a) (Line b) = false
same_ref (Given a) (Given b) = a == b

-- one more, unless it is there
abbrev pub with_ref : List Ref → Ref → List Ref
with_ref refs ref = if list_any (same_ref ref) refs then refs else refs ++ ref ∷ []

-- each in turn, unless it is there
abbrev pub with_refs : List Ref → List Ref → List Ref
with_refs refs [] = refs
with_refs refs (ref ∷ more) = with_refs (with_ref refs ref) more

-- what parents mean, each once in the order in which they appear
abbrev pub parents : Means → List Cite → List Ref
parents means cites = with_refs [] (flat_map (meaning means) cites)

-- the name of the first parent that means nothing
abbrev pub first_unknown : Means → List Cite → Option Name
first_unknown means [] = None
first_unknown means (cite ∷ cites) = if is_known means cite then first_unknown means cites else Some (cite_name cite)

abbrev pub is_some_ref : List Ref → Bool
is_some_ref [] = false
is_some_ref (ref ∷ refs) = true
