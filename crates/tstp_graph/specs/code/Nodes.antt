-- The nodes of a derivation, and the first item at which it is faulty, as the code finds them. Nothing public rests on
-- this: specs/Nodes says it plainly.
use Rattle.std.specs.Prelude.{ℕ, ◌≡◌, ◌+◌, ◌==◌, Bool, false, List, [], ◌∷◌, ◌++◌, length, Option, None, Some, Result}
use Rattle.std.specs.Prelude.{Ok, Err, if◌then◌else◌}
use Rattle.tptp_base.specs.declared.name.Name.{Name}
use Rattle.tptp_base.specs.declared.item.Annotated.{Annotated}
use Rattle.tptp_base.specs.declared.item.Item.{Item}
use Rattle.tstp_graph.specs.declared.shape.Ref.{Ref}
use Rattle.tstp_graph.specs.declared.shape.Node.{Node}
use Rattle.tstp_graph.specs.declared.cite.Reading.{Reading}
use Rattle.tstp_graph.specs.declared.fault.GraphFault.{GraphFault}
use Rattle.tstp_graph.specs.declared.fault.GraphFault.TheVariants.{UnknownParent, DuplicateLine, BadSource, Include}
use Rattle.tptp_base.specs.Roles.{is_typing}
use Rattle.tstp_graph.specs.Meaning.{Means}
use Rattle.tstp_graph.specs.code.Meaning.{resolved}
use Rattle.tstp_graph.specs.Nodes.{node_of}
use Rattle.tstp_graph.specs.code.Sources.{source_of}
use Rattle.tptp_base.specs.declared.item.Item.TheVariants as item

-- the first of these places is this one
abbrev pub is_first : List ℕ → ℕ → Bool
is_first [] number = false
is_first (place ∷ places) number = place == number

-- a line whose parents are resolved, or the parent that means nothing
abbrev pub resolved_line : ℕ → Annotated → Bool → Result (List Ref) Name → Result (Option Node) GraphFault
resolved_line at formula is_step (Ok refs) = Ok (Some (node_of at is_step refs))
resolved_line at formula is_step (Err parent) = Err (UnknownParent formula.place formula.name parent)

-- a line whose source is read so
abbrev pub read_line : Means → ℕ → Annotated → Reading → Result (Option Node) GraphFault
read_line means at formula source =
    if source.is_good then resolved_line at formula source.is_step (resolved source.is_step means [] source.gives) else Err (BadSource formula.place formula.name)

-- the line of this number
abbrev pub line_answer : Means → ℕ → ℕ → Annotated → Result (Option Node) GraphFault
line_answer means at number formula =
    if is_first (means.lines formula.name) number then read_line means at formula (source_of formula.source) else Err (DuplicateLine formula.place formula.name)

-- An item, behind so many items and lines: an include is no part of a derivation, and a comment or a type line makes no
-- node.
abbrev pub item_answer : Means → ℕ → ℕ → Item → Result (Option Node) GraphFault
item_answer means at number (item.Comment text) = Ok None
item_answer means at number (item.Include include) = Err (Include include.place)
item_answer means at number (item.Formula formula) = if is_typing formula.role then Ok None else line_answer means at number formula

-- an item's fault, or the nodes with its own if it has one, as they go on
abbrev pub go_on : Result (Option Node) GraphFault → (List Node → Result (List Node) GraphFault) → List Node → Result (List Node) GraphFault
go_on (Err fault) rest nodes = Err fault
go_on (Ok None) rest nodes = rest nodes
go_on (Ok (Some node)) rest nodes = rest (nodes ++ node ∷ [])

-- The nodes so far with those of further items, behind so many items, or the first fault of these.
abbrev pub nodes_from : Means → ℕ → List Item → List Node → Result (List Node) GraphFault
nodes_from means at [] nodes = Ok nodes
nodes_from means at (item ∷ items) nodes = go_on (item_answer means at (length nodes) item) (nodes_from means (at + 1) items) nodes

-- the second nodes are the first with that of an item, if it has one, and the item has no fault
abbrev pub IsStep : Result (Option Node) GraphFault → List Node → List Node → Type 0
IsStep answer old new = (rest : List Node → Result (List Node) GraphFault) → go_on answer rest old ≡ rest new
