-- The nodes of a derivation: one for each line, in the order of the text, unless an item is faulty.
use Rattle.std.specs.Prelude.{ℕ, ◌+◌, Bool, false, not, List, [], ◌∷◌, ◌++◌, Option, None, Some, Result, Ok, Err}
use Rattle.std.specs.Prelude.{if◌then◌else◌}
use Rattle.std.specs.List.{list_any}
use Rattle.tptp_base.specs.declared.name.Name.{Name}
use Rattle.tptp_base.specs.declared.item.Annotated.{Annotated}
use Rattle.tptp_base.specs.declared.item.Item.{Item}
use Rattle.tstp_graph.specs.declared.shape.Ref.{Ref}
use Rattle.tstp_graph.specs.declared.shape.Node.{Node}
use Rattle.tstp_graph.specs.declared.fault.GraphFault.{GraphFault}
use Rattle.tstp_graph.specs.declared.fault.GraphFault.TheVariants.{UnknownParent, DuplicateLine, BadSource, Include}
use Rattle.tptp_base.specs.Roles.{is_typing}
use Rattle.tstp_graph.specs.Meaning.{Means, parents, first_unknown, is_some_ref}
use Rattle.tstp_graph.specs.Sources.{Source, source_of}
use Rattle.tstp_graph.specs.Tables.{same_name}
use Rattle.tptp_base.specs.declared.item.Item.TheVariants as item

-- the node of a step or a leaf with these parents, which stands at this place among the items
abbrev pub node_of : ℕ → Bool → List Ref → Node
node_of at is_step refs = record { item = at; leaf = not is_step; cited = if is_step then false else is_some_ref refs; parents = refs }

-- the node, unless a parent means nothing
abbrev pub known_line : Annotated → Option Name → Node → Result Node GraphFault
known_line line None node = Ok node
known_line line (Some unknown) node = Err (UnknownParent line.place line.name unknown)

-- the node of a line that is read so, unless its source is malformed, or is that of a step and a parent means nothing
abbrev pub read_line : Means → ℕ → Annotated → Option Source → Result Node GraphFault
read_line means at line None = Err (BadSource line.place line.name)
read_line means at line (Some source) =
    known_line line (if source.is_step then first_unknown means source.gives else None) (node_of at source.is_step (parents means source.gives))

-- the node of a line behind lines of these names, unless one of them has its name
abbrev pub line_answer : Means → List Name → ℕ → Annotated → Result Node GraphFault
line_answer means earlier at line =
    if list_any (λ name. same_name name line.name) earlier then Err (DuplicateLine line.place line.name)
    else read_line means at line (source_of line.source)

-- a node before others; the first fault stands for them all
abbrev pub before : Result Node GraphFault → Result (List Node) GraphFault → Result (List Node) GraphFault
before (Err fault) rest = Err fault
before (Ok node) (Err fault) = Err fault
before (Ok node) (Ok nodes) = Ok (node ∷ nodes)

-- The nodes of the lines among further items, behind lines of these names and so many items, or the fault of the first
-- that is faulty. A comment and a type line make no node, and an include is no part of a derivation.
abbrev pub nodes_from : Means → List Name → ℕ → List Item → Result (List Node) GraphFault
nodes_from means earlier at [] = Ok []
nodes_from means earlier at (item.Comment text ∷ items) = nodes_from means earlier (at + 1) items
nodes_from means earlier at (item.Include include ∷ items) = Err (Include include.place)
nodes_from means earlier at (item.Formula line ∷ items) =
    if is_typing line.role then nodes_from means earlier (at + 1) items
    else before (line_answer means earlier at line) (nodes_from means (earlier ++ line.name ∷ []) (at + 1) items)

-- the nodes of a derivation, or the fault of its first faulty item
abbrev pub nodes_of : Means → List Item → Result (List Node) GraphFault
nodes_of means items = nodes_from means [] 0 items
