-- What private contracts say, beside the definitions of specs/Graphs.
use Rattle.std.specs.Prelude.{ℕ, ◌≡◌, ◌⊎◌, List, [], Ok, Err, None, Some, slice_get}
use Rattle.tptp_base.specs.declared.item.Annotated.{Annotated}
use Rattle.tptp_base.specs.declared.item.Item.{Item}
use Rattle.tptp_base.specs.declared.item.Item.TheVariants.{Formula}
use Rattle.tstp_graph.specs.declared.shape.Node.{Node}
use Rattle.tstp_graph.specs.declared.shape.Graph.{Graph}
use Rattle.tstp_graph.specs.declared.fault.GraphFault.{GraphFault}
use Rattle.tstp_graph.specs.declared.fault.GraphFault.TheVariants.{Memory}
use Rattle.tstp_graph.specs.Meaning.{Means}
use Rattle.tstp_graph.specs.Order.{IsOrder, is_taken, first_left}
use Rattle.tstp_graph.specs.Graphs.{LeavesOne}
use Rattle.tstp_graph.specs.code.Nodes.{nodes_from}

-- the item is a formula
abbrev pub IsFormula : Item → Type 0
IsFormula item = (formula : Annotated) × (item ≡ Formula formula)

-- a formula stands at this place among the items
abbrev pub IsFormulaAt : List Item → ℕ → Type 0
IsFormulaAt items at = (formula : Annotated) × (slice_get items at ≡ Some (Formula formula))

-- each of the nodes is that of a formula among the items
abbrev pub AreLines : List Item → List Node → Type 0
AreLines items nodes = (number : ℕ) (node : Node) → slice_get nodes number ≡ Some node → IsFormulaAt items node.item

-- where names mean this, the nodes of the graph are those that the code finds, and its order takes them all
pub record IsGraphBy (means : Means) (items : List Item) (graph : Graph) : Type 0 where
  pub nodes : nodes_from means 0 items [] ≡ Ok graph.nodes
  pub order : IsOrder graph.nodes graph.order
  pub all : first_left (is_taken graph.order) 0 graph.nodes ≡ None

-- a line is in a cycle, or waits for one, and this is the first
abbrev pub IsCycle : Means → List Item → GraphFault → Type 0
IsCycle means items fault = (nodes : List Node) × (nodes_from means 0 items [] ≡ Ok nodes) × LeavesOne items nodes fault

-- where names mean this, the fault is the one that the code finds first, or else a cycle
abbrev pub IsFaultBy : Means → List Item → GraphFault → Type 0
IsFaultBy means items fault = (fault ≡ Memory) ⊎ ((nodes_from means 0 items [] ≡ Err fault) ⊎ IsCycle means items fault)
