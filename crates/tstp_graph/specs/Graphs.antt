-- The graph of a derivation, and why items have none: the answer is determined by the items and the names of the given
-- formulas.
use Rattle.std.specs.Prelude.{ℕ, ◌≡◌, ◌⊎◌, List, None, Some, Ok, Err, slice_get}
use Rattle.tptp_base.specs.declared.name.Name.{Name}
use Rattle.tptp_base.specs.declared.limit.LimitName.TheVariants.{Lines}
use Rattle.tptp_base.specs.declared.item.Annotated.{Annotated}
use Rattle.tptp_base.specs.declared.item.Item.{Item}
use Rattle.tptp_base.specs.declared.item.Item.TheVariants.{Formula}
use Rattle.tstp_graph.specs.declared.shape.Node.{Node}
use Rattle.tstp_graph.specs.declared.shape.Graph.{Graph}
use Rattle.tstp_graph.specs.declared.fault.GraphFault.{GraphFault}
use Rattle.tstp_graph.specs.declared.fault.GraphFault.TheVariants.{Cycle, Limit, Memory}
use Rattle.tstp_graph.specs.Lines.{IsOverLimit}
use Rattle.tstp_graph.specs.Meaning.{Means, means_of}
use Rattle.tstp_graph.specs.Nodes.{nodes_of}
use Rattle.tstp_graph.specs.Order.{IsOrder, is_taken, first_left}

-- The graph has these nodes, and its order takes them all.
pub record IsOrdered (nodes : List Node) (graph : Graph) : Type 0 where
  pub same : graph.nodes ≡ nodes
  pub order : IsOrder nodes graph.order
  pub all : first_left (is_taken graph.order) 0 nodes ≡ None

-- the fault says that this formula is in a cycle
abbrev pub IsCycleIn : Item → GraphFault → Type 0
IsCycleIn item fault = (formula : Annotated) × (item ≡ Formula formula) × (fault ≡ Cycle formula.place formula.name)

-- the fault says so of the formula at this place among the items
abbrev pub IsCycleOf : List Item → ℕ → GraphFault → Type 0
IsCycleOf items at fault = (item : Item) × (slice_get items at ≡ Some item) × IsCycleIn item fault

-- the fault says so of the line of this number
abbrev pub IsCycleAt : List Item → List Node → ℕ → GraphFault → Type 0
IsCycleAt items nodes number fault = (node : Node) × (slice_get nodes number ≡ Some node) × IsCycleOf items node.item fault

-- The order does not take all nodes, and the fault is at the first that is left.
pub record LeavesOne (items : List Item) (nodes : List Node) (fault : GraphFault) : Type 0 where
  pub order : List ℕ
  pub number : ℕ
  pub is_order : IsOrder nodes order
  pub is_left : first_left (is_taken order) 0 nodes ≡ Some number
  pub is_cycle : IsCycleAt items nodes number fault

-- Where names mean this, the nodes of the graph are those of the lines, and its order takes them all.
pub record IsGraphBy (means : Means) (items : List Item) (graph : Graph) : Type 0 where
  pub nodes : nodes_of means items ≡ Ok graph.nodes
  pub order : IsOrder graph.nodes graph.order
  pub all : first_left (is_taken graph.order) 0 graph.nodes ≡ None

-- The graph of a derivation.
pub record IsGraph (items : List Item) (given : List Name) (graph : Graph) : Type 0 where
  pub few : IsOverLimit items → ⊥
  pub is_graph : IsGraphBy (means_of items given) items graph

-- a line is in a cycle, or waits for one, and this is the first
abbrev pub IsCycle : Means → List Item → GraphFault → Type 0
IsCycle means items fault = (nodes : List Node) × (nodes_of means items ≡ Ok nodes) × LeavesOne items nodes fault

-- where names mean this, the fault is that of the first faulty item, or else a cycle
abbrev pub IsFaultBy : Means → List Item → GraphFault → Type 0
IsFaultBy means items fault = (fault ≡ Memory) ⊎ ((nodes_of means items ≡ Err fault) ⊎ IsCycle means items fault)

-- Why items have no graph: there are too many formulas; or else an item has a fault, the first; or else there is a
-- cycle. Want of memory is never ruled out.
abbrev pub IsFault : List Item → List Name → GraphFault → Type 0
IsFault items given fault = (IsOverLimit items × (fault ≡ Limit Lines)) ⊎ ((IsOverLimit items → ⊥) × IsFaultBy (means_of items given) items fault)
