-- The graph of a derivation, by its parts.
use Rattle.std.proofs.Common.{◌≡◌, ◌⊎◌, inl, inr, ℕ, zero, suc, ◌<◌, List, [], ◌∷◌, length, slice_get, Option, None, Some, Result, Ok, Err, IfOk, IfErr, refl, sym, ◌∙◌, ap, subst, arith}
use Rattle.tptp_base.specs.declared.name.Name.{Name}
use Rattle.tptp_base.specs.declared.item.Annotated.{Annotated}
use Rattle.tptp_base.specs.declared.item.Item.{Item}
use Rattle.tptp_base.specs.declared.item.Item.TheVariants as item
use Rattle.tstp_graph.specs.declared.shape.Node.{Node}
use Rattle.tstp_graph.specs.declared.shape.Graph.{Graph}
use Rattle.tstp_graph.specs.declared.fault.GraphFault.{GraphFault}
use Rattle.tstp_graph.specs.declared.fault.GraphFault.TheVariants.{Memory, Cycle}
use Rattle.tstp_graph.specs.Lines.{IsOverLimit}
use Rattle.tstp_graph.specs.Meaning.{Means, means_of}
use Rattle.tstp_graph.specs.code.Nodes.{nodes_from}
use Rattle.tstp_graph.specs.Order.{IsOrder, is_taken, first_left}
use Rattle.tstp_graph.specs.code.Graphs.{AreLines, IsFormula, IsFormulaAt, IsGraphBy, IsFaultBy}
use Rattle.tstp_graph.specs.Graphs.{IsOrdered, IsGraph, IsCycleIn, IsCycleOf, IsCycleAt, LeavesOne, IsFault}
use Rattle.tstp_graph.specs.Graphs as plain
use Rattle.tstp_graph.proofs.SameNodes.{same_nodes}

pub whole_graph : (means : Means) (items : List Item) (nodes : List Node) (r : Result Graph GraphFault) → nodes_from means 0 items [] ≡ Ok nodes → IfOk r (IsOrdered nodes) → IfOk r (IsGraphBy means items)
whole_graph means items nodes (Ok graph) is ordered = record {
  nodes = is ∙ ap Ok (sym ordered.same);
  order = subst (λ (ns : List Node). IsOrder ns graph.order) (sym ordered.same) ordered.order;
  all = ap (first_left (is_taken graph.order) 0) ordered.same ∙ ordered.all;
}
whole_graph means items nodes (Err fault) is ordered = tt

pub whole_cycle : (means : Means) (items : List Item) (nodes : List Node) (r : Result Graph GraphFault) → nodes_from means 0 items [] ≡ Ok nodes → IfErr r (λ fault. (fault ≡ Memory) ⊎ LeavesOne items nodes fault) → IfErr r (IsFaultBy means items)
whole_cycle means items nodes (Ok graph) is leaves = tt
whole_cycle means items nodes (Err fault) is (inl memory) = inl memory
whole_cycle means items nodes (Err fault) is (inr leaves) = inr (inr (nodes, is, leaves))

pub item_fault : (means : Means) (items : List Item) (fault : GraphFault) → (fault ≡ Memory) ⊎ (nodes_from means 0 items [] ≡ Err fault) → IsFaultBy means items fault
item_fault means items fault (inl memory) = inl memory
item_fault means items fault (inr is) = inr (inl is)

-- the nodes that the code finds are those of the derivation
plain_graph : (items : List Item) (given : List Name) (graph : Graph) → IsGraphBy (means_of items given) items graph → plain.IsGraphBy (means_of items given) items graph
plain_graph items given graph is = record { nodes = sym (same_nodes items given) ∙ is.nodes; order = is.order; all = is.all }

plain_fault : (items : List Item) (given : List Name) (fault : GraphFault) → IsFaultBy (means_of items given) items fault → plain.IsFaultBy (means_of items given) items fault
plain_fault items given fault (inl memory) = inl memory
plain_fault items given fault (inr (inl is)) = inr (inl (sym (same_nodes items given) ∙ is))
plain_fault items given fault (inr (inr (nodes, is, leaves))) = inr (inr (nodes, sym (same_nodes items given) ∙ is, leaves))

pub known_graph : (items : List Item) (given : List Name) (means : Means) (r : Result Graph GraphFault) → (IsOverLimit items → ⊥) → means ≡ means_of items given → IfOk r (IsGraphBy means items) → IfOk r (IsGraph items given)
known_graph items given means (Ok graph) few same is = record { few = few; is_graph = plain_graph items given graph (subst (λ (m : Means). IsGraphBy m items graph) same is) }
known_graph items given means (Err fault) few same is = tt

pub known_fault : (items : List Item) (given : List Name) (means : Means) (r : Result Graph GraphFault) → (IsOverLimit items → ⊥) → means ≡ means_of items given → IfErr r (IsFaultBy means items) → IfErr r (IsFault items given)
known_fault items given means (Ok graph) few same is = tt
known_fault items given means (Err fault) few same is = inr (few, plain_fault items given fault (subst (λ (m : Means). IsFaultBy m items fault) same is))

pub wanting : (items : List Item) (given : List Name) → (IsOverLimit items → ⊥) → IsFault items given Memory
wanting items given few = inr (few, inl refl)

pub leaves : (items : List Item) (nodes : List Node) (order : List ℕ) (left : Option ℕ) (number : ℕ) (fault : GraphFault) → IsOrder nodes order → left ≡ first_left (is_taken order) 0 nodes → left ≡ Some number → (fault ≡ Memory) ⊎ IsCycleAt items nodes number fault → (fault ≡ Memory) ⊎ LeavesOne items nodes fault
leaves items nodes order left number fault is is_left some (inl memory) = inl memory
leaves items nodes order left number fault is is_left some (inr cycle) = inr (record { order = order; number = number; is_order = is; is_left = sym is_left ∙ some; is_cycle = cycle })

pub formula_of_line : (items : List Item) (nodes : List Node) (number : ℕ) (node : Node) → AreLines items nodes → Some node ≡ slice_get nodes number → IsFormulaAt items node.item
formula_of_line items nodes number node are at = are number node (sym at)

pub is_formula_at : (items : List Item) (at : ℕ) (here : Item) → IsFormulaAt items at → Some here ≡ slice_get items at → IsFormula here
is_formula_at items at here (formula, is) same = (formula, cc)

pub cycle_node : (items : List Item) (nodes : List Node) (number : ℕ) (node : Node) (fault : GraphFault) → Some node ≡ slice_get nodes number → (fault ≡ Memory) ⊎ IsCycleOf items node.item fault → (fault ≡ Memory) ⊎ IsCycleAt items nodes number fault
cycle_node items nodes number node fault at (inl memory) = inl memory
cycle_node items nodes number node fault at (inr cycle) = inr (node, sym at, cycle)

pub cycle_item : (items : List Item) (at : ℕ) (here : Item) (fault : GraphFault) → Some here ≡ slice_get items at → (fault ≡ Memory) ⊎ IsCycleIn here fault → (fault ≡ Memory) ⊎ IsCycleOf items at fault
cycle_item items at here fault is (inl memory) = inl memory
cycle_item items at here fault is (inr cycle) = inr (here, sym is, cycle)

pub cycle_formula : (here : Item) (formula got : Annotated) (fault : GraphFault) → here ≡ item.Formula formula → got ≡ formula → (fault ≡ Memory) ⊎ (fault ≡ Cycle got.place got.name) → (fault ≡ Memory) ⊎ IsCycleIn here fault
cycle_formula here formula got fault is same (inl memory) = inl memory
cycle_formula here formula got fault is same (inr cycle) = inr (formula, is, cycle ∙ ap (λ (f : Annotated). Cycle f.place f.name) same)

pub in_nodes : (nodes : List Node) (number : ℕ) → number < length nodes → None ≡ slice_get nodes number → ⊥
in_nodes [] number lt none = omega (arith, lt)
in_nodes (node ∷ nodes) zero lt none = cc
in_nodes (node ∷ nodes) (suc number) lt none = in_nodes nodes number (omega (arith, lt)) none

pub no_item : (items : List Item) (at : ℕ) → IsFormulaAt items at → None ≡ slice_get items at → ⊥
no_item items at (formula, is) none = cc
