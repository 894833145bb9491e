-- Items have one graph, or one first fault.
use Rattle.std.proofs.Common.{◌≡◌, ◌⊎◌, inl, inr, ℕ, List, [], ◌∷◌, ◌++◌, slice_get, Option, None, Some, Result, Ok, Err, refl, sym, ◌∙◌, ap, subst, append_assoc}
use Rattle.std.proofs.lemmas.List.{append-nil}
use Rattle.tptp_base.specs.declared.name.Name.{Name}
use Rattle.tptp_base.specs.declared.item.Annotated.{Annotated}
use Rattle.tptp_base.specs.declared.item.Item.{Item}
use Rattle.tptp_base.specs.declared.item.Item.TheVariants as item
use Rattle.tstp_graph.specs.declared.shape.Node.{Node}
use Rattle.tstp_graph.specs.declared.shape.Graph.{Graph}
use Rattle.tstp_graph.specs.declared.fault.GraphFault.{GraphFault}
use Rattle.tstp_graph.specs.declared.fault.GraphFault.TheVariants.{Memory, Cycle}
use Rattle.tstp_graph.specs.Meaning.{Means, means_of}
use Rattle.tstp_graph.specs.Nodes.{nodes_of}
use Rattle.tstp_graph.specs.Order.{IsOrder, TakesInTurn, is_taken, first_ready, first_left}
use Rattle.tstp_graph.specs.Graphs.{IsGraph, IsGraphBy, IsFaultBy, IsCycle, IsCycleIn, IsCycleOf, IsCycleAt, LeavesOne, IsFault}

-- ---- values that are found

one_found : {X : Type 0} (found : Option X) (x y : X) → found ≡ Some x → found ≡ Some y → x ≡ y
one_found found x y here there = cc

not_found : {X R : Type 0} (found : Option X) (x : X) → found ≡ None → found ≡ Some x → R
not_found found x none here = absurd cc

abbrev Nodes : Type 0
Nodes = Result (List Node) GraphFault

one_ok : (r : Nodes) (ns ms : List Node) → r ≡ Ok ns → r ≡ Ok ms → ns ≡ ms
one_ok r ns ms here there = cc

one_err : (r : Nodes) (f g : GraphFault) → r ≡ Err f → r ≡ Err g → f ≡ g
one_err r f g here there = cc

ok_or_err : {R : Type 0} (r : Nodes) (ns : List Node) (f : GraphFault) → r ≡ Ok ns → r ≡ Err f → R
ok_or_err r ns f here there = absurd cc

-- ---- the order is one

ends_here : (nodes : List Node) (taken : List ℕ) → first_ready (is_taken (taken ++ [])) 0 nodes ≡ None → first_ready (is_taken taken) 0 nodes ≡ None
ends_here nodes taken none = ap (λ (t : List ℕ). first_ready (is_taken t) 0 nodes) (sym (append-nil taken)) ∙ none

on : (nodes : List Node) (taken order : List ℕ) (x : ℕ) → first_ready (is_taken (taken ++ (x ∷ order))) 0 nodes ≡ None → first_ready (is_taken ((taken ++ x ∷ []) ++ order)) 0 nodes ≡ None
on nodes taken order x none = ap (λ (t : List ℕ). first_ready (is_taken t) 0 nodes) (append_assoc taken (x ∷ []) order) ∙ none

one_order : (nodes : List Node) (taken order other : List ℕ) → TakesInTurn nodes taken order → TakesInTurn nodes taken other → first_ready (is_taken (taken ++ order)) 0 nodes ≡ None → first_ready (is_taken (taken ++ other)) 0 nodes ≡ None → order ≡ other
one_order nodes taken [] [] turns also none nothing = refl
one_order nodes taken [] (y ∷ other) turns also none nothing = not_found (first_ready (is_taken taken) 0 nodes) y (ends_here nodes taken none) also.0
one_order nodes taken (x ∷ order) [] turns also none nothing = not_found (first_ready (is_taken taken) 0 nodes) x (ends_here nodes taken nothing) turns.0
one_order nodes taken (x ∷ order) (y ∷ other) turns also none nothing =
    let same : y ≡ x = one_found (first_ready (is_taken taken) 0 nodes) y x also.0 turns.0 in
    let rest : order ≡ other =
    one_order nodes (taken ++ x ∷ []) order other turns.1 (subst (λ (z : ℕ). TakesInTurn nodes (taken ++ z ∷ []) other) same also.1) (on nodes taken order x none)
    (on nodes taken other x (subst (λ (z : ℕ). first_ready (is_taken (taken ++ (z ∷ other))) 0 nodes ≡ None) same nothing)) in
    ap (λ (ns : List ℕ). x ∷ ns) rest ∙ ap (λ (z : ℕ). z ∷ other) (sym same)

pub orders_same : (nodes : List Node) (order other : List ℕ) → IsOrder nodes order → IsOrder nodes other → order ≡ other
orders_same nodes order other is also = one_order nodes [] order other is.in_turn also.in_turn is.until_none also.until_none

-- ---- the graph is one

graphs_same : (means : Means) (items : List Item) (g h : Graph) → IsGraphBy means items g → IsGraphBy means items h → g ≡ h
graphs_same means items g h is also =
    let nodes : g.nodes ≡ h.nodes = one_ok (nodes_of means items) g.nodes h.nodes is.nodes also.nodes in
    let order : g.order ≡ h.order = orders_same h.nodes g.order h.order (subst (λ (ns : List Node). IsOrder ns g.order) nodes is.order) also.order in
    both g h nodes order
  where
    both : (g h : Graph) → g.nodes ≡ h.nodes → g.order ≡ h.order → g ≡ h
    both g h nodes order = ap (λ (ns : List Node). record { nodes = ns; order = g.order }) nodes ∙ ap (λ (os : List ℕ). record { nodes = h.nodes; order = os }) order

pub one_graph : (items : List Item) (given : List Name) (g h : Graph) → IsGraph items given g → IsGraph items given h → g ≡ h
one_graph items given g h is also = graphs_same (means_of items given) items g h is.is_graph also.is_graph

-- ---- so is the first fault

one_in : (here : Item) (f g : GraphFault) → IsCycleIn here f → IsCycleIn here g → f ≡ g
one_in here f g (formula, is, says) (other, also, said) =
    let same : formula ≡ other = of_formula formula other (sym is ∙ also) in
    says ∙ ap (λ (a : Annotated). Cycle a.place a.name) same ∙ sym said
  where
    of_formula : (a b : Annotated) → item.Formula a ≡ item.Formula b → a ≡ b
    of_formula a b e = cc

one_of : (items : List Item) (at : ℕ) (f g : GraphFault) → IsCycleOf items at f → IsCycleOf items at g → f ≡ g
one_of items at f g (here, is, cycle) (there, also, other) = one_in here f g cycle (subst (λ (i : Item). IsCycleIn i g) (one_found (slice_get items at) there here also is) other)

one_at : (items : List Item) (nodes : List Node) (number : ℕ) (f g : GraphFault) → IsCycleAt items nodes number f → IsCycleAt items nodes number g → f ≡ g
one_at items nodes number f g (node, is, cycle) (other, also, more) = one_of items node.item f g cycle (subst (λ (n : Node). IsCycleOf items n.item g) (one_found (slice_get nodes number) other node also is) more)

one_left : (items : List Item) (nodes : List Node) (f g : GraphFault) → LeavesOne items nodes f → LeavesOne items nodes g → f ≡ g
one_left items nodes f g here there =
    let order : there.order ≡ here.order = orders_same nodes there.order here.order there.is_order here.is_order in
    let left : first_left (is_taken here.order) 0 nodes ≡ Some there.number = ap (λ (os : List ℕ). first_left (is_taken os) 0 nodes) (sym order) ∙ there.is_left in
    let number : there.number ≡ here.number = one_found (first_left (is_taken here.order) 0 nodes) there.number here.number left here.is_left in
    one_at items nodes here.number f g here.is_cycle (subst (λ (n : ℕ). IsCycleAt items nodes n g) number there.is_cycle)

one_cycle : (means : Means) (items : List Item) (f g : GraphFault) → IsCycle means items f → IsCycle means items g → f ≡ g
one_cycle means items f g (nodes, is, left) (others, also, more) =
    one_left items nodes f g left (subst (λ (ns : List Node). LeavesOne items ns g) (one_ok (nodes_of means items) others nodes also is) more)

-- one of the two is want of memory, or they are the same
abbrev OneOrWant : GraphFault → GraphFault → Type 0
OneOrWant f g = (f ≡ Memory) ⊎ ((g ≡ Memory) ⊎ (f ≡ g))

one_by : (means : Means) (items : List Item) (f g : GraphFault) → IsFaultBy means items f → IsFaultBy means items g → OneOrWant f g
one_by means items f g (inl memory) also = inl memory
one_by means items f g (inr is) (inl memory) = inr (inl memory)
one_by means items f g (inr (inl is)) (inr (inl also)) = inr (inr (one_err (nodes_of means items) f g is also))
one_by means items f g (inr (inl is)) (inr (inr (nodes, here, left))) = ok_or_err (nodes_of means items) nodes f here is
one_by means items f g (inr (inr (nodes, here, left))) (inr (inl also)) = ok_or_err (nodes_of means items) nodes g here also
one_by means items f g (inr (inr is)) (inr (inr also)) = inr (inr (one_cycle means items f g is also))

pub one_fault : (items : List Item) (given : List Name) (f g : GraphFault) → IsFault items given f → IsFault items given g → OneOrWant f g
one_fault items given f g (inl (over, is)) (inl (more, also)) = inr (inr (is ∙ sym also))
one_fault items given f g (inl (over, is)) (inr (few, by)) = absurd (few over)
one_fault items given f g (inr (few, by)) (inl (over, is)) = absurd (few over)
one_fault items given f g (inr (few, by)) (inr (as_few, also)) = one_by (means_of items given) items f g by also

-- ---- and there are never both

cycle_or_graph : {R : Type 0} (means : Means) (items : List Item) (g : Graph) (fault : GraphFault) → IsGraphBy means items g → IsCycle means items fault → R
cycle_or_graph means items g fault is (nodes, here, left) =
    let same : nodes ≡ g.nodes = one_ok (nodes_of means items) nodes g.nodes here is.nodes in
    let order : left.order ≡ g.order = orders_same g.nodes left.order g.order (subst (λ (ns : List Node). IsOrder ns left.order) same left.is_order) is.order in
    let some : first_left (is_taken g.order) 0 g.nodes ≡ Some left.number =
    ap (λ (os : List ℕ). first_left (is_taken os) 0 g.nodes) (sym order) ∙ ap (λ (ns : List Node). first_left (is_taken left.order) 0 ns) (sym same) ∙ left.is_left in
    not_found (first_left (is_taken g.order) 0 g.nodes) left.number is.all some

pub graph_or_fault : (items : List Item) (given : List Name) (g : Graph) (fault : GraphFault) → IsGraph items given g → IsFault items given fault → fault ≡ Memory
graph_or_fault items given g fault is (inl (over, limit)) = absurd (is.few over)
graph_or_fault items given g fault is (inr (few, inl memory)) = memory
graph_or_fault items given g fault is (inr (few, inr (inl faulty))) = ok_or_err (nodes_of (means_of items given) items) g.nodes fault is.is_graph.nodes faulty
graph_or_fault items given g fault is (inr (few, inr (inr cycle))) = cycle_or_graph (means_of items given) items g fault is.is_graph cycle
