-- A derivation without a faulty item has one node for each line.
use Rattle.std.proofs.Common.{◌≡◌, ℕ, suc, ◌+◌, Bool, true, false, cond, List, [], ◌∷◌, ◌++◌, length, None, Some, Result, Ok, Err, refl, sym, ◌∙◌, ap}
use Rattle.std.specs.Bool.{beq}
use Rattle.tptp_base.specs.declared.name.Name.{Name}
use Rattle.tptp_base.specs.declared.item.Item.{Item}
use Rattle.tptp_base.specs.declared.item.Item.TheVariants as item
use Rattle.tstp_graph.specs.declared.shape.Node.{Node}
use Rattle.tstp_graph.specs.declared.fault.GraphFault.{GraphFault}
use Rattle.tstp_graph.specs.Lines.{with_formula_name, names_in}
use Rattle.tptp_base.specs.Roles.{is_typing}
use Rattle.tstp_graph.specs.Meaning.{Means}
use Rattle.tstp_graph.specs.Nodes.{line_answer, before, nodes_from}

-- a node more
one_more : (answer : Result Node GraphFault) (rest : Result (List Node) GraphFault) (nodes : List Node) (count : ℕ) → ((more : List Node) → rest ≡ Ok more → length more ≡ count) → before answer rest ≡ Ok nodes → length nodes ≡ suc count
one_more (Err fault) rest nodes count is e = absurd (cc)
one_more (Ok node) (Err fault) nodes count is e = absurd (cc)
one_more (Ok node) (Ok more) nodes count is e = let same : node ∷ more ≡ nodes = cc in ap length (sym same) ∙ ap suc (is more refl)

pub one_node_each : (means : Means) (earlier : List Name) (at : ℕ) (items : List Item) (nodes : List Node) → nodes_from means earlier at items ≡ Ok nodes → length nodes ≡ length (names_in false items)
one_node_each means earlier at [] nodes e = let same : nodes ≡ [] = cc in ap length same
one_node_each means earlier at (item.Comment text ∷ items) nodes e = one_node_each means earlier (at + 1) items nodes e
one_node_each means earlier at (item.Include include ∷ items) nodes e = absurd (cc)
one_node_each means earlier at (item.Formula line ∷ items) nodes e =
    by (is_typing line.role) (λ more is. one_node_each means earlier (at + 1) items more is) (λ more is. one_node_each means (earlier ++ line.name ∷ []) (at + 1) items more is) e
  where
    by : (b : Bool) → ((more : List Node) → nodes_from means earlier (at + 1) items ≡ Ok more → length more ≡ length (names_in false items))
        → ((more : List Node) → nodes_from means (earlier ++ line.name ∷ []) (at + 1) items ≡ Ok more → length more ≡ length (names_in false items))
        → cond b (nodes_from means earlier (at + 1) items) (before (line_answer means earlier at line) (nodes_from means (earlier ++ line.name ∷ []) (at + 1) items)) ≡ Ok nodes
        → length nodes ≡ length (with_formula_name (cond (beq b false) (Some line) None) (names_in false items))
    by true skip take e = skip nodes e
    by false skip take e = one_more (line_answer means earlier at line) (nodes_from means (earlier ++ line.name ∷ []) (at + 1) items) nodes (length (names_in false items)) take e
