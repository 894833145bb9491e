-- Each node is that of a formula among the items.
use Rattle.std.proofs.Common.{◌≡◌, ℕ, zero, suc, ◌+◌, Bool, true, false, cond, List, [], ◌∷◌, ◌++◌, length, slice_get, Option, None, Some, Result, Ok, Err, refl, sym, ◌∙◌, ap, subst, arith, length-append, append_assoc}
use Rattle.tptp_base.specs.declared.name.Name.{Name}
use Rattle.tptp_base.specs.declared.item.Annotated.{Annotated}
use Rattle.tptp_base.specs.declared.item.Item.{Item}
use Rattle.tptp_base.specs.declared.item.Item.TheVariants as item
use Rattle.tstp_graph.specs.declared.shape.Ref.{Ref}
use Rattle.tstp_graph.specs.declared.shape.Node.{Node}
use Rattle.tstp_graph.specs.declared.cite.Reading.{Reading}
use Rattle.tstp_graph.specs.declared.fault.GraphFault.{GraphFault}
use Rattle.tstp_graph.specs.declared.fault.GraphFault.TheVariants.{DuplicateLine, BadSource}
use Rattle.tptp_base.specs.Roles.{is_typing}
use Rattle.tstp_graph.specs.Meaning.{Means}
use Rattle.tstp_graph.specs.code.Meaning.{resolved}
use Rattle.tstp_graph.specs.code.Sources.{source_of}
use Rattle.tstp_graph.specs.code.Nodes.{is_first, resolved_line, read_line, line_answer, item_answer, go_on, nodes_from}
use Rattle.tstp_graph.specs.code.Graphs.{AreLines}

resolved_at : (at : ℕ) (formula : Annotated) (is_step : Bool) (answer : Result (List Ref) Name) (node : Node) → resolved_line at formula is_step answer ≡ Ok (Some node) → node.item ≡ at
resolved_at at formula is_step (Ok refs) node e = let same = ap (λ (r : Result (Option Node) GraphFault). item_of at r) e in sym same
  where
    item_of : ℕ → Result (Option Node) GraphFault → ℕ
    item_of n (Ok (Some node)) = node.item
    item_of n (Ok None) = n
    item_of n (Err fault) = n
resolved_at at formula is_step (Err parent) node e = absurd (cc)

read_at : (means : Means) (at : ℕ) (formula : Annotated) (source : Reading) (node : Node) → read_line means at formula source ≡ Ok (Some node) → node.item ≡ at
read_at means at formula source node e = by source.is_good e
  where
    by : (b : Bool) → cond b (resolved_line at formula source.is_step (resolved source.is_step means [] source.gives)) (Err (BadSource formula.place formula.name)) ≡ Ok (Some node) → node.item ≡ at
    by true e = resolved_at at formula source.is_step (resolved source.is_step means [] source.gives) node e
    by false e = absurd (cc)

line_at : (means : Means) (at number : ℕ) (formula : Annotated) (node : Node) → line_answer means at number formula ≡ Ok (Some node) → node.item ≡ at
line_at means at number formula node e = by (is_first (means.lines formula.name) number) e
  where
    by : (b : Bool) → cond b (read_line means at formula (source_of formula.source)) (Err (DuplicateLine formula.place formula.name)) ≡ Ok (Some node) → node.item ≡ at
    by true e = read_at means at formula (source_of formula.source) node e
    by false e = absurd (cc)

-- an item that has a node is a formula, and the node says where it stands
formula_at : (means : Means) (at number : ℕ) (here : Item) (node : Node) → item_answer means at number here ≡ Ok (Some node) → (node.item ≡ at) × ((formula : Annotated) × (here ≡ item.Formula formula))
formula_at means at number (item.Comment text) node e = absurd (cc)
formula_at means at number (item.Include include) node e = absurd (cc)
formula_at means at number (item.Formula formula) node e = (by (is_typing formula.role) e, (formula, refl))
  where
    by : (b : Bool) → cond b (Ok None) (line_answer means at number formula) ≡ Ok (Some node) → node.item ≡ at
    by true e = absurd (cc)
    by false e = line_at means at number formula node e

here_is : (front items : List Item) (here : Item) → slice_get (front ++ here ∷ items) (length front) ≡ Some here
here_is [] items here = refl
here_is (x ∷ front) items here = here_is front items here

-- one line more
line_more : (all : List Item) (nodes : List Node) (node : Node) (formula : Annotated) → slice_get all node.item ≡ Some (item.Formula formula) → AreLines all nodes → AreLines all (nodes ++ node ∷ [])
line_more all [] node formula is are zero other e = let same : node ≡ other = cc in (formula, ap (λ (n : Node). slice_get all n.item) (sym same) ∙ is)
line_more all [] node formula is are (suc number) other e = absurd (cc)
line_more all (first ∷ nodes) node formula is are zero other e = are 0 other e
line_more all (first ∷ nodes) node formula is are (suc number) other e = line_more all nodes node formula is (λ k n at. are (suc k) n at) number other e

lines_from : (means : Means) (all front items : List Item) (nodes final : List Node) → all ≡ front ++ items → AreLines all nodes → nodes_from means (length front) items nodes ≡ Ok final → AreLines all final
lines_from means all front [] nodes final whole are e = let same : nodes ≡ final = cc in subst (AreLines all) same are
lines_from means all front (here ∷ items) nodes final whole are e =
    by (item_answer means (length front) (length nodes) here) refl e (λ next are_next. lines_from means all (front ++ here ∷ []) items next final (whole ∙ sym (append_assoc front (here ∷ []) items)) are_next)
  where
    further : length front + 1 ≡ length (front ++ here ∷ [])
    further = omega (arith, length-append front (here ∷ []))

    by : (answer : Result (Option Node) GraphFault) → item_answer means (length front) (length nodes) here ≡ answer → go_on answer (nodes_from means (length front + 1) items) nodes ≡ Ok final
        → ((next : List Node) → AreLines all next → nodes_from means (length (front ++ here ∷ [])) items next ≡ Ok final → AreLines all final) → AreLines all final
    by (Err fault) is e rest = absurd (cc)
    by (Ok None) is e rest = rest nodes are (subst (λ n. nodes_from means n items nodes ≡ Ok final) further e)
    by (Ok (Some node)) is e rest =
        let found = formula_at means (length front) (length nodes) here node is in
        let at : slice_get all node.item ≡ Some (item.Formula found.1.0) = ap (λ (l : List Item). slice_get l node.item) whole ∙ ap (slice_get (front ++ here ∷ items)) found.0 ∙ here_is front items here ∙ ap Some found.1.1 in
        rest (nodes ++ node ∷ []) (line_more all nodes node found.1.0 at are) (subst (λ n. nodes_from means n items (nodes ++ node ∷ []) ≡ Ok final) further e)

pub are_lines : (means : Means) (items : List Item) (nodes : List Node) → nodes_from means 0 items [] ≡ Ok nodes → AreLines items nodes
are_lines means items nodes e = lines_from means items [] items [] nodes refl (λ number node at. absurd (cc)) e
