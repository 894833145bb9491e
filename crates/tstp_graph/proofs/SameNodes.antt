-- The code finds the nodes, or the first fault, that specs/Nodes says.
use Rattle.std.proofs.Common.{◌≡◌, ℕ, suc, ◌+◌, ◌==◌, ◌&&◌, ◌||◌, Bool, true, false, not, cond, List, [], ◌∷◌, ◌++◌, length, Option, None, Some, Result, Ok, Err, refl, sym, ◌∙◌, ap, arith, length-append, append_assoc}
use Rattle.std.specs.Bool.{beq}
use Rattle.std.specs.List.{flat_map, list_any}
use Rattle.std.specs.Cmp.Lexicographic.{nat_list_eq_equiv}
use Rattle.std.proofs.lemmas.List.{append-nil}
use Rattle.std.proofs.lemmas.Bool.Decides.{nat_tests}
use Rattle.tptp_base.specs.declared.name.Name.{Name}
use Rattle.tptp_base.specs.declared.name.Name.TheVariants.{Word, Integer}
use Rattle.tptp_base.specs.declared.item.Annotated.{Annotated}
use Rattle.tptp_base.specs.declared.item.Item.{Item}
use Rattle.tptp_base.specs.declared.item.Item.TheVariants as item
use Rattle.tstp_graph.specs.declared.shape.Ref.{Ref}
use Rattle.tstp_graph.specs.declared.shape.Node.{Node}
use Rattle.tstp_graph.specs.declared.cite.Cite.{Cite}
use Rattle.tstp_graph.specs.declared.cite.Reading.{Reading}
use Rattle.tstp_graph.specs.declared.fault.GraphFault.{GraphFault}
use Rattle.tstp_graph.specs.declared.fault.GraphFault.TheVariants.{DuplicateLine, BadSource}
use Rattle.tstp_graph.specs.Lines.{with_formula_name, names_in}
use Rattle.tptp_base.specs.Roles.{is_typing}
use Rattle.tstp_graph.specs.Meaning.{Means, means_of, meaning, is_known, cite_name, with_ref, with_refs, parents, first_unknown}
use Rattle.tstp_graph.specs.Nodes.{node_of, known_line, read_line, line_answer, before, nodes_from, nodes_of}
use Rattle.tstp_graph.specs.Sources.{Source, source_of}
use Rattle.tstp_graph.specs.Tables.{same_name, places_from, places}
use Rattle.tstp_graph.specs.code.Meaning.{resolved}
use Rattle.tstp_graph.specs.code.Nodes.{is_first, resolved_line, go_on}
use Rattle.tstp_graph.specs.code.Nodes as code
use Rattle.tstp_graph.specs.code.Sources as sources
use Rattle.tstp_graph.proofs.SameSources.{as_source, same_source}

-- ---- parents

with_more : (refs first rest : List Ref) → with_refs refs (first ++ rest) ≡ with_refs (with_refs refs first) rest
with_more refs [] rest = refl
with_more refs (ref ∷ first) rest = with_more (with_ref refs ref) first rest

-- the parents, or the one that means nothing
abbrev parents_or : Option Name → List Ref → Result (List Ref) Name
parents_or None refs = Ok refs
parents_or (Some unknown) refs = Err unknown

-- the parent of a step that means nothing
abbrev unknown_of : Bool → Means → List Cite → Option Name
unknown_of is_step means cites = cond is_step (first_unknown means cites) None

same_parents : (is_step : Bool) (means : Means) (refs : List Ref) (cites : List Cite) → resolved is_step means refs cites ≡ parents_or (unknown_of is_step means cites) (with_refs refs (flat_map (meaning means) cites))
same_parents true means refs [] = refl
same_parents false means refs [] = refl
same_parents true means refs (cite ∷ cites) = by (is_known means cite) (same_parents true means (with_refs refs (meaning means cite)) cites)
  where
    by : (b : Bool) → resolved true means (with_refs refs (meaning means cite)) cites ≡ parents_or (first_unknown means cites) (with_refs (with_refs refs (meaning means cite)) (flat_map (meaning means) cites))
        → cond (true && not b) (Err (cite_name cite)) (resolved true means (with_refs refs (meaning means cite)) cites)
        ≡ parents_or (cond b (first_unknown means cites) (Some (cite_name cite))) (with_refs refs (meaning means cite ++ flat_map (meaning means) cites))
    by true is = is ∙ ap (parents_or (first_unknown means cites)) (sym (with_more refs (meaning means cite) (flat_map (meaning means) cites)))
    by false is = refl
same_parents false means refs (cite ∷ cites) =
    same_parents false means (with_refs refs (meaning means cite)) cites ∙ ap (λ (l : List Ref). Ok l) (sym (with_more refs (meaning means cite) (flat_map (meaning means) cites)))

-- ---- a line

abbrev some_node : Result Node GraphFault → Result (Option Node) GraphFault
some_node (Ok node) = Ok (Some node)
some_node (Err fault) = Err fault

known_same : (at : ℕ) (line : Annotated) (is_step : Bool) (unknown : Option Name) (refs : List Ref) → resolved_line at line is_step (parents_or unknown refs) ≡ some_node (known_line line unknown (node_of at is_step refs))
known_same at line is_step None refs = refl
known_same at line is_step (Some unknown) refs = refl

read_same : (means : Means) (at : ℕ) (line : Annotated) (r : Reading) → code.read_line means at line r ≡ some_node (read_line means at line (as_source r))
read_same means at line r = by r.is_good
  where
    source : Source
    source = record { is_step = r.is_step; gives = r.gives }

    by : (b : Bool) → cond b (resolved_line at line r.is_step (resolved r.is_step means [] r.gives)) (Err (BadSource line.place line.name)) ≡ some_node (read_line means at line (cond b (Some source) None))
    by true = ap (resolved_line at line r.is_step) (same_parents r.is_step means [] r.gives) ∙ known_same at line r.is_step (unknown_of r.is_step means r.gives) (parents means r.gives)
    by false = refl

line_same : (means : Means) (earlier : List Name) (at number : ℕ) (line : Annotated) → is_first (means.lines line.name) number ≡ not (list_any (λ name. same_name name line.name) earlier)
    → code.line_answer means at number line ≡ some_node (line_answer means earlier at line)
line_same means earlier at number line is =
    ap (λ b. cond b (code.read_line means at line (sources.source_of line.source)) (Err (DuplicateLine line.place line.name))) is ∙ by (list_any (λ name. same_name name line.name) earlier)
  where
    by : (b : Bool) → cond (not b) (code.read_line means at line (sources.source_of line.source)) (Err (DuplicateLine line.place line.name))
        ≡ some_node (cond b (Err (DuplicateLine line.place line.name)) (read_line means at line (source_of line.source)))
    by true = refl
    by false = read_same means at line (sources.source_of line.source) ∙ ap (λ (s : Option Source). some_node (read_line means at line s)) (sym (same_source line.source))

-- ---- a name that an earlier line has

itself : (name : Name) → same_name name name ≡ true
itself (Word text) = nat_list_eq_equiv.refl text
itself (Integer text) = nat_list_eq_equiv.refl text

here_first : (number : ℕ) → (number == number + 0) ≡ true
here_first number = grind (arith, nat_tests)

not_here : (number more : ℕ) → (number == number + suc more) ≡ false
not_here number more = grind (arith, nat_tests)

further : (number more : ℕ) → number + suc more ≡ number + 1 + more
further number more = omega arith

first_of : (number : ℕ) (front back : List Name) (name : Name) → is_first (places_from number (front ++ name ∷ back) name) (number + length front) ≡ not (list_any (λ other. same_name other name) front)
first_of number [] back name = by (same_name name name) (itself name)
  where
    by : (b : Bool) → b ≡ true → is_first (cond b (number ∷ places_from (number + 1) back name) (places_from (number + 1) back name)) (number + 0) ≡ true
    by true e = here_first number
    by false e = absurd (cc)
first_of number (x ∷ front) back name = by (same_name x name) (ap (is_first (places_from (number + 1) (front ++ name ∷ back) name)) (further number (length front)) ∙ first_of (number + 1) front back name)
  where
    by : (b : Bool) → is_first (places_from (number + 1) (front ++ name ∷ back) name) (number + suc (length front)) ≡ not (list_any (λ other. same_name other name) front)
        → is_first (cond b (number ∷ places_from (number + 1) (front ++ name ∷ back) name) (places_from (number + 1) (front ++ name ∷ back) name)) (number + suc (length front)) ≡ not (b || list_any (λ other. same_name other name) front)
    by true is = not_here number (length front)
    by false is = is

-- ---- the nodes

-- these nodes, and then those
abbrev behind : List Node → Result (List Node) GraphFault → Result (List Node) GraphFault
behind nodes (Ok more) = Ok (nodes ++ more)
behind nodes (Err fault) = Err fault

behind_none : (rest : Result (List Node) GraphFault) → behind [] rest ≡ rest
behind_none (Ok nodes) = refl
behind_none (Err fault) = refl

behind_one : (nodes : List Node) (node : Node) (rest : Result (List Node) GraphFault) → behind (nodes ++ node ∷ []) rest ≡ behind nodes (before (Ok node) rest)
behind_one nodes node (Ok more) = ap (λ (l : List Node). Ok l) (append_assoc nodes (node ∷ []) more)
behind_one nodes node (Err fault) = refl

from_none : (number : ℕ) → number ≡ 0 + number
from_none number = omega arith

module _ (means : Means) (names : List Name) (lines : (name : Name) → means.lines name ≡ places names name) where
  found_first : (earlier : List Name) (back : List Name) (line : Annotated) → names ≡ earlier ++ line.name ∷ back → is_first (means.lines line.name) (length earlier) ≡ not (list_any (λ name. same_name name line.name) earlier)
  found_first earlier back line whole =
      ap (λ l. is_first l (length earlier)) (lines line.name ∙ ap (λ (ns : List Name). places ns line.name) whole)
      ∙ ap (is_first (places (earlier ++ line.name ∷ back) line.name)) (from_none (length earlier)) ∙ first_of 0 earlier back line.name

  same_from : (items : List Item) (earlier : List Name) (at : ℕ) (nodes : List Node) → names ≡ earlier ++ names_in false items → length nodes ≡ length earlier
      → code.nodes_from means at items nodes ≡ behind nodes (nodes_from means earlier at items)
  same_from [] earlier at nodes whole len = ap (λ (l : List Node). Ok l) (sym (append-nil nodes))
  same_from (item.Comment text ∷ items) earlier at nodes whole len = same_from items earlier (at + 1) nodes whole len
  same_from (item.Include include ∷ items) earlier at nodes whole len = refl
  same_from (item.Formula line ∷ items) earlier at nodes whole len =
      by (is_typing line.role) whole (λ kept. same_from items earlier (at + 1) nodes kept len) (λ node kept more. same_from items (earlier ++ line.name ∷ []) (at + 1) (nodes ++ node ∷ []) kept more)
    where
      rest : List Name → Result (List Node) GraphFault
      rest names = nodes_from means names (at + 1) items

      longer : (node : Node) → length (nodes ++ node ∷ []) ≡ length (earlier ++ line.name ∷ [])
      longer node = omega (arith, len, length-append nodes (node ∷ []), length-append earlier (line.name ∷ []))

      go : (answer : Result Node GraphFault) → ((node : Node) → code.nodes_from means (at + 1) items (nodes ++ node ∷ []) ≡ behind (nodes ++ node ∷ []) (rest (earlier ++ line.name ∷ [])))
          → go_on (some_node answer) (code.nodes_from means (at + 1) items) nodes ≡ behind nodes (before answer (rest (earlier ++ line.name ∷ [])))
      go (Ok node) is = is node ∙ behind_one nodes node (rest (earlier ++ line.name ∷ []))
      go (Err fault) is = refl

      by : (b : Bool) → names ≡ earlier ++ with_formula_name (cond (beq b false) (Some line) None) (names_in false items)
          → (names ≡ earlier ++ names_in false items → code.nodes_from means (at + 1) items nodes ≡ behind nodes (rest earlier))
          → ((node : Node) → names ≡ (earlier ++ line.name ∷ []) ++ names_in false items → length (nodes ++ node ∷ []) ≡ length (earlier ++ line.name ∷ []) → code.nodes_from means (at + 1) items (nodes ++ node ∷ []) ≡ behind (nodes ++ node ∷ []) (rest (earlier ++ line.name ∷ [])))
          → go_on (cond b (Ok None) (code.line_answer means at (length nodes) line)) (code.nodes_from means (at + 1) items) nodes ≡ behind nodes (cond b (rest earlier) (before (line_answer means earlier at line) (rest (earlier ++ line.name ∷ []))))
      by true whole skip take = skip whole
      by false whole skip take =
          ap (λ (a : Result (Option Node) GraphFault). go_on a (code.nodes_from means (at + 1) items) nodes)
          (ap (λ n. code.line_answer means at n line) len ∙ line_same means earlier at (length earlier) line (found_first earlier (names_in false items) line whole))
          ∙ go (line_answer means earlier at line) (λ node. take node (whole ∙ sym (append_assoc earlier (line.name ∷ []) (names_in false items))) (longer node))

-- the nodes that the code finds in a derivation
pub same_nodes : (items : List Item) (given : List Name) → code.nodes_from (means_of items given) 0 items [] ≡ nodes_of (means_of items given) items
same_nodes items given = same_from (means_of items given) (names_in false items) (λ name. refl) items [] 0 [] refl refl ∙ behind_none (nodes_of (means_of items given) items)
