-- Items that differ in their places alone have one graph.
use Rattle.std.specs.Prelude.{ℕ, ◌≡◌, ◌<◌, ◌+◌, Bool, true, false, cond, count_by, if◌then◌else◌, List, [], ◌∷◌, ◌++◌, map, Option, Some, None, Result, Ok, Err, refl}
use Rattle.std.specs.Bool.{beq}
use Rattle.std.specs.List.{list_any}
use Rattle.std.proofs.Common.{ap, sym, subst, ◌∙◌}
use Rattle.std.proofs.lemmas.List.Sums.{sum_by-cons}
use Rattle.tptp_base.specs.Roles.{is_typing}
use Rattle.tptp_base.specs.declared.name.Name.{Name}
use Rattle.tptp_base.specs.declared.item.Annotated.{Annotated}
use Rattle.tptp_base.specs.declared.item.Item.{Item}
use Rattle.tptp_base.specs.declared.item.Item.TheVariants as item
use Rattle.tstp_graph.specs.declared.fault.GraphFault.{GraphFault}
use Rattle.tstp_graph.specs.declared.fault.GraphFault.TheVariants.{DuplicateLine}
use Rattle.tstp_graph.specs.declared.lines.TheConstants.{MOST_FORMULAS}
use Rattle.tstp_graph.specs.declared.shape.Graph.{Graph}
use Rattle.tstp_graph.specs.declared.shape.Node.{Node}
use Rattle.tstp_graph.specs.Graphs.{IsGraph}
use Rattle.tstp_graph.specs.Lines.{is_formula, names_in, with_formula_name}
use Rattle.tstp_graph.specs.Meaning.{Means, first_unknown, means_of, parents}
use Rattle.tstp_graph.specs.Nodes.{before, known_line, line_answer, node_of, nodes_from, nodes_of, read_line}
use Rattle.tstp_graph.specs.Sources.{Source, source_of}
use Rattle.tstp_graph.specs.Tables.{places, same_name}
use Rattle.canon_print.specs.RoundTrip.{AreSame, at_place, first_place}

-- what is answered, but for faults
abbrev answered : {X : Type 0} → Result X GraphFault → Option X
answered (Ok x) = Some x
answered (Err fault) = None

answered_ok : {X : Type 0} (r : Result X GraphFault) (x : X) → answered r ≡ Some x → r ≡ Ok x
answered_ok (Ok y) x e = ap Ok (same y x e)
  where
    same : {X : Type 0} (a b : X) → Some a ≡ Some b → a ≡ b
    same a b f = cc
answered_ok (Err fault) x e = absurd (cc)

abbrev pub moved : Annotated → Annotated
moved line = record line { place = first_place }

module _ (means : Means) where
  known_moved : (line : Annotated) (o : Option Name) (node : Node) → answered (known_line line o node) ≡ answered (known_line (moved line) o node)
  known_moved line None node = refl
  known_moved line (Some unknown) node = refl

  read_moved : (at : ℕ) (line : Annotated) (s : Option Source) → answered (read_line means at line s) ≡ answered (read_line means at (moved line) s)
  read_moved at line None = refl
  read_moved at line (Some source) = known_moved line (if source.is_step then first_unknown means source.gives else None) (node_of at source.is_step (parents means source.gives))

  line_moved : (earlier : List Name) (at : ℕ) (line : Annotated) → answered (line_answer means earlier at line) ≡ answered (line_answer means earlier at (moved line))
  line_moved earlier at line = by (list_any (λ (n : Name). same_name n line.name) earlier)
    where
      by : (b : Bool) → answered (if b then Err (DuplicateLine line.place line.name) else read_line means at line (source_of line.source)) ≡ answered (if b then Err (DuplicateLine first_place line.name) else read_line means at (moved line) (source_of line.source))
      by true = refl
      by false = read_moved at line (source_of line.source)

  before_moved : (a b : Result Node GraphFault) (r s : Result (List Node) GraphFault) → answered a ≡ answered b → answered r ≡ answered s → answered (before a r) ≡ answered (before b s)
  before_moved (Err f) (Err g) r s e h = refl
  before_moved (Err f) (Ok y) r s e h = absurd (cc)
  before_moved (Ok x) (Err g) r s e h = absurd (cc)
  before_moved (Ok x) (Ok y) (Err f) (Err g) e h = refl
  before_moved (Ok x) (Ok y) (Err f) (Ok ys) e h = absurd (cc)
  before_moved (Ok x) (Ok y) (Ok xs) (Err g) e h = absurd (cc)
  before_moved (Ok x) (Ok y) (Ok xs) (Ok ys) e h = let first : x ≡ y = cc in let rest : xs ≡ ys = cc in ap (λ (z : Node). Some (z ∷ xs)) first ∙ ap (λ (zs : List Node). Some (y ∷ zs)) rest

  nodes_moved : (earlier : List Name) (at : ℕ) (items : List Item) → answered (nodes_from means earlier at items) ≡ answered (nodes_from means earlier at (map (at_place first_place) items))
  nodes_moved earlier at [] = refl
  nodes_moved earlier at (item.Comment text ∷ items) = nodes_moved earlier (at + 1) items
  nodes_moved earlier at (item.Include include ∷ items) = refl
  nodes_moved earlier at (item.Formula line ∷ items) = by (is_typing line.role) (nodes_moved earlier (at + 1) items) (nodes_moved (earlier ++ line.name ∷ []) (at + 1) items)
    where
      by : (b : Bool) → answered (nodes_from means earlier (at + 1) items) ≡ answered (nodes_from means earlier (at + 1) (map (at_place first_place) items))
          → answered (nodes_from means (earlier ++ line.name ∷ []) (at + 1) items) ≡ answered (nodes_from means (earlier ++ line.name ∷ []) (at + 1) (map (at_place first_place) items))
          → answered (if b then nodes_from means earlier (at + 1) items else before (line_answer means earlier at line) (nodes_from means (earlier ++ line.name ∷ []) (at + 1) items))
          ≡ answered (if b then nodes_from means earlier (at + 1) (map (at_place first_place) items) else before (line_answer means earlier at (moved line)) (nodes_from means (earlier ++ line.name ∷ []) (at + 1) (map (at_place first_place) items)))
      by true skip take = skip
      by false skip take =
          before_moved (line_answer means earlier at line) (line_answer means earlier at (moved line)) (nodes_from means (earlier ++ line.name ∷ []) (at + 1) items) (nodes_from means (earlier ++ line.name ∷ []) (at + 1) (map (at_place first_place) items))
          (line_moved earlier at line) take

names_moved : (is_type : Bool) (items : List Item) → names_in is_type (map (at_place first_place) items) ≡ names_in is_type items
names_moved is_type [] = refl
names_moved is_type (item.Comment text ∷ items) = names_moved is_type items
names_moved is_type (item.Include include ∷ items) = names_moved is_type items
names_moved is_type (item.Formula line ∷ items) = by (beq (is_typing line.role) is_type) (names_moved is_type items)
  where
    by : (b : Bool) → names_in is_type (map (at_place first_place) items) ≡ names_in is_type items
        → with_formula_name (if b then Some (moved line) else None) (names_in is_type (map (at_place first_place) items)) ≡ with_formula_name (if b then Some line else None) (names_in is_type items)
    by true rest = ap (λ (ns : List Name). line.name ∷ ns) rest
    by false rest = rest

abbrev counted : Item → ℕ
counted x = cond (is_formula x) 1 0

one_more : (x y : Item) (items : List Item) → counted x ≡ counted y → count_by is_formula (map (at_place first_place) items) ≡ count_by is_formula items → count_by is_formula (x ∷ map (at_place first_place) items) ≡ count_by is_formula (y ∷ items)
one_more x y items same rest =
    sum_by-cons counted x (map (at_place first_place) items) ∙ ap (λ (n : ℕ). n + count_by is_formula (map (at_place first_place) items)) same ∙ ap (λ (n : ℕ). counted y + n) rest ∙ sym (sum_by-cons counted y items)

count_moved : (items : List Item) → count_by is_formula (map (at_place first_place) items) ≡ count_by is_formula items
count_moved [] = refl
count_moved (item.Comment text ∷ items) = one_more (item.Comment text) (item.Comment text) items refl (count_moved items)
count_moved (item.Include include ∷ items) = one_more (item.Include (record include { place = first_place })) (item.Include include) items refl (count_moved items)
count_moved (item.Formula line ∷ items) = one_more (item.Formula (moved line)) (item.Formula line) items refl (count_moved items)

module _ (items others : List Item) (same : AreSame items others) where
  names_same : (is_type : Bool) → names_in is_type items ≡ names_in is_type others
  names_same is_type = sym (names_moved is_type items) ∙ ap (names_in is_type) same ∙ names_moved is_type others

  counts_same : count_by is_formula others ≡ count_by is_formula items
  counts_same = sym (count_moved others) ∙ ap (count_by is_formula) (sym same) ∙ count_moved items

  means_same : (given : List Name) → means_of items given ≡ means_of others given
  means_same given =
      ap (λ (ns : List Name). record { lines = places ns; types = places (names_in true items); given = places given }) (names_same false)
      ∙ ap (λ (ns : List Name). record { lines = places (names_in false others); types = places ns; given = places given }) (names_same true)

  nodes_same : (given : List Name) (nodes : List Node) → nodes_of (means_of items given) items ≡ Ok nodes → nodes_of (means_of others given) others ≡ Ok nodes
  nodes_same given nodes e =
      let m = means_of others given in
      answered_ok (nodes_of m others) nodes
      (nodes_moved m [] 0 others ∙ ap (λ (is : List Item). answered (nodes_from m [] 0 is)) (sym same) ∙ sym (nodes_moved m [] 0 items) ∙ ap (λ (n : Means). answered (nodes_of n items)) (sym (means_same given)) ∙ ap answered e)

  pub one_graph : (given : List Name) (graph : Graph) → IsGraph items given graph → IsGraph others given graph
  one_graph given graph g = record {
    few = λ over. g.few (subst (λ (n : ℕ). MOST_FORMULAS < n) counts_same over);
    is_graph = record { nodes = nodes_same given graph.nodes g.is_graph.nodes; order = g.is_graph.order; all = g.is_graph.all };
  }
