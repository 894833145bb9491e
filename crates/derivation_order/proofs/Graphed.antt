-- The graph of a derivation's items.
use Rattle.std.specs.Prelude.{ℕ, suc, ◌≡◌, ◌+◌, Bool, true, false, if◌then◌else◌, List, [], ◌∷◌, ◌++◌, length, map, Option, Some, None, Result, Ok, Err, codes, refl}
use Rattle.std.specs.List.{AllByRecursion, AllZip, range_with_len}
use Rattle.std.proofs.Common.{ap, sym, subst, ◌∙◌, arith, inl, inr, append_assoc}
use Rattle.std.proofs.lemmas.List.{length-append}
use Rattle.std.proofs.lemmas.List.Sums.{count_by-le-length}
use Rattle.std.proofs.lemmas.Bool.{cond-false}
use Rattle.inference_proofs.proofs.Kept.{has_split}
use Rattle.fof_terms.specs.Vocabulary.{Vocabulary}
use Rattle.fof_terms.specs.declared.form.Form.{Form}
use Rattle.sort_check.specs.declared.line.GivenEntry.{GivenEntry}
use Rattle.tptp_base.specs.declared.name.Name.{Name}
use Rattle.tptp_base.specs.declared.name.Name.TheVariants as name
use Rattle.tptp_base.specs.declared.item.Annotated.{Annotated}
use Rattle.tptp_base.specs.declared.item.Body.TheVariants as body
use Rattle.tptp_base.specs.declared.item.GTerm.{GTerm}
use Rattle.tptp_base.specs.declared.item.Item.{Item}
use Rattle.tptp_base.specs.declared.item.Lang.TheVariants.{Tff}
use Rattle.tptp_base.specs.declared.item.Role.TheVariants as role
use Rattle.tptp_base.specs.declared.item.Typing.{Typing}
use Rattle.tptp_base.specs.declared.surface.Surface.{Surface}
use Rattle.tstp_graph.specs.declared.cite.Cite.TheVariants.{Filed}
use Rattle.tstp_graph.specs.declared.fault.GraphFault.{GraphFault}
use Rattle.tstp_graph.specs.declared.fault.GraphFault.TheVariants.{DuplicateLine}
use Rattle.tstp_graph.specs.declared.shape.Graph.{Graph}
use Rattle.tstp_graph.specs.declared.shape.Node.{Node}
use Rattle.tstp_graph.specs.declared.shape.Ref.{Ref}
use Rattle.tstp_graph.specs.declared.shape.Ref.TheVariants as ref
use Rattle.tstp_graph.specs.Graphs.{IsGraph}
use Rattle.tstp_graph.specs.Lines.{IsOverLimit, formula_of, is_formula, names_in, with_formula_name}
use Rattle.tstp_graph.specs.Meaning.{Means, means_of, parents}
use Rattle.tstp_graph.specs.Nodes.{before, known_line, line_answer, node_of, nodes_from, nodes_of, read_line}
use Rattle.tstp_graph.specs.Sources.{cited, source_of}
use Rattle.tstp_graph.specs.Tables.{places, places_from, same_name}
use Rattle.derivation_items.specs.Items.{first_place, typing_items}
use Rattle.derivation_items.specs.Sources.{inference_term, source_term}
use Rattle.derivation_items.specs.Typings.{typings_of}
use Rattle.derivation_items.specs.Words.{Text, numbered_word, printable_text}
use Rattle.derivation_items.specs.declared.line.LineSource.{LineSource}
use Rattle.derivation_items.specs.declared.line.LineSource.TheVariants.{Given, Skolemized, ClauseOf, Inferred}
use Rattle.derivation_items.specs.declared.line.ProofLine.{ProofLine}
use Rattle.limited_items.specs.Limits.{AreWithin}
use Rattle.limited_items.specs.Printed.{IsPrinted}
use Rattle.derivation_order.specs.Graphs.{AreNames, AreNodesFrom, IsGraphOf, IsName, IsNodeOf, RefersTo, names_of, refs_named}
use Rattle.derivation_order.specs.Links.{AreLinked, AreLinkedBehind, AreNamesIn, IsFrom, IsNameIn, IsOfLine}
use Rattle.derivation_order.proofs.Naming.{one_name, one_of_names, only_line, unnamed_nowhere}
use Rattle.derivation_order.proofs.Nodes.{AreMeant, all_meant, filed_refs, fresh_name, map_joined, other_text, word_name, word_names}
use Rattle.derivation_order.proofs.Order.{AreBefore, IsBefore, in_order_of_lines, none_left}
use Rattle.derivation_order.proofs.Sourced.{IsKnownWord, file_read, inference_read, named}

-- ---- what stands in a text of items

abbrev line_of : Text → ProofLine → Surface → Annotated
line_of file line formula = record { place = first_place; lang = Tff; name = name.Word line.name; role = role.Plain; body = body.Logic formula; source = Some (source_term (printable_text file) line.source); info = None }

module _ (file : Text) (v : Vocabulary) where
  lines_named : (lines : List ProofLine) (items : List Item) → AllZip (IsPrinted file v) lines items → names_in false items ≡ word_names lines
  lines_named [] [] z = refl
  lines_named [] (i ∷ items) z = absurd z
  lines_named (l ∷ lines) [] z = absurd z
  lines_named (l ∷ lines) (i ∷ items) z =
      ap (λ (x : Item). with_formula_name (formula_of false x) (names_in false items)) z.0.is ∙ ap (λ (ns : List Name). word_name l ∷ ns) (lines_named lines items z.1)

  no_line_types : (lines : List ProofLine) (items : List Item) → AllZip (IsPrinted file v) lines items → names_in true items ≡ []
  no_line_types [] [] z = refl
  no_line_types [] (i ∷ items) z = absurd z
  no_line_types (l ∷ lines) [] z = absurd z
  no_line_types (l ∷ lines) (i ∷ items) z = ap (λ (x : Item). with_formula_name (formula_of true x) (names_in true items)) z.0.is ∙ no_line_types lines items z.1

  as_many : (lines : List ProofLine) (items : List Item) → AllZip (IsPrinted file v) lines items → length lines ≡ length items
  as_many [] [] z = refl
  as_many [] (i ∷ items) z = absurd z
  as_many (l ∷ lines) [] z = absurd z
  as_many (l ∷ lines) (i ∷ items) z = ap suc (as_many lines items z.1)

names_behind : (k : ℕ) (typings : List Typing) (items : List Item) → names_in false (typing_items k typings ++ items) ≡ names_in false items
names_behind k [] items = refl
names_behind k (t ∷ typings) items = names_behind (k + 1) typings items

-- a name that no type line has
no_places : (word : Text) → ((k : ℕ) → word ≡ numbered_word (codes "y") k → ⊥) → (k n : ℕ) (typings : List Typing) (items : List Item) → names_in true items ≡ [] → places_from n (names_in true (typing_items k typings ++ items)) (name.Word word) ≡ []
no_places word apart k n [] items none = ap (λ (ns : List Name). places_from n ns (name.Word word)) none
no_places word apart k n (t ∷ typings) items none =
    cond-false (same_name (name.Word (numbered_word (codes "y") k)) (name.Word word)) (n ∷ places_from (n + 1) (names_in true (typing_items (k + 1) typings ++ items)) (name.Word word)) (places_from (n + 1) (names_in true (typing_items (k + 1) typings ++ items)) (name.Word word)) (other_text (numbered_word (codes "y") k) word (λ e. apart k (sym e)))
    ∙ no_places word apart (k + 1) (n + 1) typings items none

nodes_behind : (means : Means) (k at : ℕ) (typings : List Typing) (items : List Item) → nodes_from means [] at (typing_items k typings ++ items) ≡ nodes_from means [] (at + length typings) items
nodes_behind means k at [] items = let same : at ≡ at + 0 = omega arith in ap (λ (n : ℕ). nodes_from means [] n items) same
nodes_behind means k at (t ∷ typings) items =
    let on : at + 1 + length typings ≡ at + suc (length typings) = omega arith in
    nodes_behind means (k + 1) (at + 1) typings items ∙ ap (λ (n : ℕ). nodes_from means [] n items) on

typing_count : (k : ℕ) (typings : List Typing) → length (typing_items k typings) ≡ length typings
typing_count k [] = refl
typing_count k (t ∷ typings) = ap suc (typing_count (k + 1) typings)

-- ---- the node of a line

abbrev AreOwned : List ProofLine → Type 0
AreOwned lines = (word : Text) → IsNameIn lines word → IsOfLine word

known_words : (lines : List ProofLine) → AreOwned lines → (words : List Text) → AreNamesIn lines words → AllByRecursion IsKnownWord words
known_words lines own [] h = tt
known_words lines own (word ∷ words) h = ((own word h.0).known, known_words lines own words h.2)

given_before : (n : ℕ) (ks : List ℕ) → AllByRecursion (IsBefore n) (map ref.Given ks)
given_before n [] = tt
given_before n (k ∷ ks) = (tt, given_before n ks)

named_before : (n : ℕ) (given : List GivenEntry) (one : Name) → AllByRecursion (IsBefore n) (refs_named given one)
named_before n given (name.Word word) = by (same_name (name.Word word) (name.Word (codes "unknown")))
  where
    by : (b : Bool) → AllByRecursion (IsBefore n) (if b then [] else map ref.Given (places (names_of given) (name.Word word)))
    by true = tt
    by false = given_before n (places (names_of given) (name.Word word))
named_before n given (name.Integer number) = given_before n (places (names_of given) (name.Integer number))

module _ (file : Text) (v : Vocabulary) (given : List GivenEntry) (numerals : AreNames given) (means : Means) (all : List ProofLine) (lines_mean : means.lines ≡ places (word_names all)) (given_mean : means.given ≡ places (names_of given))
    (types_mean : (word : Text) → IsOfLine word → means.types (name.Word word) ≡ []) where
  -- the node of a line, which is that item
  record HasNode (earlier : List ProofLine) (at : ℕ) (line : ProofLine) (formula : Surface) : Type 0 where
    node : Node
    answer : line_answer means (word_names earlier) at (line_of file line formula) ≡ Ok node
    is : IsNodeOf given all at line.source node
    before_it : AllByRecursion (IsBefore (length earlier)) node.parents

  fresh : (earlier : List ProofLine) (at : ℕ) (line : ProofLine) (formula : Surface) → (IsNameIn earlier line.name → ⊥)
      → line_answer means (word_names earlier) at (line_of file line formula) ≡ read_line means at (line_of file line formula) (source_of (Some (source_term (printable_text file) line.source)))
  fresh earlier at line formula new =
      ap (λ (b : Bool). if b then Err (DuplicateLine first_place (name.Word line.name)) else read_line means at (line_of file line formula) (source_of (Some (source_term (printable_text file) line.source)))) (fresh_name earlier line.name new)

  step_answer : (earlier rest : List ProofLine) (at : ℕ) (a : Annotated) (words : List Text) → (m : AreMeant given means all lines_mean given_mean earlier words [])
      → read_line means at a (Some (record { is_step = true; gives = map named words })) ≡ Ok (node_of at true m.refs)
  step_answer earlier rest at a words m =
      ap (λ (o : Option Name). known_line a o (node_of at true (parents means (map named words)))) m.none_unknown ∙ ap (λ (rs : List Ref). Ok (node_of at true rs)) m.are

  words_meant : (earlier rest : List ProofLine) → all ≡ earlier ++ rest → AreOwned earlier → (words : List Text) → AreNamesIn earlier words → AreMeant given means all lines_mean given_mean earlier words []
  words_meant earlier rest whole own words names =
      all_meant given means all lines_mean given_mean earlier rest whole words [] names (λ w h. types_mean w (own w (one_of_names earlier words names w h))) (λ w h k line at is. refl)

  -- the node of a line that is inferred from lines of these words
  step_node : (earlier rest : List ProofLine) → all ≡ earlier ++ rest → AreOwned earlier → (at : ℕ) (line : ProofLine) (formula : Surface) (rule status : Text) (words : List Text) → source_term (printable_text file) line.source ≡ inference_term rule status words
      → ((refs : List Ref) → AllZip (RefersTo all) words refs → IsNodeOf given all at line.source (node_of at true refs)) → (IsNameIn earlier line.name → ⊥) → AreNamesIn earlier words → HasNode earlier at line formula
  step_node earlier rest whole own at line formula rule status words told is new names =
      let m = words_meant earlier rest whole own words names in
      record {
        node = node_of at true m.refs;
        answer =
            fresh earlier at line formula new ∙ ap (λ (term : GTerm). read_line means at (line_of file line formula) (source_of (Some term))) told
            ∙ ap (read_line means at (line_of file line formula)) (inference_read rule status words (known_words earlier own words names))
            ∙ step_answer earlier rest at (line_of file line formula) words m;
        is = is m.refs m.refer;
        before_it = m.before;
      }

  node_by : (earlier rest : List ProofLine) → all ≡ earlier ++ rest → AreOwned earlier → (at : ℕ) (n : Text) (form : Form) (formula : Surface) (source : LineSource) → (IsNameIn earlier n → ⊥) → IsFrom given earlier form source
      → HasNode earlier at (record { name = n; form = form; source = source }) formula
  node_by earlier rest whole own at n form formula (Given one) new from =
      let is : IsName one = subst IsName (sym from.2) (numerals from.1.at from.0 from.1.there) in
      let line : ProofLine = record { name = n; form = form; source = Given one } in
      record {
        node = node_of at false (parents means (cited Filed one));
        answer = fresh earlier at line formula new ∙ ap (read_line means at (line_of file line formula)) (file_read (printable_text file) one is);
        is = record { at = refl; leaf = refl; cited = refl; parents = filed_refs given means all lines_mean given_mean one };
        before_it = subst (AllByRecursion (IsBefore (length earlier))) (sym (filed_refs given means all lines_mean given_mean one)) (named_before (length earlier) given one);
      }
  node_by earlier rest whole own at n form formula (Skolemized word) new from =
      step_node earlier rest whole own at (record { name = n; form = form; source = Skolemized word }) formula (codes "skolemize") (codes "esa") (word ∷ []) refl (λ refs refer. record { at = refl; leaf = refl; cited = refl; parents = refer }) new (one_name earlier word from)
  node_by earlier rest whole own at n form formula (ClauseOf word) new from =
      step_node earlier rest whole own at (record { name = n; form = form; source = ClauseOf word }) formula (codes "clause") (codes "thm") (word ∷ []) refl (λ refs refer. record { at = refl; leaf = refl; cited = refl; parents = refer }) new (one_name earlier word from)
  node_by earlier rest whole own at n form formula (Inferred words) new from =
      step_node earlier rest whole own at (record { name = n; form = form; source = Inferred words }) formula (codes "infer") (codes "thm") words refl (λ refs refer. record { at = refl; leaf = refl; cited = refl; parents = refer }) new from

  -- ---- the nodes of lines

  record HaveNodes (earlier : List ProofLine) (at : ℕ) (lines : List ProofLine) (items : List Item) : Type 0 where
    nodes : List Node
    made : nodes_from means (word_names earlier) at items ≡ Ok nodes
    are : AreNodesFrom given all at lines nodes
    before_them : AreBefore (length earlier) nodes
    count : length nodes ≡ length lines

  owned_more : (earlier : List ProofLine) (line : ProofLine) → AreOwned earlier → IsOfLine line.name → AreOwned (earlier ++ line ∷ [])
  owned_more earlier line own one word h =
      elim (has_split earlier (line ∷ []) h.1 h.0 h.2) [
        | inl before ↦ own word (before.0, h.1, before.1, h.3)
        | inr here ↦ subst IsOfLine (ap (λ (l : ProofLine). l.name) (only_line line h.1 here) ∙ h.3) one
      ]

  nodes_for : (earlier lines : List ProofLine) (items : List Item) (at : ℕ) → all ≡ earlier ++ lines → AreOwned earlier → AreLinkedBehind given earlier lines → AllZip (IsPrinted file v) lines items → HaveNodes earlier at lines items
  nodes_for earlier [] [] at whole own linked z = record { nodes = []; made = refl; are = refl; before_them = tt; count = refl }
  nodes_for earlier [] (i ∷ items) at whole own linked z = absurd z
  nodes_for earlier (l ∷ lines) [] at whole own linked z = absurd z
  nodes_for earlier (l ∷ lines) (i ∷ items) at whole own linked z =
      let one = node_by earlier (l ∷ lines) whole own at l.name l.form z.0.formula l.source linked.0.new linked.0.from in
      let long : length (earlier ++ l ∷ []) ≡ length earlier + 1 = length-append earlier (l ∷ []) in
      let rest = nodes_for (earlier ++ l ∷ []) lines items (at + 1) (whole ∙ sym (append_assoc earlier (l ∷ []) lines)) (owned_more earlier l own linked.0.own) linked.1 z.1 in
      record {
        nodes = one.node ∷ rest.nodes;
        made =
            ap (λ (x : Item). nodes_from means (word_names earlier) at (x ∷ items)) z.0.is
            ∙ ap (λ (a : Result Node GraphFault). before a (nodes_from means (word_names earlier ++ word_name l ∷ []) (at + 1) items)) one.answer
            ∙ ap (λ (ns : List Name). before (Ok one.node) (nodes_from means ns (at + 1) items)) (sym (map_joined earlier (l ∷ [])))
            ∙ ap (before (Ok one.node)) rest.made;
        are = (one.node, rest.nodes, refl, one.is, rest.are);
        before_them = (one.before_it, subst (λ (k : ℕ). AreBefore k rest.nodes) long rest.before_them);
        count = ap suc rest.count;
      }

-- ---- the graph

module _ (file : Text) (v : Vocabulary) (first : ℕ) (given : List GivenEntry) (numerals : AreNames given) (lines : List ProofLine) (linked : AreLinked given lines) (items : List Item) (within : AreWithin file v first given lines items) where
  abbrev of_lines : List Item
  of_lines = within.printed.of_lines

  few_items : IsOverLimit items → ⊥
  few_items over =
      let most = count_by-le-length is_formula items in
      let whole = ap (λ (is : List Item). length is) within.printed.are in
      let joined = length-append (typing_items 0 (typings_of v first)) of_lines in
      let types = typing_count 0 (typings_of v first) in
      let lined = as_many file v lines of_lines within.printed.each in
      let few = within.few in
      omega arith

  pub graph_of_lines : (graph : Graph) × IsGraph items (names_of given) graph × IsGraphOf given (length (typings_of v first)) lines graph
  graph_of_lines =
      let lines_mean : (means_of items (names_of given)).lines ≡ places (word_names lines) =
      ap (λ (is : List Item). places (names_in false is)) within.printed.are ∙ ap places (names_behind 0 (typings_of v first) of_lines ∙ lines_named file v lines of_lines within.printed.each) in
      let types_mean : (word : Text) → IsOfLine word → (means_of items (names_of given)).types (name.Word word) ≡ [] = λ word own.
      ap (λ (is : List Item). places (names_in true is) (name.Word word)) within.printed.are
      ∙ no_places word own.no_type 0 0 (typings_of v first) of_lines (no_line_types file v lines of_lines within.printed.each) in
      let all = nodes_for file v given numerals (means_of items (names_of given)) lines lines_mean refl types_mean [] lines of_lines (0 + length (typings_of v first)) refl (λ word h. absurd (unnamed_nowhere word h)) linked within.printed.each in
      let made : nodes_of (means_of items (names_of given)) items ≡ Ok all.nodes =
      ap (nodes_of (means_of items (names_of given))) within.printed.are ∙ nodes_behind (means_of items (names_of given)) 0 0 (typings_of v first) of_lines ∙ all.made in
      let same : 0 + length (typings_of v first) ≡ length (typings_of v first) = omega arith in (
        record { nodes = all.nodes; order = range_with_len 0 (length all.nodes) },
        record { few = few_items; is_graph = record { nodes = made; order = in_order_of_lines all.nodes all.before_them; all = none_left all.nodes } },
        record { nodes = subst (λ (n : ℕ). AreNodesFrom given lines n lines all.nodes) same all.are; order = ap (range_with_len 0) all.count },
      )
