-- The graph of a derivation whose lines name lines before them: the nodes stand in the order of the lines, and so they
-- are checked (the TSTP part of the TPTP language).
use Rattle.std.specs.Prelude.{ℕ, ◌≡◌, ◌+◌, ⊤, true, false, Bool, List, [], ◌∷◌, Some, slice_get, length, map}
use Rattle.std.specs.Prelude.{if◌then◌else◌}
use Rattle.std.specs.List.{AllZip, range_with_len}
use Rattle.tptp_base.specs.Numerals.{is_integer}
use Rattle.tptp_base.specs.declared.name.Name.{Name}
use Rattle.tptp_base.specs.declared.name.Name.TheVariants as name
use Rattle.sort_check.specs.declared.line.GivenEntry.{GivenEntry}
use Rattle.tstp_graph.specs.declared.shape.Graph.{Graph}
use Rattle.tstp_graph.specs.declared.shape.Node.{Node}
use Rattle.tstp_graph.specs.declared.shape.Ref.{Ref}
use Rattle.tstp_graph.specs.declared.shape.Ref.TheVariants as ref
use Rattle.tstp_graph.specs.Meaning.{is_some_ref}
use Rattle.tstp_graph.specs.Tables.{places}
use Rattle.limited_items.specs.Sources.{is_unknown}
use Rattle.derivation_items.specs.Words.{Text}
use Rattle.derivation_items.specs.declared.line.LineSource.{LineSource}
use Rattle.derivation_items.specs.declared.line.LineSource.TheVariants.{Given, Skolemized, ClauseOf, Inferred}
use Rattle.derivation_items.specs.declared.line.ProofLine.{ProofLine}
use Rattle.derivation_order.specs.Links.{StandsAt}

abbrev pub names_of : List GivenEntry → List Name
names_of given = map (λ (g : GivenEntry). g.name) given

-- a name that is a number is an integer
abbrev pub IsName : Name → Type 0
IsName (name.Word word) = ⊤
IsName (name.Integer number) = is_integer number ≡ true

-- so are those of given formulas
abbrev pub AreNames : List GivenEntry → Type 0
AreNames given = (k : ℕ) (entry : GivenEntry) → slice_get given k ≡ Some entry → IsName entry.name

-- the reference is to a line of that name
abbrev pub RefersTo : List ProofLine → Text → Ref → Type 0
RefersTo lines word r = (k : ℕ) × (line : ProofLine) × StandsAt lines k line × (line.name ≡ word) × (r ≡ ref.Line k)

-- the given formulas of the name, or none where it is `unknown`
abbrev pub refs_named : List GivenEntry → Name → List Ref
refs_named given name = if is_unknown name then [] else map ref.Given (places (names_of given) name)

-- the references of a line with that source
abbrev pub AreRefs : List GivenEntry → List ProofLine → LineSource → List Ref → Type 0
AreRefs given lines (Given name) refs = refs ≡ refs_named given name
AreRefs given lines (Skolemized word) refs = AllZip (RefersTo lines) (word ∷ []) refs
AreRefs given lines (ClauseOf word) refs = AllZip (RefersTo lines) (word ∷ []) refs
AreRefs given lines (Inferred words) refs = AllZip (RefersTo lines) words refs

abbrev pub is_given : LineSource → Bool
is_given (Given name) = true
is_given (Skolemized word) = false
is_given (ClauseOf word) = false
is_given (Inferred words) = false

-- a line that copies a given formula is a leaf, which names what it cites; each other line is a step
pub record IsNodeOf (given : List GivenEntry) (lines : List ProofLine) (item : ℕ) (source : LineSource)
    (node : Node) : Type 0 where
  pub at : node.item ≡ item
  pub leaf : node.leaf ≡ is_given source
  pub cited : node.cited ≡ (if is_given source then is_some_ref node.parents else false)
  pub parents : AreRefs given lines source node.parents

-- these lines, of which the first is that item, have these nodes
abbrev pub AreNodesFrom : List GivenEntry → List ProofLine → ℕ → List ProofLine → List Node → Type 0
AreNodesFrom given all item [] nodes = nodes ≡ []
AreNodesFrom given all item (line ∷ lines) nodes =
    (node : Node) × (more : List Node) × (nodes ≡ node ∷ more) × IsNodeOf given all item line.source node
    × AreNodesFrom given all (item + 1) lines more

-- the graph of the lines, before which so many type lines stand
pub record IsGraphOf (given : List GivenEntry) (types : ℕ) (lines : List ProofLine) (graph : Graph) : Type 0 where
  pub nodes : AreNodesFrom given lines types lines graph.nodes
  pub order : graph.order ≡ range_with_len 0 (length lines)
