-- The lines as a check of a derivation sees them: formulas and the nodes of the graph.
use Rattle.std.specs.Prelude.{ℕ, ◌≡◌, List, Some, map, slice_get, take}
use Rattle.fof_terms.specs.declared.form.Form.{Form}
use Rattle.clause_form.specs.Paths.{forms_of}
use Rattle.sort_check.specs.declared.line.GivenEntry.{GivenEntry}
use Rattle.tstp_graph.specs.declared.shape.Graph.{Graph}
use Rattle.tstp_graph.specs.declared.shape.Node.{Node}
use Rattle.verifier.specs.Good.{cited_forms, without_numbers}
use Rattle.verifier.specs.Lines.{Derivation, sources_of}
use Rattle.limited_items.specs.Sources.{forms_given, source_forms}
use Rattle.derivation_items.specs.declared.line.ProofLine.{ProofLine}
use Rattle.derivation_order.specs.Graphs.{is_given}

abbrev pub forms_in : List ProofLine → List Form
forms_in lines = map (λ (l : ProofLine). l.form) lines

-- the lines with this graph, and with the limit of a search
abbrev pub derivation_by : List GivenEntry → List ProofLine → Graph → ℕ → Derivation
derivation_by given lines graph limit =
    record { given = forms_given given; nodes = graph.nodes; forms = forms_in lines; limit = limit }

-- The line of that number has a node. The formulas that the node refers to are there, and the line is to follow from
-- those that its source names among the given formulas and the lines before it.
pub record HasSources (given : List GivenEntry) (lines : List ProofLine) (graph : Graph) (k : ℕ)
    (line : ProofLine) : Type 0 where
  pub node : Node
  pub there : slice_get graph.nodes k ≡ Some node
  pub leaf : node.leaf ≡ is_given line.source
  pub forms : List Form
  pub cited : cited_forms (forms_given given) (forms_in lines) node.parents ≡ Some forms
  pub sources : forms_of (sources_of node.leaf (forms_given given) node.cited (without_numbers forms))
      ≡ source_forms given (take k lines) line.source
