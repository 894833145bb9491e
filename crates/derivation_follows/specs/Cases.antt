-- The printed text of a derivation as it is read: its items but for their places, their graph, and the formulas of the
-- lines.
use Rattle.std.specs.Prelude.{◌≡◌, List}
use Rattle.canon_print.specs.RoundTrip.{AreSame}
use Rattle.sort_check.specs.declared.line.GivenEntry.{GivenEntry}
use Rattle.tptp_base.specs.declared.item.Item.{Item}
use Rattle.tstp_graph.specs.Graphs.{IsGraph}
use Rattle.derivation_text.specs.declared.derivation.Derivation.{Derivation}
use Rattle.derivation_items.specs.declared.line.ProofLine.{ProofLine}
use Rattle.derivation_order.specs.Cited.{forms_in}
use Rattle.derivation_order.specs.Graphs.{names_of}

pub record IsReadAs (given : List GivenEntry) (lines : List ProofLine) (items : List Item)
    (checked : Derivation) : Type 0 where
  pub spelled : List Item
  pub same : AreSame items spelled
  pub graph : IsGraph spelled (names_of given) checked.graph
  pub forms : checked.forms ≡ forms_in lines
