-- Where there is room for the lines by what their sources name, there is room by what their nodes refer to.
use Rattle.std.specs.Prelude.{ℕ, ◌≡◌, List, Some, length}
use Rattle.std.proofs.Common.{ap, sym, subst, ◌∙◌}
use Rattle.inference_proofs.proofs.Kept.{image_from}
use Rattle.fof_terms.specs.Vocabulary.{Vocabulary}
use Rattle.fof_terms.specs.declared.form.Form.{Form}
use Rattle.clause_form.specs.Paths.{forms_of}
use Rattle.sort_check.specs.declared.line.GivenEntry.{GivenEntry}
use Rattle.step_clauses.specs.Room.{HasRoom}
use Rattle.tstp_graph.specs.declared.shape.Graph.{Graph}
use Rattle.tstp_graph.specs.declared.shape.Node.{Node}
use Rattle.verifier.specs.Good.{HaveRoom, cited_forms, without_numbers}
use Rattle.verifier.specs.Lines.{sources_of}
use Rattle.limited_items.specs.Sources.{forms_given}
use Rattle.derivation_items.specs.declared.line.ProofLine.{ProofLine}
use Rattle.derivation_order.specs.Cited.{derivation_by, forms_in}
use Rattle.derivation_order.specs.Graphs.{IsGraphOf}
use Rattle.derivation_order.specs.Links.{AreLinked}
use Rattle.derivation_order.proofs.Cited.{sources_at}
use Rattle.limited_items.specs.Room as limited

same_node : (a b : Node) → Some a ≡ Some b → a ≡ b
same_node a b e = cc

same_forms : (a b : List Form) → Some a ≡ Some b → a ≡ b
same_forms a b e = cc

pub have_room : (w : Vocabulary) (given : List GivenEntry) (lines : List ProofLine) (types : ℕ) (graph : Graph) (limit : ℕ) → AreLinked given lines → IsGraphOf given types lines graph → limited.HaveRoom (length w.symbols) given lines
    → HaveRoom w (derivation_by given lines graph limit)
have_room w given lines types graph limit linked is room place line forms at cited =
    let l = image_from (λ (x : ProofLine). x.form) lines line.form place at.form in
    let s = sources_at given lines linked place types graph is l.0 l.1 in
    let node : s.node ≡ line.node = same_node s.node line.node (sym s.there ∙ at.node) in
    let own : s.forms ≡ forms = same_forms s.forms forms (sym s.cited ∙ ap (λ (n : Node). cited_forms (forms_given given) (forms_in lines) n.parents) node ∙ cited) in
    let here = room place l.0 l.1 in
    let sources : HasRoom (length w.symbols) (forms_of (sources_of s.node.leaf (forms_given given) s.node.cited (without_numbers s.forms))) l.0.form = subst (λ (fs : List Form). HasRoom (length w.symbols) fs l.0.form) (sym s.sources) here in
    let of_node = subst (λ (n : Node). HasRoom (length w.symbols) (forms_of (sources_of n.leaf (forms_given given) n.cited (without_numbers s.forms))) l.0.form) node sources in
    let of_forms = subst (λ (fs : List Form). HasRoom (length w.symbols) (forms_of (sources_of line.node.leaf (forms_given given) line.node.cited (without_numbers fs))) l.0.form) own of_node in
    subst (HasRoom (length w.symbols) (forms_of (sources_of line.node.leaf (forms_given given) line.node.cited (without_numbers forms)))) l.2 of_forms
