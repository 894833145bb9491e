-- What is asked of the check of a proof, by the items that are printed.
use Rattle.std.specs.Prelude.{ℕ, ◌≡◌, ◌<◌, ◌^◌, List, Some, length}
use Rattle.fof_terms.specs.Vocabulary.{Vocabulary}
use Rattle.kernel.specs.Statements.{Statements}
use Rattle.sort_check.specs.declared.line.GivenEntry.{GivenEntry}
use Rattle.tptp_base.specs.declared.item.Item.{Item}
use Rattle.tstp_graph.specs.Graphs.{IsGraph}
use Rattle.tstp_graph.proofs.OneGraph.{one_graph as same_graph}
use Rattle.derivation_check.specs.Claim.{default_word}
use Rattle.derivation_text.specs.declared.derivation.Derivation.{Derivation as Checked}
use Rattle.derivation_check.specs.Cases.{Asked, claimed}
use Rattle.derivation_check.specs.GoodCases.{IsGoodCase}
use Rattle.derivation_items.specs.Typings.{typings_of}
use Rattle.derivation_items.specs.Words.{Text}
use Rattle.limited_items.specs.Limits.{AreWithin}
use Rattle.limited_items.specs.Sources.{forms_given}
use Rattle.refutation_lines.specs.declared.derivation.Derivation.{Derivation}
use Rattle.problem_proofs.specs.Found.{IsFound, vocabulary_of}
use Rattle.derivation_order.specs.Graphs.{AreNames, names_of}
use Rattle.derivation_order.proofs.Alike.{one_graph}
use Rattle.derivation_order.proofs.Found.{found_linked}
use Rattle.derivation_order.proofs.Graphed.{graph_of_lines}
use Rattle.derivation_follows.specs.Cases.{IsReadAs}
use Rattle.derivation_follows.specs.Stepping.{StepsApply}
use Rattle.derivation_follows.specs.Sure.{IsSure}
use Rattle.derivation_follows.proofs.Cases.{found_case}

pub printed_case : (v : Vocabulary) (given : List GivenEntry) (limit : ℕ) (d : Derivation) → length given < 2 ^ 64 → limit < 2 ^ 32 → AreNames given → IsFound v given limit d → (file : Text) (items : List Item)
    → AreWithin file (vocabulary_of v d) (length v.symbols) given d.lines items → StepsApply (vocabulary_of v d) given d.lines → (asked : Asked) (t : Statements) (checked : Checked) → t.formulas ≡ forms_given given → IsReadAs given d.lines items checked
    → claimed asked.output ≡ Some (default_word asked.has_conjecture) → IsSure (IsGoodCase asked t checked (vocabulary_of v d))
printed_case v given limit d few less names f file items within steps asked t checked formulas read word =
    let own = graph_of_lines file (vocabulary_of v d) (length v.symbols) given names d.lines (found_linked v given limit d f few less) items within in
    let moved : IsGraph read.spelled (names_of given) own.0 = one_graph items read.spelled read.same (names_of given) own.0 own.1 in
    let graph : checked.graph ≡ own.0 = same_graph read.spelled (names_of given) checked.graph own.0 read.graph moved in
    found_case v given limit d few less f (length (typings_of (vocabulary_of v d) (length v.symbols))) own.0 own.2 (vocabulary_of v d) steps within.room asked t checked formulas graph read.forms word
