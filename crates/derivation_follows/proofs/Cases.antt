-- What a good case is put together from.
use Rattle.std.specs.Prelude.{ℕ, ◌≡◌, ◌<◌, ◌^◌, Bool, true, false, List, Option, Some, length, refl}
use Rattle.std.proofs.Common.{ap, sym, subst, ◌∙◌, inl, inr}
use Rattle.fof_terms.specs.Vocabulary.{Vocabulary}
use Rattle.fof_terms.specs.declared.form.Form.{Form}
use Rattle.kernel.specs.Statements.{Statements}
use Rattle.sort_check.specs.declared.line.GivenEntry.{GivenEntry}
use Rattle.tstp_graph.specs.declared.shape.Graph.{Graph}
use Rattle.tstp_graph.specs.declared.shape.Ref.{Ref}
use Rattle.derivation_check.specs.Claim.{IsJustified, JustifiesSome, default_word}
use Rattle.verifier.specs.Good.{HaveRoom, IsGood}
use Rattle.verifier.specs.Lines.{Derivation as Lined}
use Rattle.derivation_check.specs.declared.claiming.Claim.{Claim}
use Rattle.derivation_text.specs.declared.derivation.Derivation.{Derivation as Checked}
use Rattle.derivation_check.specs.Cases.{Asked, claimed, lines_over}
use Rattle.derivation_check.specs.GoodCases.{IsGoodCase, claim_citing}
use Rattle.limited_items.specs.Sources.{forms_given}
use Rattle.limited_items.specs.Room as limited
use Rattle.refutation_lines.specs.declared.derivation.Derivation.{Derivation}
use Rattle.problem_proofs.specs.Found.{IsFound}
use Rattle.derivation_order.specs.Cited.{derivation_by, forms_in}
use Rattle.derivation_order.specs.Graphs.{IsGraphOf}
use Rattle.derivation_order.proofs.Found.{found_linked}
use Rattle.derivation_order.proofs.Rooms.{have_room}
use Rattle.derivation_follows.specs.Stepping.{StepsApply}
use Rattle.derivation_follows.specs.Sure.{IsSure}
use Rattle.derivation_follows.proofs.Whole.{found_good}

-- the word of a proof is justified
pub default_justified : (claim : Claim) → claim.word ≡ Some (default_word claim.has_conjecture) → IsJustified claim
default_justified claim e = subst (λ (o : Option (List ℕ)). JustifiesSome o claim.has_conjecture claim.cites_conjecture) (sym e) (by claim.has_conjecture)
  where
    by : (b : Bool) → JustifiesSome (Some (default_word b)) b claim.cites_conjecture
    by true = inl (refl, refl)
    by false = inr (inl (refl, refl))

case_sure : (asked : Asked) (t : Statements) (d : Checked) (w : Vocabulary) → claimed asked.output ≡ Some (default_word asked.has_conjecture) → HaveRoom w (lines_over t d asked.limit)
    → IsSure ((cites : List Ref) × IsGood w (lines_over t d asked.limit) d.graph.order cites) → IsSure (IsGoodCase asked t d w)
case_sure asked t d w word room good = λ none. good (λ is. none (record { cites = is.0; good = is.1; justified = default_justified (claim_citing asked is.0) word; room = room }))

lines_same : (given : List GivenEntry) (d : Derivation) (graph : Graph) (limit : ℕ) (t : Statements) (checked : Checked) → t.formulas ≡ forms_given given → checked.graph ≡ graph → checked.forms ≡ forms_in d.lines
    → derivation_by given d.lines graph limit ≡ lines_over t checked limit
lines_same given d graph limit t checked formulas is_graph forms =
    ap (λ (fs : List Form). record { given = fs; nodes = graph.nodes; forms = forms_in d.lines; limit = limit }) (sym formulas)
    ∙ ap (λ (g : Graph). record { given = t.formulas; nodes = g.nodes; forms = forms_in d.lines; limit = limit }) (sym is_graph)
    ∙ ap (λ (fs : List Form). record { given = t.formulas; nodes = checked.graph.nodes; forms = fs; limit = limit }) (sym forms)

pub found_case : (v : Vocabulary) (given : List GivenEntry) (limit : ℕ) (d : Derivation) → length given < 2 ^ 64 → limit < 2 ^ 32 → IsFound v given limit d → (types : ℕ) (graph : Graph) → IsGraphOf given types d.lines graph → (w : Vocabulary)
    → StepsApply w given d.lines → limited.HaveRoom (length w.symbols) given d.lines → (asked : Asked) (t : Statements) (checked : Checked) → t.formulas ≡ forms_given given → checked.graph ≡ graph → checked.forms ≡ forms_in d.lines
    → claimed asked.output ≡ Some (default_word asked.has_conjecture) → IsSure (IsGoodCase asked t checked w)
found_case v given limit d few less f types graph is w steps room asked t checked formulas is_graph forms word =
    let same = lines_same given d graph asked.limit t checked formulas is_graph forms in
    let own : HaveRoom w (derivation_by given d.lines graph asked.limit) = have_room w given d.lines types graph asked.limit (found_linked v given limit d f few less) is room in
    let good : IsSure ((cites : List Ref) × IsGood w (derivation_by given d.lines graph asked.limit) graph.order cites) = found_good v given limit d f few less types graph is w steps asked.limit in
    case_sure asked t checked w word (subst (HaveRoom w) same own)
    (subst (λ (l : Lined). IsSure ((cites : List Ref) × IsGood w l checked.graph.order cites)) same
    (subst (λ (g : Graph). IsSure ((cites : List Ref) × IsGood w (derivation_by given d.lines graph asked.limit) g.order cites)) (sym is_graph) good))
