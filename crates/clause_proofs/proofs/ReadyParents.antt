-- Parents that are ready for the rules, as code meets them.
use Rattle.std.specs.Prelude.{ℕ, ◌≡◌, List, [], Some, slice_get, get_or}
use Rattle.std.proofs.Common.{sym, ◌∙◌, arith}
use Rattle.std.proofs.lemmas.Option.{slice_get_within, slice_get-get_or}
use Rattle.std.proofs.lemmas.List.Elements.{recursion_from_All}
use Rattle.fof_terms.specs.declared.form.Form.{Form}
use Rattle.fof_terms.specs.Vocabulary.{Vocabulary}
use Rattle.fof_terms.specs.Sorts.{Sorted}
use Rattle.fof_terms.proofs.Scoped.{raised, member_of}
use Rattle.clause_form.specs.declared.path.Parent.{Parent}
use Rattle.clause_rules.specs.Steps.{IsReady, AreReady}
use Rattle.kernel.specs.Statements.{Statements}
use Rattle.derive_kit.specs.Derived.{AreOfTheory}

-- the parent at a place, as code meets it
pub parent_at : (parents : List Parent) (a : ℕ) (p r : Parent) → slice_get parents a ≡ Some p → r ≡ get_or parents a r → r ≡ p
parent_at parents a p r at is =
    let found : Some p ≡ Some (get_or parents a r) = sym at ∙ slice_get-get_or parents a r (slice_get_within parents a p at) in
    let value : p ≡ get_or parents a r = cc in
    is ∙ sym value

pub parent_ready : (w : Vocabulary) (parents : List Parent) (a : ℕ) (p : Parent) → AreReady w parents → slice_get parents a ≡ Some p → IsReady w p.form
parent_ready w parents a p ready at = member_of (λ (q : Parent). IsReady w q.form) parents a p (recursion_from_All (λ (q : Parent). IsReady w q.form) parents ready) at

pub of_theory : (t : Statements) (parents : List Parent) (a : ℕ) (p : Parent) → AreOfTheory t parents → slice_get parents a ≡ Some p → slice_get t.formulas p.number ≡ Some p.form
of_theory t parents a p all at = member_of (λ (q : Parent). slice_get t.formulas q.number ≡ Some q.form) parents a p (recursion_from_All (λ (q : Parent). slice_get t.formulas q.number ≡ Some q.form) parents all) at

pub full : (w : Vocabulary) (a : Form) → IsReady w a → Sorted w [] a
full w a r = raised w [] 1000000000 2147483647 a (omega arith) r
