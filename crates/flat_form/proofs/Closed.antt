-- The closing of a body, as code makes it.
use Rattle.std.specs.Prelude.{ℕ, ◌≡◌, ◌≤◌, ◌<◌, ◌↔◌, List, length, map}
use Rattle.std.proofs.Common.{ap, ◌∙◌, inl, inr}
use Rattle.fof_terms.specs.declared.form.Form.{Form}
use Rattle.fof_terms.proofs.LiftingLaws.{below_or_above}
use Rattle.clause_form.specs.ClauseView.{closed_by}
use Rattle.flat_form.specs.Flat.{order_of, new_number, sort_of, closed_in, close_over}
use Rattle.flat_form.specs.Renumbered.{renumbered}
use Rattle.flat_form.specs.Numbers.{listed}
use Rattle.flat_form.proofs.Renumbering.{same_numbers}

pub close_done : (sorts order numbers near outer outside_sorts : List ℕ) (outside : ℕ) (a inner body whole : Form) → order ≡ order_of (length sorts) a
    → ((k : ℕ) → listed numbers (length order) k ≡ new_number order (length sorts) k) → near ≡ numbers → outside ≡ length order → inner ≡ renumbered (listed near outside) 0 a
    → outer ≡ map (sort_of sorts) order → outside_sorts ≡ outer → body ≡ inner → whole ≡ closed_by outside_sorts body → whole ≡ close_over sorts a
close_done sorts order numbers near outer outside_sorts outside a inner body whole in_order numbers_are is_near count made sorts_are is_outer is_body closed =
    let at : inner ≡ renumbered (new_number order (length sorts)) 0 a =
    made ∙ (ap (λ xs. renumbered (listed xs outside) 0 a) is_near ∙ (ap (λ n. renumbered (listed numbers n) 0 a) count ∙ same_numbers (listed numbers (length order)) (new_number order (length sorts)) numbers_are a 0)) in
    closed
    ∙ (ap (λ xs. closed_by xs body) (is_outer ∙ sorts_are)
    ∙ (ap (closed_by (map (sort_of sorts) order)) (is_body ∙ at) ∙ ap (λ ks. closed_in ks sorts a) in_order))

-- what isn't wide is small
pub not_wide : (n : ℕ) (Wide : Type 0) → (Wide ↔ (100000 < n)) → (Wide → ⊥) → n ≤ 100000
not_wide n Wide h never = elim (below_or_above 100000 n) [ inl lt ↦ absurd (never (h.1 lt)) | inr le ↦ le ]
