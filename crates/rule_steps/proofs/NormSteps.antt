-- The first parent that has the flat form of the line.
use Rattle.std.specs.Prelude.{ℕ, ◌<◌, ◌≤◌, ◌≡◌, ◌↔◌, Bool, true, false, IsTrue, List, Option, Some, None, MatchOption, slice_get, length}
use Rattle.std.proofs.Common.{sym, subst, ◌∙◌, arith}
use Rattle.std.proofs.lemmas.Option.{slice_get_within}
use Rattle.fof_terms.specs.declared.form.Form.{Form}
use Rattle.clause_form.specs.declared.path.Parent.{Parent}
use Rattle.clause_rules.specs.NormRule.{FlatsAlike, IsFirstNorm, IsNormStep}
use Rattle.rule_steps.specs.code.NormRule.{IsFirstAlike}
use Rattle.clause_rules.proofs.Firsts.{untrue, holds, one_at}
use Rattle.flat_form.specs.Flat.{HasFlat}

module _ (parents : List Parent) (made : Form) (i : ℕ) (p : Parent) (at : slice_get parents i ≡ Some p) (b : Bool) (test : IsTrue b ↔ HasFlat p.form made) where
  pub alike_at : b ≡ true → FlatsAlike parents made i
  alike_at e = record { parent = p; there = at; alike = holds b _ e test }

  pub not_alike_at : b ≡ false → FlatsAlike parents made i → ⊥
  not_alike_at e a = untrue b _ e test (subst (λ (q : Parent). HasFlat q.form made) (one_at parents i a.parent p a.there at) a.alike)

pub alike_nowhere : (parents : List Parent) (made : Form) (i : ℕ) → length parents ≤ i → ((k : ℕ) → k < i → FlatsAlike parents made k → ⊥) → (k : ℕ) → FlatsAlike parents made k → ⊥
alike_nowhere parents made i h none k a =
    let lt = slice_get_within parents k a.parent a.there in
    none k (omega arith) a

pub no_norm_step : (parents : List Parent) (line made : Form) → HasFlat line made → ((a : ℕ) → FlatsAlike parents made a → ⊥) → IsNormStep parents line → ⊥
no_norm_step parents line made has none h =
    let same : h.1.made ≡ made = sym h.1.of_line.same ∙ has.same in
    none h.0 (subst (λ m. FlatsAlike parents m h.0) same h.1.of_parent)

-- the first parent with the line's flat form
pub first_norm_of : (parents : List Parent) (line made : Form) → HasFlat line made → (found : Option ℕ) → MatchOption found ((a : ℕ) → FlatsAlike parents made a → ⊥) (IsFirstAlike parents made)
    → MatchOption found (IsNormStep parents line → ⊥) (IsFirstNorm parents line)
first_norm_of parents line made has None none = no_norm_step parents line made has none
first_norm_of parents line made has (Some a) first = (
  record { made = made; of_line = has; of_parent = first.0 },
  λ b lt h. first.1 b lt (subst (λ m. FlatsAlike parents m b) (sym h.of_line.same ∙ has.same) h.of_parent),
)
