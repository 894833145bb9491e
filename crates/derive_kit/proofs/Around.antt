-- Formulas that are moved among further variables.
use Rattle.std.specs.Prelude.{ℕ, ◌+◌, ◌-◌, ◌≡◌, List, [], ◌∷◌, length, slice_get, Some, refl}
use Rattle.std.proofs.Common.{ap, sym, ◌∙◌, arith, inl, inr}
use Rattle.fof_terms.specs.declared.term.Term.{Var}
use Rattle.fof_terms.specs.declared.form.Form.{Form}
use Rattle.fof_terms.specs.Lift.{lifted, lifted_term}
use Rattle.fof_terms.proofs.LiftingLaws.{below_or_above, stays, moves}
use Rattle.fof_terms.proofs.Walks.{both_terms, both_walks, lifting_term, lifting, staying_term, staying, same_terms, same_forms}
use Rattle.kernel.specs.Proves.{over, all_over}

-- Formulas that are lifted by nothing, twice, or over a variable and instantiated there.
nothing_var : (d k : ℕ) → lifted_term 0 d (Var k) ≡ Var k
nothing_var d k =
    elim (below_or_above k d) [
      | inl h ↦ stays 0 d k h
      | inr h ↦ let same : k + 0 ≡ k = omega arith in moves 0 d k h ∙ ap Var same
    ]

nothing_form : (a : Form) (d : ℕ) → lifted 0 d a ≡ a
nothing_form = same_forms _ _ _ _ (lifting 0 (λ d. d) (λ d. refl)) staying (λ d. same_terms _ _ (lifting_term 0 d) staying_term (nothing_var d))

twice_var : (m n total d k : ℕ) → total ≡ m + n → lifted_term m d (lifted_term n d (Var k)) ≡ lifted_term total d (Var k)
twice_var m n total d k e =
    elim (below_or_above k d) [
      | inl h ↦ rw (stays n d k h, stays total d k h) (stays m d k h)
      | inr h ↦ let same : k + n + m ≡ k + total = omega arith in rw (moves n d k h, moves total d k h) (moves m d (k + n) (omega arith) ∙ ap Var same)
    ]

pub twice_form : (m n total : ℕ) → total ≡ m + n → (a : Form) (d : ℕ) → lifted m d (lifted n d a) ≡ lifted total d a
twice_form m n total e =
    same_forms _ _ _ _ (both_walks _ _ _ _ (lifting m (λ d. d) (λ d. refl)) (lifting n (λ d. d) (λ d. refl))) (lifting total (λ d. d) (λ d. refl))
    (λ d. same_terms _ _ (both_terms _ _ (lifting_term m d) (lifting_term n d)) (lifting_term total d) (λ k. twice_var m n total d k e))

-- the hypotheses over the variables of these sorts
abbrev pub all_around : List ℕ → List Form → List Form
all_around [] h = h
all_around (s ∷ sorts) h = all_around sorts (all_over h)

pub head_around : (sorts : List ℕ) (h : List Form) (a : Form) → slice_get (all_around sorts (a ∷ h)) 0 ≡ Some (lifted (length sorts) 0 a)
head_around [] h a = ap Some (sym (nothing_form a 0))
head_around (s ∷ sorts) h a = head_around sorts (all_over h) (over a) ∙ ap Some (twice_form (length sorts) 1 (length (s ∷ sorts)) (omega arith) a 0)
