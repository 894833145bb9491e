-- Functions that occur in a line are others than a symbol that does not.
use Rattle.std.specs.Prelude.{ℕ, ◌≡◌, ◌==◌, Bool, true, false, List, [], ◌∷◌, refl}
use Rattle.std.specs.List.{AllByRecursion as Each}
use Rattle.std.proofs.Common.{ap, ◌⊎◌, inl, inr, arith}
use Rattle.std.proofs.lemmas.Bool.Decides.{nat_tests}
use Rattle.fof_terms.specs.declared.form.Form.{Form}
use Rattle.fof_terms.specs.Occurs.{occurs_in}
use Rattle.skolem_fresh.specs.declared.just.Use.{Use}
use Rattle.skolem_proofs.specs.Choosing.{AreOthers}

module _ (k : ℕ) where
  same_symbol : (f : ℕ) → (f == k) ≡ true → f ≡ k
  same_symbol f e = grind (arith, nat_tests)

  either : (b : Bool) → (b ≡ true) ⊎ (b ≡ false)
  either true = inl refl
  either false = inr refl

  -- functions that occur where the symbol does not are others
  pub others_there : (line : Form) (uses : List Use) → occurs_in k line ≡ false → Each (λ (u : Use). occurs_in u.function line ≡ true) uses → AreOthers k uses
  others_there line [] off occur = tt
  others_there line (u ∷ uses) off occur = (
    elim (either (u.function == k)) [
      | inl e ↦ absurd (let same : occurs_in u.function line ≡ occurs_in k line = ap (λ f. occurs_in f line) (same_symbol u.function e) in let here = occur.0 in cc)
      | inr e ↦ e
    ],
    others_there line uses off occur.1,
  )
