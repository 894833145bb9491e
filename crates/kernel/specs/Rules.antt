-- The rules, read forth and back.
use Rattle.std.specs.Prelude.{ℕ, List, [], ◌∷◌}
use Rattle.fof_terms.specs.declared.form.Form.{Form}
use Rattle.kernel.specs.Statements.{Statements}
use Rattle.kernel.specs.Proves.{Proves}
use Rattle.kernel.specs.declared.proof.Proof.{Proof}

-- each proof shows the formula under the member at its place
abbrev pub ProveEach : Statements → List ℕ → List Form → List Proof → List Form → Form → Type 0
ProveEach t v h [] [] a = Unit {0}
ProveEach t v h [] (b ∷ bs) a = ⊥
ProveEach t v h (p ∷ ps) [] a = ⊥
ProveEach t v h (p ∷ ps) (b ∷ bs) a = Proves t v (b ∷ h) p a × ProveEach t v h ps bs a
