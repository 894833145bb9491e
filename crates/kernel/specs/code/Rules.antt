-- What private contracts say, beside the definitions of specs/Rules.
use Rattle.std.specs.Prelude.{ℕ, List, [], ◌∷◌}
use Rattle.fof_terms.specs.declared.form.Form.{Form}
use Rattle.kernel.specs.Statements.{Statements}
use Rattle.kernel.specs.Proves.{Proves}
use Rattle.kernel.specs.declared.proof.Proof.{Proof}

-- each proof shows the formula at its place
abbrev pub ProveAll : Statements → List ℕ → List Form → List Proof → List Form → Type 0
ProveAll t v h [] [] = Unit {0}
ProveAll t v h [] (b ∷ bs) = ⊥
ProveAll t v h (p ∷ ps) [] = ⊥
ProveAll t v h (p ∷ ps) (b ∷ bs) = Proves t v h p b × ProveAll t v h ps bs
