-- The choice for a parent, as code ends with it.
use Rattle.std.specs.Prelude.{ℕ, ◌≡◌, ◌<◌, List, [], ◌++◌, length, Option, Some, None}
use Rattle.std.proofs.Common.{ap, subst, ◌∙◌, arith, inl, inr}
use Rattle.fof_terms.specs.declared.form.Form.{Form}
use Rattle.kernel.specs.Statements.{Statements}
use Rattle.function_choices.specs.declared.atoms.Placed.{Placed}
use Rattle.function_choices.specs.declared.choice.Choice.{Choice}
use Rattle.function_choices.specs.Atoms.{atoms_at}
use Rattle.function_choices.specs.Choice.{IsChoice, IsChoiceBy}
use Rattle.function_choices.specs.NewSymbols.{AreNewSymbols}

module _ (t : Statements) (parent line : Form) (start atoms : List Placed) (es : start ≡ []) (ea : atoms ≡ start ++ atoms_at 0 line) where
  all_atoms : atoms ≡ atoms_at 0 line
  all_atoms = ea ∙ ap (λ (ls : List Placed). ls ++ atoms_at 0 line) es

  pub too_many : (n : ℕ) → n ≡ length atoms → 10000 < n → IsChoice t parent line None
  too_many n e h = inl (let same = ap length all_atoms in omega arith)

  module _ (slice : List Placed) (el : slice ≡ atoms) (symbols listed : List ℕ) (ey : listed ≡ symbols) (new : AreNewSymbols t line symbols) where
    chosen_by : (found : Option Choice) → IsChoiceBy t.vocabulary slice listed parent found → IsChoiceBy t.vocabulary (atoms_at 0 line) symbols parent found
    chosen_by found h =
        subst (λ fs. IsChoiceBy t.vocabulary (atoms_at 0 line) fs parent found) ey (subst (λ ls. IsChoiceBy t.vocabulary ls listed parent found) (el ∙ all_atoms) h)

    pub choice_ends : (found : Option Choice) → IsChoiceBy t.vocabulary slice listed parent found → IsChoice t parent line found
    choice_ends None h = inr (symbols, new, chosen_by None h)
    choice_ends (Some c) h = (symbols, new, chosen_by (Some c) h)
