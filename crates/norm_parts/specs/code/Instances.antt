-- What one formula says of another, with the parts that show both.
use Rattle.std.specs.Prelude.{ℕ, List, [], ◌∷◌}
use Rattle.fof_terms.specs.declared.form.Form.{Form}
use Rattle.fof_terms.specs.Vocabulary.{Vocabulary}
use Rattle.fof_terms.specs.Sorts.{Sorted}
use Rattle.kernel.specs.Statements.{Statements}
use Rattle.kernel.specs.Proves.{Proves}
use Rattle.kernel.specs.declared.proof.Proof.{Proof}
use Rattle.clause_proofs.specs.Refuting.{theory_of}
use Rattle.norm_parts.specs.declared.instances.Shown.{Shown}

-- with these symbols and over variables of these sorts, the second formula is shown wherever the first is
pub record IsNext (w : Vocabulary) (v : List ℕ) (old new : Shown) : Type 0 where
  pub sorted : Sorted w v new.form
  pub leads : (formulas h : List Form) → Proves (theory_of w formulas) v h old.part old.form → Proves (theory_of w formulas) v h new.part new.form

-- the proof shows the goal wherever the formula is shown
abbrev pub Reaches : Shown → Form → Proof → Type 0
Reaches shown goal p = (t : Statements) (v : List ℕ) (h : List Form) → Sorted t.vocabulary v goal → Proves t v h shown.part shown.form → Proves t v h p goal

-- the proof shows the goal under the literal
abbrev pub IsArm : Form → Form → Proof → Type 0
IsArm goal literal p = (t : Statements) (v : List ℕ) (h : List Form) → Sorted t.vocabulary v literal → Sorted t.vocabulary v goal → Proves t v (literal ∷ h) p goal

-- the same of each of the literals
abbrev pub AreArms : Form → List Form → List Proof → Type 0
AreArms goal [] [] = Unit {0}
AreArms goal [] (p ∷ ps) = ⊥
AreArms goal (b ∷ bs) [] = ⊥
AreArms goal (b ∷ bs) (p ∷ ps) = IsArm goal b p × AreArms goal bs ps
