-- What the proof of a line by a rule says.
use Rattle.std.specs.Prelude.{List, []}
use Rattle.fof_terms.specs.declared.form.Form.{Form}
use Rattle.fof_terms.specs.Vocabulary.{Vocabulary}
use Rattle.clause_form.specs.declared.path.Parent.{Parent}
use Rattle.kernel.specs.Proves.{Proves}
use Rattle.kernel.specs.declared.proof.Proof.{Proof}
use Rattle.derive_kit.specs.Derived.{AreOfTheory}
use Rattle.clause_proofs.specs.Refuting.{theory_of}

-- with these symbols, the proof shows the line wherever the parents are among the formulas
abbrev pub ShowsLine : Vocabulary → List Parent → Form → Proof → Type 0
ShowsLine w parents line p = (formulas : List Form) → AreOfTheory (theory_of w formulas) parents → Proves (theory_of w formulas) [] [] p line
