-- What a search for a parent whose clause the line covers ends with.
use Rattle.std.specs.Prelude.{◌≡◌, List, [], Option, Some, None, slice_get}
use Rattle.fof_terms.specs.declared.form.Form.{Form}
use Rattle.fof_terms.specs.Vocabulary.{Vocabulary}
use Rattle.clause_form.specs.declared.path.Parent.{Parent}
use Rattle.clause_form.specs.declared.clause.Clause.{Clause}
use Rattle.clause_form.specs.ClauseView.{clause_of}
use Rattle.clause_form.specs.Covers.{Covers}
use Rattle.kernel.specs.Proves.{Proves}
use Rattle.kernel.specs.declared.proof.Proof.{Proof}
use Rattle.clause_proofs.specs.Refuting.{theory_of}
use Rattle.clause_proofs.specs.Shown.{ShowsLine}
use Rattle.inference_proofs.specs.Inferred.{CoversParent}

-- the proof shows the line wherever the parent is among the formulas at its number
abbrev pub ShowsFrom : Vocabulary → Parent → Form → Proof → Type 0
ShowsFrom w parent line p = (formulas : List Form) → slice_get formulas parent.number ≡ Some parent.form → Proves (theory_of w formulas) [] [] p line

-- the proof shows the line from the parent, or the line covers no clause that the parent is
abbrev pub IsByParent : Vocabulary → Parent → Form → Clause → Option Proof → Type 0
IsByParent w parent line e None = (c : Clause) → clause_of parent.form ≡ Some c → Covers w c e → ⊥
IsByParent w parent line e (Some p) = ShowsFrom w parent line p

-- the proof shows the line, or the line covers the clause of no parent
abbrev pub IsByCovering : Vocabulary → List Parent → Form → Option Proof → Type 0
IsByCovering w parents line None = CoversParent w parents line → ⊥
IsByCovering w parents line (Some p) = ShowsLine w parents line p
