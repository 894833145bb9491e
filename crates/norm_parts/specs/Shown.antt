-- What proofs of parts and of the line say.
use Rattle.std.specs.Prelude.{List, [], ◌∷◌, Option, Some, None}
use Rattle.fof_terms.specs.declared.form.Form.{Form}
use Rattle.fof_terms.specs.Vocabulary.{Vocabulary}
use Rattle.clause_form.specs.declared.path.Parent.{Parent}
use Rattle.kernel.specs.Statements.{Statements}
use Rattle.kernel.specs.Proves.{Proves}
use Rattle.kernel.specs.declared.proof.Proof.{Proof}
use Rattle.clause_proofs.specs.Shown.{ShowsLine}
use Rattle.norm_parts.specs.ByParts.{ByParts}

-- each proof shows the closed formula at its place, under these hypotheses
abbrev pub ShowEach : Statements → List Form → List Proof → List Form → Type 0
ShowEach t h [] [] = Unit {0}
ShowEach t h [] (a ∷ as_) = ⊥
ShowEach t h (p ∷ ps) [] = ⊥
ShowEach t h (p ∷ ps) (a ∷ as_) = Proves t [] h p a × ShowEach t h ps as_

-- the line follows part by part and the proof shows it, or it does not
abbrev pub IsLineByParts : Vocabulary → List Parent → Form → Option Proof → Type 0
IsLineByParts w parents line None = ByParts w parents line → ⊥
IsLineByParts w parents line (Some p) = ByParts w parents line × ShowsLine w parents line p
