-- Clauses of parents' normal forms, and what is decided of parts.
use Rattle.std.specs.Prelude.{ℕ, ◌≡◌, ◌≤◌, true, List, [], ◌∷◌, Option, Some, None, slice_get}
use Rattle.fof_terms.specs.declared.form.Form.{Form}
use Rattle.fof_terms.specs.Vocabulary.{Vocabulary}
use Rattle.clause_form.specs.declared.path.Parent.{Parent}
use Rattle.clause_form.specs.Norm.{norm_of}
use Rattle.clause_form.specs.Sizes.{norm_size_of}
use Rattle.clause_rules.specs.declared.just.Just.{Just}
use Rattle.clause_rules.specs.Steps.{IsReady}
use Rattle.kernel.specs.declared.proof.Proof.{Proof}
use Rattle.clause_proofs.specs.Shown.{ShowsLine}
use Rattle.norm_parts.specs.declared.candidates.Candidate.{Candidate}
use Rattle.norm_parts.specs.ByParts.{IsGivenPart, AreShownParts}
use Rattle.norm_parts.specs.code.Candidates.{IsCandidate}

-- the path reaches the clause in the normal form of the parent of the candidate's number
pub record IsKnown (v : Vocabulary) (parents : List Parent) (c : Candidate) : Type 0 where
  pub parent : Parent
  pub there : slice_get parents c.source ≡ Some parent
  pub small : norm_size_of parent.form ≤ 100000
  pub reached : IsCandidate v (norm_of true parent.form) c

abbrev pub AreKnown : Vocabulary → List Parent → List Candidate → Type 0
AreKnown v parents known = (c : Candidate) (k : ℕ) → slice_get known k ≡ Some c → IsKnown v parents c

-- the rules may be asked about each of the formulas
abbrev pub EachReady : Vocabulary → List Form → Type 0
EachReady v parts = (k : ℕ) (part : Form) → slice_get parts k ≡ Some part → IsReady v part

-- what shows each of the parts, or none where one is not given
abbrev pub AreDecided : Vocabulary → List Parent → List Form → Option (List Just) → Type 0
AreDecided v parents parts None = ((k : ℕ) (part : Form) → slice_get parts k ≡ Some part → IsGivenPart v parents part) → ⊥
AreDecided v parents parts (Some justs) = AreShownParts v parents parts justs

-- each proof shows the part at its place wherever the parents are among the formulas
abbrev pub ShowLines : Vocabulary → List Parent → List Proof → List Form → Type 0
ShowLines w parents [] [] = Unit {0}
ShowLines w parents [] (a ∷ as_) = ⊥
ShowLines w parents (p ∷ ps) [] = ⊥
ShowLines w parents (p ∷ ps) (a ∷ as_) = ShowsLine w parents a p × ShowLines w parents ps as_
