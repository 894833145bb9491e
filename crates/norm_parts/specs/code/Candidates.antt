-- Clauses that paths reach in formulas, and which of them a clause covers.
use Rattle.std.specs.Prelude.{ℕ, ◌≡◌, ◌⊎◌, List, Some, slice_get}
use Rattle.fof_terms.specs.declared.term.Term.{Term}
use Rattle.fof_terms.specs.declared.form.Form.{Form}
use Rattle.fof_terms.specs.Vocabulary.{Vocabulary}
use Rattle.clause_form.specs.declared.clause.Clause.{Clause}
use Rattle.clause_form.specs.Covers.{scope_of, CoversBy}
use Rattle.clause_form.specs.Paths.{reached}
use Rattle.clause_rules.specs.Settled.{IsFit}
use Rattle.clause_rules.specs.Steps.{IsJoint, images_of_parents}
use Rattle.norm_parts.specs.declared.candidates.Candidate.{Candidate}
use Rattle.norm_parts.specs.declared.candidates.Chosen.{Chosen}

-- the path reaches the clause in the formula
pub record IsCandidate (v : Vocabulary) (a : Form) (c : Candidate) : Type 0 where
  pub reaches : reached c.path a ≡ Some c.clause
  pub fit : IsFit v c.clause

-- each candidate of the second list is one of the first, or has this source, in whose formula the path reaches it
abbrev pub AreAdded : Vocabulary → ℕ → Form → List Candidate → List Candidate → Type 0
AreAdded v source a old new = (c : Candidate) (k : ℕ) → slice_get new k ≡ Some c → ((j : ℕ) × (slice_get old j ≡ Some c)) ⊎ ((c.source ≡ source) × IsCandidate v a c)

-- each candidate fits the symbols
abbrev pub AreFitting : Vocabulary → List Candidate → Type 0
AreFitting v candidates = (c : Candidate) (k : ℕ) → slice_get candidates k ≡ Some c → IsFit v c.clause

-- the line covers the clause, by the images
abbrev pub CoversClause : Vocabulary → Clause → Clause → List Term → Type 0
CoversClause v c line images = IsJoint v line (scope_of c) images × CoversBy v (scope_of c) c.lits line (scope_of c) (images_of_parents line images)

-- the line covers the candidate of the number that was chosen
abbrev pub IsChosen : Vocabulary → List Candidate → Clause → Chosen → Type 0
IsChosen v candidates line chosen = (c : Candidate) × (slice_get candidates chosen.at ≡ Some c) × CoversClause v c.clause line chosen.subst
