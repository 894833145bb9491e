-- Walks over the clauses that a further one was made from.
use Rattle.std.specs.Prelude.{ℕ, ◌≡◌, ◌<◌, List, [], ◌∷◌, length, Option, Some, None, slice_get}
use Rattle.std.specs.List.{Contains}
use Rattle.fof_terms.specs.Sorts.{Sorted}
use Rattle.fof_terms.specs.declared.form.Form.{Form}
use Rattle.clause_form.specs.declared.clause.AtomOf.{AtomOf}
use Rattle.clause_form.specs.declared.clause.Lit.{Lit}
use Rattle.clause_learning.specs.Refutations.{HasSame}
use Rattle.kernel.specs.Statements.{Statements}
use Rattle.kernel.specs.Proves.{Proves}
use Rattle.kernel.specs.declared.proof.Proof.{Proof}
use Rattle.chain_proofs.specs.Chains.{AreOver, Derives, FactsAreOver, HoldEach}
use Rattle.chain_proofs.specs.Contexts.{IsContext}
use Rattle.chain_proofs.specs.Facts.{Holds, all_false, not_all_false}
use Rattle.chain_proofs.specs.Known.{AreKept}
use Rattle.chain_proofs.specs.declared.fact.Fact.{Fact}
use Rattle.chain_proofs.specs.declared.stretching.Step.{Step}
use Rattle.chain_proofs.specs.declared.stretching.Stretch.{Stretch}

-- each step is shown under the hypotheses and the steps before it, and together they lead to further hypotheses
abbrev pub Lead : Statements → List Form → List Step → List Form → Type 0
Lead t h [] g = g ≡ h
Lead t h (s ∷ steps) g = Proves t [] h s.part s.fact × Lead t (s.fact ∷ h) steps g

-- the steps lead from the denial of the first literals to hypotheses that deny all
pub record LeadTo (t : Statements) (first : List Lit) (steps : List Step) (lits : List Lit) : Type 0 where
  pub hypotheses : List Form
  pub lead : Lead t (all_false first ∷ []) steps hypotheses
  pub context : IsContext first lits hypotheses

-- Where the walk has come to an end, the literals of the fact of that number are known. Else there is still a clause to
-- be derived from those that are left, which are fewer, and it has none but the known literals.
abbrev pub EndsIn : List Fact → List ℕ → List Lit → List ℕ → Option ℕ → Type 0
EndsIn facts from known left (Some k) = Contains from k × (k < length facts) × ((f : Fact) → slice_get facts k ≡ Some f → (x : Lit) → Contains f.lits x → Contains known x)
EndsIn facts from known left None = Derives facts left known × ((k : ℕ) → Contains left k → Contains from k) × (length left < length from)

pub record IsStretch (facts : List Fact) (from : List ℕ) (lits : List Lit) (s : Stretch) : Type 0 where
  pub same : HasSame lits s.lits
  pub kept : AreKept s.known
  pub leads : (t : Statements) → HoldEach t facts from → Sorted t.vocabulary [] (all_false s.lits) → LeadTo t s.lits s.steps s.known.lits
  pub over : (atoms : List AtomOf) → AreOver atoms s.lits → FactsAreOver atoms facts from → AreOver atoms s.known.lits
  pub ends : EndsIn facts from s.known.lits s.left s.last

-- the proof shows that not all of the stretch's literals are false, where its steps lead to hypotheses that deny those of
-- the last fact
abbrev pub IsStretchProof : Stretch → Fact → Proof → Type 0
IsStretchProof s last p =
    (t : Statements) → Sorted t.vocabulary [] (all_false s.lits) → LeadTo t s.lits s.steps s.known.lits → Holds t last → ((x : Lit) → Contains last.lits x → Contains s.known.lits x)
    → Proves t [] [] p (not_all_false s.lits)
