-- Clauses of a log as facts, each by the facts before it.
use Rattle.std.specs.Prelude.{ℕ, ◌≡◌, ◌+◌, ◌≤◌, ◌++◌, List, [], length, map, Some, slice_get}
use Rattle.std.specs.List.{Contains}
use Rattle.fof_terms.specs.Sorts.{Sorted}
use Rattle.fof_terms.specs.declared.form.Form.{Form}
use Rattle.clause_form.specs.ClauseView.{form_of_atom}
use Rattle.clause_form.specs.declared.clause.AtomOf.{AtomOf}
use Rattle.clause_form.specs.declared.clause.Lit.{Lit}
use Rattle.chain_proofs.specs.Chains.{AreOver, AreStated}
use Rattle.chain_proofs.specs.Facts.{not_all_false}
use Rattle.chain_proofs.specs.declared.fact.Fact.{Fact}
use Rattle.clause_learning.specs.Refutations.{HasSame}
use Rattle.kernel.specs.declared.proof.Proof.{Proof}
use Rattle.sat_step.specs.declared.decision.Learned.{Learned}
use Rattle.search_proofs.specs.code.Facts.{AreShown, Setting, StandsAt, first_fact}
use Rattle.search_proofs.specs.code.Members.{ShowMore}
use Rattle.sat_entries.specs.code.Naming.{IsNamed}

-- the facts of these numbers stand
abbrev pub FactsStand : Setting → List Form → List Fact → (ℕ → Type 0) → Type 0
FactsStand s forms facts Named = (k : ℕ) (f : Fact) → Named k → slice_get facts k ≡ Some f → StandsAt s forms f.number (not_all_false f.lits)

-- and their atoms are among these
abbrev pub FactsHave : List AtomOf → List Fact → (ℕ → Type 0) → Type 0
FactsHave atoms facts Named = (k : ℕ) (f : Fact) → Named k → slice_get facts k ≡ Some f → AreOver atoms f.lits

-- that not all of some literals are false, whose atoms are among these
abbrev pub IsStated : List AtomOf → Form → Type 0
IsStated atoms a = (lits : List Lit) × AreOver atoms lits × (a ≡ not_all_false lits)

-- the atoms are well-sorted
abbrev pub AreSorted : Setting → List AtomOf → Type 0
AreSorted s atoms = (a : AtomOf) → Contains atoms a → Sorted s.vocabulary [] (form_of_atom a)

-- Where the first proofs show facts, among which those of these numbers stand, the second ones show those and more, and
-- then this one.
pub record IsShown (start : ℕ) (facts : List Fact) (from : List ℕ) (lits : List Lit) (old new : List Proof) (fact : Fact) : Type 0 where
  pub same : HasSame lits fact.lits
  pub shows : (s : Setting) (atoms : List AtomOf) → first_fact s ≡ start → AreSorted s atoms → AreOver atoms lits → FactsHave atoms facts (Contains from) → (forms : List Form) → AreShown s old forms → FactsStand s forms facts (Contains from)
      → (all : List Form) × ShowMore s (IsStated atoms) new forms all × StandsAt s all fact.number (not_all_false fact.lits)

-- the same of all clauses of the log
pub record AreLearned (start : ℕ) (log : List Learned) (facts more : List Fact) (old new : List Proof) : Type 0 where
  pub stated : AreStated (map (λ f. f.lits) facts ++ map (λ e. e.lits) log) more
  pub count : length more ≡ length facts + length log
  pub shows : (s : Setting) (atoms : List AtomOf) → first_fact s ≡ start → AreSorted s atoms → FactsHave atoms facts (IsNamed log) → (forms : List Form) → AreShown s old forms → FactsStand s forms facts (IsNamed log)
      → (all : List Form) × ShowMore s (IsStated atoms) new forms all × ((k : ℕ) (f : Fact) → length facts ≤ k → slice_get more k ≡ Some f → StandsAt s all f.number (not_all_false f.lits))
