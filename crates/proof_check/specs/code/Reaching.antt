-- What a part of a proof concludes with what it can speak of.
use Rattle.std.specs.Prelude.{ℕ, ◌≡◌, ◌↔◌, List, ◌∷◌, Option, Some, Bool, IsTrue}
use Rattle.fof_terms.specs.Scope.{scope_sorts}
use Rattle.fof_terms.specs.declared.form.Form.{Form}
use Rattle.proof_check.specs.declared.context.Reach.{Reach}
use Rattle.kernel.specs.declared.proof.Proof.{Proof}
use Rattle.proof_check.specs.code.Hypotheses.{hypotheses, crossed_in}
use Rattle.kernel.specs.Proves.{all_over}
use Rattle.proof_check.specs.Concludes.{Concludes}
use Rattle.proof_check.specs.code.Concludes.{ConcludesUnder, EachUnder, IsReach}

-- the variables and the hypotheses are well-sorted, and the room is what is left
abbrev pub Reaches : Reach → Type 0
Reaches r = IsReach r.theory.now.vocabulary (scope_sorts r.scope.now) (hypotheses r.hyps.now) r.room (crossed_in r.hyps.now)

-- the answer is what the proof concludes
abbrev pub Shows : Reach → Proof → Option Form → Type 0
Shows r p answer = Concludes r.theory.now (scope_sorts r.scope.now) (hypotheses r.hyps.now) p answer

-- the same under a hypothesis, which is to be well-sorted
abbrev pub ShowsUnder : Reach → Form → Proof → Option Form → Type 0
ShowsUnder r b p answer = ConcludesUnder r.theory.now (scope_sorts r.scope.now) (hypotheses r.hyps.now) b p answer

-- the same over one variable more of the sort
abbrev pub ShowsOver : Reach → ℕ → Proof → Option Form → Type 0
ShowsOver r sort p answer = Concludes r.theory.now (sort ∷ scope_sorts r.scope.now) (all_over (hypotheses r.hyps.now)) p answer

-- the same over one variable more, under a hypothesis
abbrev pub ShowsOverUnder : Reach → ℕ → Form → Proof → Option Form → Type 0
ShowsOverUnder r sort b p answer =
    ConcludesUnder r.theory.now (sort ∷ scope_sorts r.scope.now) (all_over (hypotheses r.hyps.now)) b p answer

-- each proof concludes the goal under the member at its place
abbrev pub ShowsEach : Reach → Form → List Proof → List Form → Bool → Type 0
ShowsEach r goal ps bs all = IsTrue all ↔ EachUnder r.theory.now (scope_sorts r.scope.now) (hypotheses r.hyps.now) goal ps bs
