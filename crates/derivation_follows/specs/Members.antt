-- The members of a search's list that a derivation needs, as it prints them.
use Rattle.std.specs.Prelude.{ℕ, ◌≡◌, Bool, List, Some, slice_get}
use Rattle.fof_terms.specs.Vocabulary.{Vocabulary}
use Rattle.clause_form.specs.declared.clause.Clause.{Clause}
use Rattle.saturation.specs.declared.member.Member.{Member}
use Rattle.search_proofs.specs.Needed.{IsMarked}
use Rattle.printed_clauses.specs.Renumbered.{new_number}
use Rattle.printed_steps.specs.Printed.{IsPlain, IsPrintable}
use Rattle.refutation_lines.specs.Plans.{Refutation, plan_of}

-- the numbers that functions have in the derivation of a refutation
abbrev pub number_in : Refutation → List Bool → ℕ → ℕ
number_in r needed = new_number r.first (plan_of r needed).numbers.all

-- The clause is well-sorted, and no literal of it is truth or falsehood. Its functions stand in the other vocabulary
-- under their numbers in the derivation.
pub record IsFit (v w : Vocabulary) (number : ℕ → ℕ) (c : Clause) : Type 0 where
  pub printable : IsPrintable v w number c
  pub plain : IsPlain c.lits

-- so is the clause of each needed member
abbrev pub AreFit : Vocabulary → Vocabulary → Refutation → List Bool → Type 0
AreFit v w r needed =
    (j : ℕ) (m : Member) → IsMarked needed j → slice_get r.members j ≡ Some m → IsFit v w (number_in r needed) m.clause
