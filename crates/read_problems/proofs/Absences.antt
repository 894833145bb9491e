-- Status 3 comes with an absence in the store, or says another fault of the problem than a missing file.
use Rattle.std.proofs.Common.{◌≡◌, ◌⊎◌, inl, inr, ℕ, ◌≤◌, List, Option, Ok, Err, refl, arith}
use Rattle.tptp_base.specs.Count.{Rose}
use Rattle.tptp_base.specs.Store.{Files}
use Rattle.include_resolve.specs.declared.fault.IncludeFault.{IncludeFault}
use Rattle.include_resolve.specs.declared.fault.IncludeFault.TheVariants as included
use Rattle.include_resolve.specs.declared.problem.Problem.{Problem}
use Rattle.include_resolve.specs.Resolved.{Answers, Resolves}
use Rattle.sort_check.specs.declared.fault.SortFault.{SortFault}
use Rattle.sort_check.specs.declared.line.TextKind.TheVariants as kind
use Rattle.sort_check.specs.Texts.{denoted}
use Rattle.read_problems.specs.Denoted.{first_vocabulary, SaysIncludeFault, SaysSortFault}
use Rattle.read_problems.specs.Ending.{Ending, says}
use Rattle.read_problems.specs.OtherFaults.{SaysWalkFault, SaysProblemFault}

-- ---- what is said of the problem

module _ (R : Type 0) (told : Option Files) (root : Option (List ℕ)) (file : List ℕ) (ending : Ending) where
  pub walk_said : (fault : IncludeFault) → Answers told root file (Err fault) → SaysIncludeFault fault ending → ((written : List ℕ) → fault ≡ included.Missing written → R) → R ⊎ SaysWalkFault told root file ending
  walk_said (included.Missing written) answers says rises = inl (rises written refl)
  walk_said (included.Cycle name) answers says rises = inr (included.Cycle name, answers, (λ written e. cc), says)
  walk_said (included.DeepInclude name) answers says rises = inr (included.DeepInclude name, answers, (λ written e. cc), says)
  walk_said (included.UnknownSelection name formula) answers says rises = inr (included.UnknownSelection name formula, answers, (λ written e. cc), says)
  walk_said (included.Text name fault) answers says rises = inr (included.Text name fault, answers, (λ written e. cc), says)
  walk_said (included.Limit name limit) answers says rises = inr (included.Limit name limit, answers, (λ written e. cc), says)
  walk_said included.Store answers says rises = absurd says
  walk_said included.Memory answers says rises = absurd says

  pub problem_said : R ⊎ SaysWalkFault told root file ending → R ⊎ SaysProblemFault told root file ending
  problem_said (inl rose) = inl rose
  problem_said (inr said) = inr (inl said)

  pub sorts_said : (problem : Problem) → Resolves told root file (Ok problem) → ((fault : SortFault) × (denoted problem.items first_vocabulary kind.Problem ≡ Err fault) × SaysSortFault problem.files fault ending) → R ⊎ SaysProblemFault told root file ending
  sorts_said problem resolves refused = inr (inr (problem, resolves, refused))

-- a count that rose later on has risen since before
pub rose_since : (a b c : ℕ) → a ≤ b → Rose b c → Rose a c
rose_since a b c le rose = omega (arith, le, rose)
