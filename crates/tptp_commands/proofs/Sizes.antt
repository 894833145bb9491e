-- A text that is over no limit on sizes is in the budget.
use Rattle.std.proofs.Common.{ℕ, ◌≤◌, ◌-◌, arith}
use Rattle.tptp_base.specs.Read.{IsOver}
use Rattle.tptp_base.specs.declared.limit.LimitName.{LimitName}
use Rattle.tptp_base.specs.declared.limit.LimitName.TheVariants.{FileSize, TotalSize}
use Rattle.tptp_base.specs.declared.read.TheConstants.{FILE_SIZE}
use Rattle.tptp_commands.specs.Refuted.{IsInBudget}
use Rattle.read_problems.specs.declared.refusals.TheConstants.{TOTAL_SIZE}

not_over : (limit : LimitName) (budget size : ℕ) → size ≤ FILE_SIZE → size ≤ budget → IsOver limit budget size → ⊥
not_over FileSize budget size few in_budget over = omega arith
not_over TotalSize budget size few in_budget over = omega arith
not_over other budget size few in_budget over = over

pub in_budget : (read size : ℕ) → size ≤ FILE_SIZE → size ≤ TOTAL_SIZE - read → IsInBudget read size
in_budget read size few fits = λ limit over. not_over limit (TOTAL_SIZE - read) size few fits over
