-- Tokens within a limit have none over it.
use Rattle.std.proofs.Common.{ℕ, arith}
use Rattle.first_fault.specs.Nesting.{Within, FirstOver, here, behind}
use Rattle.tptp_grammar.specs.Tokens.{Tokens}

pub not_over : {limit : ℕ} {ts over : Tokens} → FirstOver limit ts over → Within limit ts → ⊥
not_over (here lt) h = let le = h.0 in omega arith
not_over (behind le k) h = not_over k h.1
