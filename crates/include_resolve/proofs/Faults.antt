-- Faults in texts.
use Rattle.std.proofs.Common.{ℕ, inl, inr}
use Rattle.include_resolve.specs.declared.fault.IncludeFault.{IncludeFault}
use Rattle.include_resolve.specs.declared.fault.TextFault.{TextFault}
use Rattle.include_resolve.specs.Names.{Text}
use Rattle.include_resolve.specs.code.Spelling.{IsNamed, IsTextFault}
use Rattle.include_resolve.specs.Texts.{IsFaulty}

pub named_fault : (number : ℕ) (name text : Text) (first : TextFault) (cause : IncludeFault) → IsNamed name first cause → IsFaulty number text first → IsTextFault number name text cause
named_fault number name text first cause (inl e) h = inl (first, e, h)
named_fault number name text first cause (inr e) h = inr e
