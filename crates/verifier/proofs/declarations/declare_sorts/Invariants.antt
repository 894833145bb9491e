use Rattle.std.proofs.Common.{drop, length}
use Rattle.kernel.specs.declared.entry.Entry.TheVariants.{Declare}
use Rattle.kernel.specs.declared.entry.Decl.TheVariants as decl
use Rattle.verifier.proofs.Declaring.{Grows}
use Rattle.verifier.proofs.declarations.declare_sorts.Given as goal

abbrev pub invariant-loop-number : goal.invariant-loop-number
invariant-loop-number l = Grows (λ x. Declare (decl.Sort x)) l.fn.entries l.entries (drop (length l.old.sorts) l.new.sorts) (drop l.number l.new.sorts)
