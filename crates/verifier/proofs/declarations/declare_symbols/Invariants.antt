use Rattle.std.proofs.Common.{drop, length}
use Rattle.kernel.specs.declared.entry.Entry.TheVariants.{Declare}
use Rattle.kernel.specs.declared.entry.Decl.TheVariants as decl
use Rattle.verifier.proofs.Declaring.{Grows}
use Rattle.verifier.proofs.declarations.declare_symbols.Given as goal

abbrev pub invariant-loop-number : goal.invariant-loop-number
invariant-loop-number l = Grows (λ x. Declare (decl.Symbol x)) l.fn.entries l.entries (drop (length l.old.symbols) l.new.symbols) (drop l.number l.new.symbols)
