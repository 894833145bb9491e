use Rattle.std.proofs.Common.{◌∙◌, ap, Some, drop, length}
use Rattle.fof_terms.specs.declared.signature.Symbol.{Symbol}
use Rattle.kernel.specs.declared.entry.Entry.TheVariants.{Declare}
use Rattle.kernel.specs.declared.entry.Decl.TheVariants as decl
use Rattle.verifier.proofs.Declaring.{grows_more}
use Rattle.verifier.proofs.declarations.declare_symbols.Goals as goal

pub loop-number-preserved : goal.loop-number-preserved
loop-number-preserved c =
    grows_more (λ (x : Symbol). Declare (decl.Symbol x)) c.args.entries.now c.loop-number.entries c.push.new.self (drop (length c.args.old.now.symbols) c.args.new.now.symbols) c.args.new.now.symbols c.loop-number.number c.in_ok-symbol.symbol (ap Some c.in_ok-symbol.ensures ∙ c.in-Some.ensures) c.in_ok-push.ensures.ok c.loop-number.invariant
