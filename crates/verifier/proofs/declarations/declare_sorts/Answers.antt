use Rattle.std.proofs.Common.{◌∙◌, ap, Some, drop, length, List, ℕ}
use Rattle.kernel.specs.declared.entry.Entry.TheVariants.{Declare}
use Rattle.kernel.specs.declared.entry.Decl.TheVariants as decl
use Rattle.verifier.proofs.Declaring.{grows_more}
use Rattle.verifier.proofs.declarations.declare_sorts.Goals as goal

pub loop-number-preserved : goal.loop-number-preserved
loop-number-preserved c =
    grows_more (λ (x : List ℕ). Declare (decl.Sort x)) c.args.entries.now c.loop-number.entries c.push.new.self (drop (length c.args.old.now.sorts) c.args.new.now.sorts) c.args.new.now.sorts c.loop-number.number c.in_ok-name.name (ap Some (c.in_ok-name.ensures ∙ c.as_slice.ensures) ∙ c.in-Some.ensures) c.in_ok-push.ensures.ok c.loop-number.invariant
