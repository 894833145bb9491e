use Rattle.std.proofs.Common.{arith, subst}
use Rattle.subsumption.specs.code.Screens.{SomeNowhere}
use Rattle.subsumption.proofs.ScreenFacts.{not_longer, never_subsumes}
use Rattle.subsumption.proofs.DecidedFacts.{told_not}
use Rattle.subsumption.proofs.deciding.subsumes.Goals as goal

pub returns-then-len : goal.returns-then-len
returns-then-len c = told_not (λ h. let fewer = not_longer c.args.signature.now c.args.member.now c.args.clause.now h in absurd (omega (arith, fewer, c.len.ensures, c.len-2.ensures, c.if-len.true)))

pub returns-then-not-all_fit : goal.returns-then-not-all_fit
returns-then-not-all_fit c = told_not (λ h.
    never_subsumes c.args.signature.now c.args.member.now c.args.clause.now
    (subst (λ xs. SomeNowhere xs c.args.member.now.lits) c.as_slice.ensures (subst (λ ys. SomeNowhere c.as_slice.result.now ys) c.as_slice-2.ensures (c.all_fit.ensures c.if-not-all_fit.true))) h)
