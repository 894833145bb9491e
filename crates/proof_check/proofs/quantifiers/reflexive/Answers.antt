use Rattle.std.proofs.Common.{rules, Some}
use Rattle.proof_check.proofs.ConcludedOver.{refl_yes, refl_no}
use Rattle.proof_check.proofs.quantifiers.reflexive.Goals as goal

pub returns-in_ok-new-in-Some : goal.returns-in_ok-new-in-Some
returns-in_ok-new-in-Some c = λ h. refl_yes c.args.theory.now _ h c.args.term.now (Some _) c.in-Some._sort c.requires (search (rules, c.sort_of.ensures, c.signature.ensures, c.in-Some.is)) (search rules)

pub returns-in-None : goal.returns-in-None
returns-in-None c = λ h. refl_no c.args.theory.now _ h c.args.term.now (search (rules, c.sort_of.ensures, c.signature.ensures, c.in-None.is))
