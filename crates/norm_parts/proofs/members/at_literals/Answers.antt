use Rattle.std.proofs.Common.{refl}
use Rattle.fof_terms.specs.Scope.{scope_sorts}
use Rattle.derive_kit.proofs.Built.{ok_map}
use Rattle.norm_parts.proofs.TogetherParts.{some_map, from_literals}
use Rattle.norm_parts.proofs.members.at_literals.Goals as goal

pub returns-in-Some : goal.returns-in-Some
returns-in-Some c =
    ok_map c.by_literals.result
    (λ found r. some_map found
    (λ p reaches. from_literals c.args.signature.now (scope_sorts c.args.scope.now) c.args.form c.args.goal.now (record { form = c.args.form; part = c.in_ok-part.part }) c.in-Some.made p c.requires.goal c.requires.form refl c.in_ok-part.ensures
    (rw c.in-Some.is at c.in_ok-made.ensures) reaches) r)
    c.by_literals.ensures
