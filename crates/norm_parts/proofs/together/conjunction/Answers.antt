use Rattle.std.proofs.Common.{arith}
use Rattle.fof_terms.specs.declared.form.Form.{And}
use Rattle.fof_terms.specs.Scope.{scope_sorts}
use Rattle.derive_kit.proofs.Built.{ok_map}
use Rattle.norm_parts.proofs.TogetherParts.{source_anywhere, here_by_shared, some_map}
use Rattle.norm_parts.proofs.together.conjunction.Goals as goal

pub instances-requires : goal.instances-requires
instances-requires c = source_anywhere c.args.signature.now c.args.parents.now (scope_sorts c.args.scope.now) c.args.shown c.requires.line.scope_fits c.requires.source

pub returns-in-Some : goal.returns-in-Some
returns-in-Some c =
    ok_map c.under_shared.result
    (λ found r. some_map found
    (λ p by. here_by_shared c.args.signature.now c.args.parents.now (scope_sorts c.args.scope.now) c.args.shown c.in-Some.shared (And c.args.members.now) p c.requires.line.scope_fits (omega (arith, c.requires.room)) c.requires.source (rw c.in-Some.is at c.in_ok-shared.ensures) by) r)
    c.under_shared.ensures
