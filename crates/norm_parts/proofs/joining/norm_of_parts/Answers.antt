use Rattle.std.proofs.Common.{ap, subst, arith, List}
use Rattle.std.specs.Prelude.{length}
use Rattle.fof_terms.specs.declared.form.Form.{Form}
use Rattle.derive_kit.proofs.Built.{ok_map}
use Rattle.norm_parts.specs.code.Gathering.{IsGathered}
use Rattle.norm_parts.proofs.Gathered.{norm_by_each}
use Rattle.norm_parts.proofs.joining.norm_of_parts.Goals as goal

pub gather-requires : goal.gather-requires
gather-requires c = omega (arith, ap length c.as_slice.ensures, ap length c.in_ok-members.ensures)

pub returns : goal.returns
returns c =
    let one : IsGathered c.args.norm.now 0 c.in_ok-members.members c.in_ok-gathered.gathered.part c.in_ok-gathered.gathered.count =
    subst (λ (xs : List Form). IsGathered c.args.norm.now 0 xs c.in_ok-gathered.gathered.part c.in_ok-gathered.gathered.count) c.as_slice.ensures c.in_ok-gathered.ensures in
    ok_map c.cut_under.result (λ made f. norm_by_each c.args.norm.now c.in_ok-members.members c.args.proofs c.in_ok-all.all c.in_ok-gathered.gathered.part made c.in_ok-gathered.gathered.count c.requires c.in_ok-members.ensures c.in_ok-all.ensures one f) c.cut_under.ensures
