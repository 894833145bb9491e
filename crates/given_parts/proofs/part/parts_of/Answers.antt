use Rattle.std.proofs.Common.{subst, sym, ◌<◌, ◌^◌}
use Rattle.fof_terms.specs.Sorts.{binder_depth}
use Rattle.sort_check.specs.declared.line.GivenEntry.{GivenEntry}
use Rattle.given_parts.proofs.part.parts_of.Goals as goal

pub part_of-requires : goal.part_of-requires
part_of-requires c = subst (λ (g : GivenEntry). binder_depth g.form < 2 ^ 32) (sym c.entry-item.is) (c.requires c.loop-entry.entry-index c.entry-item.result c.loop-entry-test.true)
