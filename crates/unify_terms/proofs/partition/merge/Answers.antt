use Rattle.std.proofs.Common.{subst, sym, ◌∙◌, [], length, arith}
use Rattle.unify_terms.specs.code.Graph.{Below}
use Rattle.unify_terms.proofs.Pairs.{any_default}
use Rattle.unify_terms.proofs.Partitions.{below_members}
use Rattle.unify_terms.proofs.partition.merge.Goals as goal

pub relabel-requires : goal.relabel-requires
relabel-requires c =
    let old = c.args.partition.now in
    let count = c.requires.partition.member_count in
    let within = c.requires.small in
    let is = c.as_slice.ensures ∙ c.replace-moved.ensures.value ∙ c.index_mut.ensures.value ∙ any_default old.members.items c.args.small c.index_mut.result.now [] (omega arith) in
    subst (Below (length old.labels.items)) (sym is) (below_members old.labels.items old.heads.items old.members.items c.requires.partition c.args.small)
