use Rattle.std.proofs.Common.{◌≡◌, ap, ◌∙◌, arith}
use Rattle.std.proofs.lemmas.List.{length-map}
use Rattle.unify_terms.specs.code.Classes.{class_of}
use Rattle.unify_terms.proofs.Partitions.{head_is, alone_labels}
use Rattle.unify_terms.proofs.partition.each_alone.Goals as goal

pub returns-clause-partition : goal.returns-clause-partition
returns-clause-partition c =
    let all = c.loop-i.invariant in
    let end : c.loop-i.i ≡ c.args.count = omega arith in (
      alone_labels c.loop-i.i c.loop-i.labels.items c.loop-i.heads.items c.loop-i.members.items all.0 all.1 all.2 all.3 all.4 all.5,
      length-map c.loop-i.labels.items (class_of c.loop-i.heads.items) ∙ all.0 ∙ end,
    )

pub returns-clause-alone : goal.returns-clause-alone
returns-clause-alone c = λ i h.
    let all = c.loop-i.invariant in
    head_is c.loop-i.labels.items c.loop-i.heads.items i (let s = all.0 in omega arith) ∙ ap (class_of c.loop-i.heads.items) (all.3 i (omega arith)) ∙ all.4 i (omega arith)
