use Rattle.std.proofs.Common.{◌<◌, sym, ◌∙◌, arith, length}
use Rattle.std.proofs.lemmas.List.{length-map}
use Rattle.unify_terms.specs.code.Classes.{class_of}
use Rattle.unify_terms.proofs.Valuations.{ok_both}
use Rattle.unify_terms.proofs.Partitions.{head_is, sides_of, joined_labels, joined_classes}
use Rattle.unify_terms.proofs.partition.join.Goals as goal

pub returns-clause-partition : goal.returns-clause-partition
returns-clause-partition c =
    let old = c.args.partition.now in
    let size = length-map old.labels.items (class_of old.heads.items) in
    let from_in : c.args.from < length old.labels.items = (let h = c.requires.from_within in omega arith) in
    let to_in : c.args.to < length old.labels.items = (let h = c.requires.to_within in omega arith) in
    let sides = sides_of old.labels.items c.args.from c.args.to c.index.result.now c.index-2.result.now c.by_size-small.result from_in to_in c.index.ensures c.index-2.ensures c.by_size-small.ensures in
    ok_both c.merge.result (λ m. joined_labels old.labels.items old.heads.items old.members.items c.requires.partition c.args.from c.args.to c.by_size-small.result.0 c.by_size-small.result.1 from_in to_in
    (sym (head_is old.labels.items old.heads.items c.args.from from_in) ∙ c.requires.from_head) (sym (head_is old.labels.items old.heads.items c.args.to to_in) ∙ c.requires.to_head) c.requires.differ sides
    c.merge.new.partition.labels.items c.merge.new.partition.heads.items c.merge.new.partition.members.items m.count m.labels m.heads m.members) c.merge.ensures

pub returns-clause-classes : goal.returns-clause-classes
returns-clause-classes c =
    let old = c.args.partition.now in
    let size = length-map old.labels.items (class_of old.heads.items) in
    let from_in : c.args.from < length old.labels.items = (let h = c.requires.from_within in omega arith) in
    let to_in : c.args.to < length old.labels.items = (let h = c.requires.to_within in omega arith) in
    let sides = sides_of old.labels.items c.args.from c.args.to c.index.result.now c.index-2.result.now c.by_size-small.result from_in to_in c.index.ensures c.index-2.ensures c.by_size-small.ensures in
    ok_both c.merge.result (λ m. joined_classes old.labels.items old.heads.items old.members.items c.requires.partition c.args.from c.args.to c.by_size-small.result.0 c.by_size-small.result.1 from_in to_in
    (sym (head_is old.labels.items old.heads.items c.args.from from_in) ∙ c.requires.from_head) (sym (head_is old.labels.items old.heads.items c.args.to to_in) ∙ c.requires.to_head) c.requires.differ sides
    c.merge.new.partition.labels.items c.merge.new.partition.heads.items c.merge.new.partition.members.items m.count m.labels m.heads m.members) c.merge.ensures
