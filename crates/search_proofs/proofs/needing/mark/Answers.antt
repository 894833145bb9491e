use Rattle.search_proofs.proofs.Sweeping.{first_within, second_within, marks_named}
use Rattle.std.proofs.Common.{length}
use Rattle.search_proofs.proofs.needing.mark.Goals as goal

pub set-requires : goal.set-requires
set-requires c = first_within c.args.origin.now c.in-Inferred.first c.in-Inferred.second _ (length c.args.marks.now) c.in-Inferred.is c.requires

pub set-requires-in-Inferred : goal.set-requires-in-Inferred
set-requires-in-Inferred c = second_within c.args.origin.now c.in-Inferred.first c.in-Inferred.second _ c.args.marks.now c.set.new.self c.in-Inferred.is c.requires c.set.ensures

pub returns-in-Inferred : goal.returns-in-Inferred
returns-in-Inferred c = marks_named c.args.origin.now c.in-Inferred.first c.in-Inferred.second _ c.args.marks.now c.set.new.self c.set-in-Inferred.new.self c.in-Inferred.is c.requires c.set.ensures c.set-in-Inferred.ensures
