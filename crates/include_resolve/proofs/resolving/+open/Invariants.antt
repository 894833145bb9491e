use Rattle.std.proofs.Common.{◌≡◌, ◌≤◌, ◌+◌, ◌*◌, length, All}
use Rattle.std.specs.Option.{option_copied}
use Rattle.include_resolve.specs.declared.problem.TheConstants.{TOTAL_SIZE}
use Rattle.include_resolve.specs.code.Path.{path_names}
use Rattle.include_resolve.specs.code.Steps.{HasQuotableFile}
use Rattle.include_resolve.proofs.Steps.{Progress}
use Rattle.include_resolve.proofs.resolving.+open.Given as goal

abbrev pub decreases-open : goal.decreases-open
decreases-open g l = 5 * l.level.now.room + 1

abbrev pub decreases-open_found : goal.decreases-open_found
decreases-open_found g l = 5 * l.level.now.room

abbrev pub decreases-replace : goal.decreases-replace
decreases-replace g l = 5 * l.level.now.room + 4

abbrev pub decreases-take : goal.decreases-take
decreases-take g l = 5 * l.level.now.room + 3

abbrev pub decreases-included : goal.decreases-included
decreases-included g l = 5 * l.level.now.room + 2

abbrev pub invariant-replace-items : goal.invariant-replace-items
invariant-replace-items g l = record {
  progress : Progress (g.S.Store.files l.initial.store) (option_copied l.level.root) (path_names l.level.path.now) l.from l.fn.items l.initial.opened l.opened l.left l.kept;
  names : All HasQuotableFile l.left;
  budget : l.opened.read ≤ TOTAL_SIZE;
  few_files : length l.opened.names + length l.left + l.initial.opened.read ≤ length l.initial.opened.names + length l.fn.items + l.opened.read;
  same_files : g.S.Store.files l.store ≡ g.S.Store.files l.initial.store;
  more_absents : g.S.Store.absents l.initial.store ≤ g.S.Store.absents l.store;
  more_faults : g.S.Store.faults l.initial.store ≤ g.S.Store.faults l.store;
}

abbrev pub decreases-replace-items : goal.decreases-replace-items
decreases-replace-items g l = length l.left
