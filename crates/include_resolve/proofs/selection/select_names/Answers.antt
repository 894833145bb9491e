use Rattle.std.proofs.Common.{sym}
use Rattle.include_resolve.proofs.Sets.{selects_unknown, selects_kept}
use Rattle.include_resolve.proofs.selection.select_names.Goals as goal

pub returns-in-Some : goal.returns-in-Some
returns-in-Some c =
    let found = rw c.as_slice.ensures at (rw c.in-Some.is at c.in_ok-first.ensures.ok) in
    selects_unknown c.args.file.now c.args.names.now c.args.items c.in-Some.name.now c.unknown.result (sym found) c.unknown.ensures

pub returns-in-None : goal.returns-in-None
returns-in-None c =
    let found = rw c.as_slice.ensures at (rw c.in-None.is at c.in_ok-first.ensures.ok) in
    selects_kept c.args.file.now c.args.names.now c.args.items c.kept_items.result (sym found) c.kept_items.ensures.ok c.kept_items.ensures.err
