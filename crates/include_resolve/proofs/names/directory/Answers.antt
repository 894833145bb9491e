use Rattle.std.proofs.Common.{◌+◌, ◌∙◌}
use Rattle.include_resolve.proofs.Slashes.{directory-some, directory-none, slash_boundary, front_is}
use Rattle.include_resolve.proofs.names.directory.Goals as goal

pub range-requires-clause-end_boundary : goal.range-requires-clause-end_boundary
range-requires-clause-end_boundary c = slash_boundary c.args.name.now c.in-Some.at c.utf8.name (rw c.as_bytes.ensures.value at c.in-Some.ensures)

pub returns-in-Some : goal.returns-in-Some
returns-in-Some c =
    c.range.ensures.value ∙ front_is c.args.name.now (c.in-Some.at + 1) ∙ directory-some c.args.name.now c.in-Some.at (rw c.as_bytes.ensures.value at c.in-Some.ensures)

pub returns-in-None : goal.returns-in-None
returns-in-None c = directory-none c.args.name.now (rw c.as_bytes.ensures.value at c.in-None.ensures)
