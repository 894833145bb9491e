use Rattle.std.proofs.Common.{[]}
use Rattle.std.specs.Prelude.{string_bytes}
use Rattle.include_resolve.proofs.Finding.{first_read}
use Rattle.include_resolve.proofs.reading.find_other.Goals as goal

pub returns-in-Some-2-clause-found : goal.returns-in-Some-2-clause-found
returns-in-Some-2-clause-found g c =
    let read = rw c.as_str.ensures.value at (rw c.in-Some-2.is at c.in_ok-read.ensures.read) in
    rw c.in-Some.is (first_read (g.S.Store.files c.args.store.now) (string_bytes c.in-Some.name) [] c.args.budget c.in-Some-2.read read, read)
