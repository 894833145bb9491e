use Rattle.std.proofs.Common.{map}
use Rattle.std.specs.Prelude.{string_bytes, option_to_list}
use Rattle.include_resolve.proofs.Finding.{first_read, found_behind}
use Rattle.include_resolve.proofs.reading.find_file.Goals as goal

pub returns-in-Some-clause-found : goal.returns-in-Some-clause-found
returns-in-Some-clause-found g c =
    let read = rw c.as_str.ensures.value at (rw c.in-Some.is at c.in_ok-read.ensures.read) in
    (first_read (g.S.Store.files c.args.store.now) (string_bytes c.args.names.first) (map string_bytes (option_to_list c.args.names.other)) c.args.budget c.in-Some.read read, read)

pub returns-in-None-clause-found : goal.returns-in-None-clause-found
returns-in-None-clause-found g c =
    let miss = rw c.as_str.ensures.value at (rw c.in-None.is at c.in_ok-read.ensures.read) in
    found_behind (g.S.Store.files c.args.store.now) (string_bytes c.args.names.first) (map string_bytes (option_to_list c.args.names.other)) c.args.budget c.find_other.result miss
    (rw c.in_ok-read.ensures.same_files at c.find_other.ensures.found)
