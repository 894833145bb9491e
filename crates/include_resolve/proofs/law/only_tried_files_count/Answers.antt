use Rattle.include_resolve.proofs.OnlyTried.{tried_alone, further_file}
use Rattle.include_resolve.proofs.law.only_tried_files_count.Goals as goal

pub returns-clause-same : goal.returns-clause-same
returns-clause-same c = tried_alone

pub returns-clause-further : goal.returns-clause-further
returns-clause-further c = further_file
