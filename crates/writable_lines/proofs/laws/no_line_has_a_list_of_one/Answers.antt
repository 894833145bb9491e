use Rattle.writable_lines.proofs.Listing.{lines_listed}
use Rattle.writable_lines.proofs.laws.no_line_has_a_list_of_one.Goals as goal

pub returns : goal.returns
returns c = lines_listed
