use Rattle.std.proofs.Common.{◌≡◌, ◌+◌, ◌-◌, ◌≤◌, length, drop, count_by}
use Rattle.tptp_base.specs.Place.{is_line_feed}
use Rattle.tptp_lexer.proofs.advance.line_feeds.Given as goal

abbrev pub invariant-lines : goal.invariant-lines
invariant-lines l = (l.behind ≤ length l.text) × (l.count + count_by is_line_feed (drop l.behind l.text) ≡ count_by is_line_feed l.text)

abbrev pub decreases-lines : goal.decreases-lines
decreases-lines l = length l.text - l.behind
