use Rattle.derivation_check.proofs.Pieces.{seven_pieces}
use Rattle.derivation_check.proofs.ending_text.verified_lines.Goals as goal

pub returns : goal.returns
returns c =
    seven_pieces _ _ _ _ _ _ _ _ _ _ _ _ _ _ c.in_ok-lines.ensures.items c.in_ok-put.ensures c.in_ok-put-2.ensures c.in_ok-put-3.ensures c.in_ok-put-4.ensures c.in_ok-put_number.ensures c.in_ok-put-5.ensures
