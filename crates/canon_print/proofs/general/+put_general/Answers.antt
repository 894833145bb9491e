use Rattle.canon_print.proofs.Equations.{general_text-Pair}
use Rattle.canon_print.proofs.Written.{three_pieces}
use Rattle.canon_print.proofs.general.+put_general.Goals as goal

pub put_general-returns-in_ok-push-in-Pair : goal.put_general-returns-in_ok-push-in-Pair
put_general-returns-in_ok-push-in-Pair t c =
    rw (c.in-Pair.is, general_text-Pair) (three_pieces c.put_general-in-Pair.result _ _ _ _ _ _ _ (rw c.get-in-Pair.ensures at c.in_ok-put_general-in-Pair.ensures) c.in_ok-push-in-Pair.ensures.items (rw c.get-in-Pair-2.ensures at c.put_general-in-Pair.ensures))
