use Rattle.derive_kit.proofs.Built.{ok_map}
use Rattle.norm_proofs.proofs.AlongsideFacts.{each_shows}
use Rattle.norm_proofs.proofs.paths.gathered.Goals as goal

pub returns : goal.returns
returns c =
    ok_map c.under.result (λ made e suits parts. rw e (rw (c.in_ok-last.ensures, c.in_ok-own.ensures, c.in_ok-close.ensures, c.in_ok-node.ensures) (each_shows c.args.forms.now c.args.whole.now c.args.arms suits parts))) c.under.ensures
