use Rattle.derive_kit.proofs.Built.{ok_map}
use Rattle.cover_proofs.proofs.CoverLines.{norm_shown}
use Rattle.cover_proofs.proofs.cover.norm_fact.Goals as goal

pub returns : goal.returns
returns c = ok_map c.apply.result (λ made f n le fact. norm_shown n c.args.signature.now c.args.parent.now c.args.form.now c.args.own c.in_ok-forth.forth made le c.requires.sorted c.in_ok-forth.ensures f fact) c.apply.ensures
