use Rattle.skolem_proofs.proofs.Wholes.{may_begin, witnessed}
use Rattle.skolem_proofs.proofs.whole.skolem_proof.Goals as goal

pub witness-requires : goal.witness-requires
witness-requires c =
    let fits = c.requires.fits in
    (fits.0, fits.1, may_begin c.args.uses.now c.args.norm.now c.new-choices.result c.new-choices.ensures fits.0 fits.1 fits.2 c.requires.small fits.3 fits.4)

pub returns : goal.returns
returns c =
    witnessed c.args.uses.now c.args.norm.now c.new-choices.result c.new-choices.ensures c.args.first c.witness.new.entries c.in_ok-made.made.form c.in_ok-made.made.part c.requires.small c.in_ok-made.ensures
