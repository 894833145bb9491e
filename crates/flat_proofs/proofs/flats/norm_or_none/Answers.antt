use Rattle.std.proofs.Common.{refl}
use Rattle.flat_proofs.proofs.FlatFacts.{norm_leads}
use Rattle.flat_proofs.proofs.flats.norm_or_none.Goals as goal

pub returns-then-equal : goal.returns-then-equal
returns-then-equal c = c.if-equal.ensures.0 refl

pub returns : goal.returns
returns c = norm_leads c.args.forth c.args.form.now c.args.norm.now c.in_ok-norm_part.field-0 c.requires.norm c.in_ok-norm_part.ensures
