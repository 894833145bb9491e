use Rattle.std.proofs.Common.{sym, ap, ◌∙◌}
use Rattle.std.specs.Option.{option_copied}
use Rattle.clause_form.specs.declared.clause.AtomOf.TheVariants.{False}
use Rattle.clause_learning.proofs.Members.{none_or}
use Rattle.sat_step.proofs.reading.atom_at.Goals as goal

pub returns-in-None : goal.returns-in-None
returns-in-None c = sym (none_or c.args.atoms.now c.args.number False (sym c.at.ensures ∙ ap option_copied c.in-None.is))
