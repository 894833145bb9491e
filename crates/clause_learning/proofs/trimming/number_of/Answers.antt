use Rattle.std.proofs.Common.{option_copied, refl, sym, ap, inl, ◌∙◌}
use Rattle.clause_learning.proofs.Keeping.{number_read}
use Rattle.clause_learning.proofs.trimming.number_of.Goals as goal

pub returns-then-old-given : goal.returns-then-old-given
returns-then-old-given c = inl (c.if-old-given.true, refl)

pub returns-in-Some : goal.returns-in-Some
returns-in-Some c = number_read c.args.given c.args.numbers.now c.args.number c.in-Some.next.now c.if-old-given.false (sym c.at.ensures ∙ ap option_copied c.in-Some.is)
