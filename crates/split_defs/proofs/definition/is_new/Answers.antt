use Rattle.std.proofs.Common.{sym}
use Rattle.split_defs.proofs.Headings.{new_by}
use Rattle.split_defs.proofs.definition.is_new.Goals as goal

pub returns-then-has_kind : goal.returns-then-has_kind
returns-then-has_kind c =
    new_by c.args.theory.now c.args.kind c.args.number c.in-Some.symbol.now c.uses.result (sym (rw (c.in-Some.is, c.signature.ensures) at c.symbol.ensures)) (c.has_kind.ensures.0 c.if-has_kind.true) c.uses.ensures
