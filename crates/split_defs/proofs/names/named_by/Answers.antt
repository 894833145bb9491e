use Rattle.std.proofs.Common.{refl}
use Rattle.derive_kit.proofs.Built.{ok_map}
use Rattle.clause_rules.proofs.Firsts.{untrue}
use Rattle.split_defs.proofs.NameTests.{IsNameOf, named_found, not_named, no_equivalence}
use Rattle.split_defs.proofs.names.named_by.Goals as goal

pub returns-then-is_name : goal.returns-then-is_name
returns-then-is_name c =
    ok_map c.as_clause.result
    (λ found e. named_found c.args.line.now c.args.form.now c.in-Iff.name c.in-Iff.meaning c.in-Iff.is c.get.result.now c.get-then-is_name.result.now c.get.ensures c.get-then-is_name.ensures found (c.is_name.ensures.0 c.if-is_name.true) e)
    c.as_clause.ensures

pub returns-else-is_name : goal.returns-else-is_name
returns-else-is_name c =
    not_named c.args.line.now c.args.form.now c.in-Iff.name c.in-Iff.meaning c.in-Iff.is c.get.result.now c.in-Iff.meaning c.get.ensures refl (untrue c.is_name.result (IsNameOf c.args.line.now c.get.result.now) c.if-is_name.false c.is_name.ensures)

pub returns-in_default : goal.returns-in_default
returns-in_default c = no_equivalence c.args.line.now c.args.form.now c.in_default.not-Iff
