use Rattle.std.proofs.Common.{not, sym, ap, ◌∙◌}
use Rattle.tptp_base.specs.declared.name.Name.{Name}
use Rattle.include_resolve.specs.Selection.{has_formula}
use Rattle.include_resolve.proofs.Sets.{find_here, find_on, find_end}
use Rattle.include_resolve.proofs.selection.unknown_name_of.Goals as goal

pub returns-then-is_unknown-clause-ok : goal.returns-then-is_unknown-clause-ok
returns-then-is_unknown-clause-ok c =
    find_here (λ (name : Name). not (has_formula c.args.items.now name)) c.args.names.now c.loop-name.name-index c.name-item.result c.loop-name-test.true c.name-item.is
    (ap not (sym (c.in_ok-known.ensures.ok c.name-item.result)) ∙ sym c.is_unknown.ensures ∙ c.if-is_unknown.true) c.loop-name.invariant

pub loop-name-preserved : goal.loop-name-preserved
loop-name-preserved c =
    find_on (λ (name : Name). not (has_formula c.args.items.now name)) c.args.names.now c.loop-name.name-index c.name-item.result c.loop-name-test.true c.name-item.is
    (ap not (sym (c.in_ok-known.ensures.ok c.name-item.result)) ∙ sym c.is_unknown.ensures ∙ c.if-is_unknown.false) c.loop-name.invariant

pub returns-clause-ok : goal.returns-clause-ok
returns-clause-ok c = find_end (λ (name : Name). not (has_formula c.args.items.now name)) c.args.names.now c.loop-name.name-index c.loop-name-test.false c.loop-name.invariant
